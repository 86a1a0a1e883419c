-- A connection of which nothing is shown.
use Rattle.std.specs.Prelude.{◌≡◌, Bool, List, [], length, IsTrue}
use Rattle.quiet_pass.specs.declared.quiet_connections.QuietConnection.{QuietConnection}
use Rattle.audit_terms.specs.Finding.{shown}
use Rattle.audit_terms.specs.Pass.{pass}
use Rattle.audit_terms.specs.code.runs.Orderly as runs
use Rattle.audit_terms.specs.declared.frames.Frame.{Frame}
use Rattle.h2_frames.specs.Cut.{IsHttp2}
use Rattle.tcp_streams.specs.declared.flows.Flow.{Flow}

-- the flows hold so many frames, and tails; one pass over the frames shows nothing
pub record IsQuietOf (frames_shown : Bool) (client server : Flow) (quiet : QuietConnection) : Type 0 where
  pub frames : List Frame
  pub started : IsTrue server.started
  pub http2 : IsHttp2 client server frames quiet.tails
  pub orderly : runs.IsOrderly frames
  pub count : quiet.frames ≡ length frames
  pub silent : shown frames_shown (pass frames) ≡ []
