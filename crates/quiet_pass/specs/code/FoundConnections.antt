-- A connection of which something may be shown, and what is.
use Rattle.std.specs.Prelude.{◌≡◌, Bool, ℕ, List, length, map, IsTrue}
use Rattle.audit_terms.specs.Finding.{shown}
use Rattle.audit_terms.specs.Pass.{pass}
use Rattle.audit_terms.specs.Timed.{timed}
use Rattle.audit_terms.specs.code.runs.Orderly as runs
use Rattle.audit_terms.specs.declared.frames.Frame.{Frame}
use Rattle.audit_terms.specs.declared.sides.Sides.{Sides}
use Rattle.h2_frames.specs.Cut.{IsHttp2}
use Rattle.quiet_pass.specs.declared.found_connections.FoundConnection.{FoundConnection}
use Rattle.tcp_streams.specs.declared.flows.Flow.{Flow}

-- the flows hold so many frames, and tails; and this is what one pass over the frames shows, where credits are shown or
-- are not, each with the record and the time of its frame
pub record IsFoundOf (frames_shown : Bool) (client server : Flow) (found : FoundConnection) : Type 0 where
  pub frames : List Frame
  pub started : IsTrue server.started
  pub http2 : IsHttp2 client server frames found.tails
  pub orderly : runs.IsOrderly frames
  pub count : found.frames ≡ length frames
  pub findings : found.findings.items ≡ map (timed frames) (shown frames_shown (pass frames))

-- these are all frames of a connection, so many, and its tails
pub record AreAllFrames (client server : Flow) (frames : List Frame) (count : ℕ) (tails : Sides ℕ) : Type 0 where
  pub http2 : IsHttp2 client server frames tails
  pub orderly : runs.IsOrderly frames
  pub counted : count ≡ length frames
