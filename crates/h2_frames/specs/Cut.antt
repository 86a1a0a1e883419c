-- What the two flows of a connection hold (RFC 9113, 3.4 and 4.1). Which of the four a connection is, is decided in
-- this order: no handshake, no preface, not HTTP/2, HTTP/2.
use Rattle.std.specs.Prelude.{◌≡◌, ℕ, List, length, IsTrue, IsFalse}
use Rattle.tcp_streams.specs.declared.flows.Flow.{Flow}
use Rattle.tcp_streams.specs.Bytes.{bytes_of}
use Rattle.audit_terms.specs.declared.sides.Side.TheVariants.{Client, Server}
use Rattle.audit_terms.specs.declared.sides.Sides.{Sides}
use Rattle.audit_terms.specs.declared.frames.Frame.{Frame}
use Rattle.h2_frames.specs.declared.cuts.Cut.{Cut}
use Rattle.h2_frames.specs.declared.cuts.Cut.TheVariants.{Http2, NotHttp2, NoPreface, NoHandshake}
use Rattle.h2_frames.specs.declared.spelling.Spelled.{Spelled}
use Rattle.h2_frames.specs.Preface.{preface, IsPrefaceCutShort, BeginsWithPreface}
use Rattle.h2_frames.specs.Spelling.{Spells}
use Rattle.h2_frames.specs.CaptureOrder.{captured_from, capture_order}

-- the client's bytes are the preface and then frames, the server's are frames; the frames of both stand in capture
-- order
pub record IsHttp2 (client server : Flow) (frames : List Frame) (tails : Sides ℕ) : Type 0 where
  pub after_preface : List ℕ
  pub client_frames : List Spelled
  pub client_tail : List ℕ
  pub server_frames : List Spelled
  pub server_tail : List ℕ
  pub client_begins : BeginsWithPreface (bytes_of client) after_preface
  pub client_spells : Spells after_preface client_frames client_tail
  pub server_spells : Spells (bytes_of server) server_frames server_tail
  pub in_order : frames ≡ capture_order
      (captured_from Client client.arrivals.items 1 (length preface) client_frames)
      (captured_from Server server.arrivals.items 1 0 server_frames)
  pub tails_are : tails ≡ record { client = length client_tail; server = length server_tail }

-- the server's flow is not started; else the client's ends within the preface; else it does not begin with it; else
-- both are cut into frames
abbrev pub IsCut : (client server : Flow) → Cut → Type 0
IsCut client server NoHandshake = IsFalse server.started
IsCut client server NoPreface = IsTrue server.started × IsPrefaceCutShort (bytes_of client)
IsCut client server NotHttp2 =
    IsTrue server.started × ¬ IsPrefaceCutShort (bytes_of client)
    × ((rest : List ℕ) → ¬ BeginsWithPreface (bytes_of client) rest)
IsCut client server (Http2 frames tails) = IsTrue server.started × IsHttp2 client server frames.items tails
