-- Both sides of a connection, whose frames are cut out of their bytes as they come.
use Rattle.std.specs.List.{AllPairs}
use Rattle.std.specs.Prelude.{◌≡◌, ℕ, ◌+◌, ◌<◌, ◌≤◌, ◌^◌, List, [], ◌∷◌, length, IsTrue}
use Rattle.audit_terms.specs.code.runs.Orderly.{IsOrderly}
use Rattle.audit_terms.specs.declared.frames.Frame.{Frame}
use Rattle.audit_terms.specs.declared.sides.Side.{Side}
use Rattle.audit_terms.specs.declared.sides.Side.TheVariants.{Client, Server}
use Rattle.audit_terms.specs.declared.sides.Sides.{Sides}
use Rattle.tcp_streams.specs.code.Grown.{ComesBefore, Growth, bytes_grown}
use Rattle.tcp_streams.specs.declared.flows.Arrival.{Arrival}
use Rattle.tcp_streams.specs.declared.flows.Flow.{Flow}
use Rattle.h2_frames.specs.CaptureOrder.{capture_order, captured_from}
use Rattle.h2_frames.specs.Cut.{IsCut, IsHttp2}
use Rattle.h2_frames.specs.Spelling.{Spells}
use Rattle.h2_frames.specs.code.Cutter.{IsBegun}
use Rattle.h2_frames.specs.code.Fed.{Fed, MayBring, with_more}
use Rattle.h2_frames.specs.code.Greeting.{Differs, IsGreeted}
use Rattle.h2_frames.specs.code.Growths.{both_fed}
use Rattle.h2_frames.specs.code.Handed.{HasHanded}
use Rattle.h2_frames.specs.declared.connection.ConnectionCutter.{ConnectionCutter}
use Rattle.h2_frames.specs.declared.connection.Ending.{Ending}
use Rattle.h2_frames.specs.declared.connection.Ending.TheVariants.{Http2, NoHandshake, NoPreface, NotHttp2}
use Rattle.h2_frames.specs.declared.cuts.Cut.TheVariants.{NoHandshake as CutNoHandshake, NoPreface as CutNoPreface}
use Rattle.h2_frames.specs.declared.cuts.Cut.TheVariants.{NotHttp2 as CutNotHttp2}
use Rattle.h2_frames.specs.declared.greeting.Greeting.{Greeting}
use Rattle.h2_frames.specs.declared.greeting.Greeting.TheVariants.{Other}
use Rattle.h2_frames.specs.declared.spelling.Spelled.{Spelled}

-- what was fed, with these bytes of a side, which a record brings
abbrev pub grown : Side → (more : List ℕ) → (rec nanos : ℕ) → Sides Fed → Sides Fed
grown Client more rec nanos fed = record fed { client = with_more fed.client more rec nanos }
grown Server more rec nanos fed = record fed { server = with_more fed.server more rec nanos }

-- a record may bring bytes of a side
abbrev pub MayGrow : Side → (rec : ℕ) → Sides Fed → Type 0
MayGrow Client rec fed = MayBring rec fed.client fed.server
MayGrow Server rec fed = MayBring rec fed.server fed.client

abbrev pub fed_length : Sides Fed → ℕ
fed_length fed = length fed.client.bytes + length fed.server.bytes

-- arrivals of bytes that came one after the other, to this offset
abbrev pub ReachFrom : (low : ℕ) → List Arrival → (high : ℕ) → Type 0
ReachFrom low [] high = low ≡ high
ReachFrom low (a ∷ later) high = (low ≤ a.upto) × ReachFrom a.upto later high

abbrev pub IsReached : Fed → Type 0
IsReached fed = ReachFrom 0 fed.arrivals (length fed.bytes)

module _ {V : Type 0} (after : List Frame → V → Type 0) where
  -- the bytes are cut into frames and what is begun, and the frames were handed on in capture order
  pub record AreCut (fed : Sides Fed) (cutter : ConnectionCutter V) : Type 0 where
    pub rest : List ℕ
    pub client_frames : List Spelled
    pub client_tail : List ℕ
    pub server_frames : List Spelled
    pub server_tail : List ℕ
    pub greeted : IsGreeted fed.client.bytes rest cutter.greeting
    pub client_spells : Spells rest client_frames client_tail
    pub server_spells : Spells fed.server.bytes server_frames server_tail
    pub client_begun : IsBegun client_tail cutter.client
    pub server_begun : IsBegun server_tail cutter.server
    pub client_reached : IsReached fed.client
    pub server_reached : IsReached fed.server
    pub handed : HasHanded after
        (capture_order (captured_from Client fed.client.arrivals 1 24 client_frames)
        (captured_from Server fed.server.arrivals 1 0 server_frames)) cutter.stage

  abbrev pub HasFedBy : Greeting → Sides Fed → ConnectionCutter V → Type 0
  HasFedBy Other fed cutter = Differs fed.client.bytes
  HasFedBy _ fed cutter = AreCut fed cutter

  -- a cutter that was fed these bytes of both sides
  abbrev pub HasFed : Sides Fed → ConnectionCutter V → Type 0
  HasFed fed cutter = HasFedBy cutter.greeting fed cutter

  -- a cutter that took these growths of both sides, one after the other
  pub record HasTaken (grown : List Growth) (cutter : ConnectionCutter V) : Type 0 where
    pub fed : HasFed (both_fed grown) cutter
    pub in_order : AllPairs ComesBefore grown
    pub short : length (bytes_grown grown) < 2 ^ 31

  -- frames that a visitor was handed, which are all of an HTTP/2 connection
  pub record HasMet (client server : Flow) (visitor : V) (count : ℕ) (tails : Sides ℕ) : Type 0 where
    pub frames : List Frame
    pub visited : after frames visitor
    pub http2 : IsHttp2 client server frames tails
    pub orderly : IsOrderly frames
    pub counted : count ≡ length frames

  -- which cut two flows have; what else than HTTP/2 a visitor was handed of counts for nothing
  abbrev pub IsEnding : (client server : Flow) → V → Ending → Type 0
  IsEnding client server visitor (Http2 count tails) =
      IsTrue server.started × HasMet client server visitor count tails
  IsEnding client server visitor NotHttp2 = IsCut client server CutNotHttp2
  IsEnding client server visitor NoPreface = IsCut client server CutNoPreface
  IsEnding client server visitor NoHandshake = IsCut client server CutNoHandshake
