-- Both sides of a connection while its segments come. No public clause cites these.
use Rattle.std.specs.Prelude.{◌≡◌, ℕ, ◌+◌, ◌<◌, ◌≤◌, ◌^◌, Bool, not, All, List, [], filter, Option, None, Some}
use Rattle.std.specs.Prelude.{option_map}
use Rattle.audit_terms.specs.declared.sides.Side.{Side}
use Rattle.audit_terms.specs.declared.sides.Side.TheVariants.{Client, Server}
use Rattle.packet_heads.specs.declared.packets.Endpoint.{Endpoint}
use Rattle.packet_heads.specs.declared.packets.Segment.{Segment}
use Rattle.tcp_streams.specs.declared.both_sides.BothSides.{BothSides}
use Rattle.tcp_streams.specs.declared.side_stage.SideStage.{SideStage}
use Rattle.tcp_streams.specs.code.Grown.{Growth, of_side}
use Rattle.tcp_streams.specs.Pair.{is_endpoint}
use Rattle.tcp_streams.specs.Sequence.{payload_length}
use Rattle.tcp_streams.specs.code.Orderly.{payload_sum}
use Rattle.tcp_streams.specs.code.Side.{IsSideStage, Sent, segments_among}

-- the opener's segments are the client's, all others are the server's
abbrev pub is_by : Endpoint → Side → Segment → Bool
is_by client Client s = is_endpoint s.from client
is_by client Server s = not (is_endpoint s.from client)

abbrev pub sent_by : Endpoint → Side → List Sent → List Sent
sent_by client side sent = filter (λ (one : Sent). is_by client side one.0) sent

-- the server's side, if its number is known; otherwise nothing was handed on
abbrev pub ServerStands : List Sent → List Growth → Option SideStage → Type 0
ServerStands sent grown None = grown ≡ []
ServerStands sent grown (Some stage) = IsSideStage sent grown stage × (stage.side ≡ Server)

-- the numbers that are known
abbrev pub number_of : Option SideStage → Option ℕ
number_of stage = option_map (λ (s : SideStage). s.initial_number) stage

-- the sides' initial numbers, and who the client is, are as before
pub record AreSameSides {V : Type 0} (old new : BothSides V) : Type 0 where
  pub client : new.client ≡ old.client
  pub client_number : new.client_side.initial_number ≡ old.client_side.initial_number
  pub server_number : number_of new.server_side ≡ number_of old.server_side

-- a segment that may come next, behind these, none of which is of a record above `last`: its record is, and with its
-- own the payloads stay shorter than 2 ^ 31 together, as those of a capture are
pub record IsNextSent (sent : List Sent) (last : ℕ) (s : Segment) : Type 0 where
  pub above : last < s.rec
  pub room : payload_sum (segments_among sent) + payload_length s < 2 ^ 31

module _ {V : Type 0} (after : List Growth → V → Type 0) where
  -- these segments, none of a record above `last`, were taken
  pub record AreTaken (sent : List Sent) (last : ℕ) (both : BothSides V) : Type 0 where
    pub grown : List Growth
    pub visited : after grown both.visitor
    pub client_side : both.client_side.side ≡ Client
    pub client_is : IsSideStage (sent_by both.client Client sent) (of_side Client grown) both.client_side
    pub server_is : ServerStands (sent_by both.client Server sent) (of_side Server grown) both.server_side
    pub sent_upto : All (λ (one : Sent). one.0.rec ≤ last) sent
    pub grown_upto : All (λ (g : Growth). g.rec ≤ last) grown
