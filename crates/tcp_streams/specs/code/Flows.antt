-- The flows of a connection while its segments come, some of which may wait for the server's number. No public clause
-- cites these, but what is promised at the end (`HasHandedOn`).
use Rattle.std.specs.Prelude.{◌≡◌, ℕ, ◌<◌, ◌^◌, All, List, [], ◌∷◌, ◌++◌, find, length, Option, None, Some, option_map}
use Rattle.std.specs.Prelude.{Bool, Box, true, false, ◌&&◌, ◌||◌, Vec, nat_lt, not}
use Rattle.std.specs.declared.alloc.Global.{Global}
use Rattle.audit_terms.specs.declared.sides.Side.{Side}
use Rattle.audit_terms.specs.declared.sides.Side.TheVariants.{Client, Server}
use Rattle.packet_heads.specs.declared.packets.Endpoint.{Endpoint}
use Rattle.packet_heads.specs.declared.packets.Segment.{Segment}
use Rattle.tcp_streams.specs.declared.{both_sides.BothSides.BothSides, side_stage.SideStage.SideStage}
use Rattle.tcp_streams.specs.declared.{waiting.Waiting.Waiting, waiting.WaitingSegments.WaitingSegments}
use Rattle.tcp_streams.specs.declared.connection_flows.ConnectionFlows.{ConnectionFlows}
use Rattle.tcp_streams.specs.declared.connection_flows.{FlowEnd.FlowEnd, HandedFlows.HandedFlows}
use Rattle.tcp_streams.specs.declared.side_flow.SideFlow.{SideFlow}
use Rattle.tcp_streams.specs.Flow.{IsFlow, IsGap}
use Rattle.tcp_streams.specs.code.Grown.{Growth, arrivals_grown, bytes_grown, of_side}
use Rattle.tcp_streams.specs.Pair.{is_endpoint}
use Rattle.tcp_streams.specs.Sequence.{Source, payload_length, source}
use Rattle.tcp_streams.specs.code.Orderly.{payload_sum}
use Rattle.tcp_streams.specs.code.Past.{answers}
use Rattle.tcp_streams.specs.code.SideFlow.{IsSideFlow}
use Rattle.tcp_streams.specs.code.Side.{AreSentIn, IsSent, Sent, segments_among}
use Rattle.tcp_streams.specs.code.Taken.{AreTaken, number_of, sent_by}

-- the payloads, one after the other
abbrev pub payloads : List Sent → List ℕ
payloads [] = []
payloads (one ∷ later) = one.1 ++ payloads later

-- it has these segments, with their payloads
pub record HasSegments (sent : List Sent) (waiting : WaitingSegments) : Type 0 where
  pub segments_are : waiting.segments.items ≡ segments_among sent
  pub bytes_are : waiting.bytes.items ≡ payloads sent

abbrev pub AreWaitingIn : List Sent → Option (Box WaitingSegments Global) → Type 0
AreWaitingIn sent None = sent ≡ []
AreWaitingIn sent (Some kept) = HasSegments sent kept.value

-- these segments wait
abbrev pub AreWaiting : List Sent → Waiting → Type 0
AreWaiting sent waiting = AreWaitingIn sent waiting.kept

-- their records rise from above one, to the last
abbrev pub RiseAbove : ℕ → List Sent → Type 0
RiseAbove low [] = Unit {0}
RiseAbove low (one ∷ later) = (low < one.0.rec) × RiseAbove one.0.rec later

abbrev pub last_of : ℕ → List Sent → ℕ
last_of low [] = low
last_of low (one ∷ later) = last_of one.0.rec later

-- each is a segment with its payload
abbrev pub AreAllSent : List Sent → Type 0
AreAllSent sent = All (λ (one : Sent). IsSent one.0 one.1) sent

-- these may follow those that were taken: segments with their payloads, of records that rise; and all payloads are
-- shorter than 2 ^ 31 together
pub record MayFollow (taken : List Sent) (low : ℕ) (sent : List Sent) : Type 0 where
  pub each : AreAllSent sent
  pub rise : RiseAbove low sent
  pub short : payload_sum (segments_among (taken ++ sent)) < 2 ^ 31

-- the server's number, where its SYN ACK was sent
abbrev pub server_number : Endpoint → List Sent → Option ℕ
server_number client sent = option_map (λ (s : Segment). s.seq) (find (answers client) (segments_among sent))

-- no segment has payload
abbrev pub AreEmpty : List Sent → Type 0
AreEmpty sent = All (λ (one : Sent). payload_length one.0 ≡ 0) sent

-- while the server's number is not known, none of its bytes were taken; and then none wait
abbrev pub Waits : Endpoint → (taken waiting : List Sent) → Option SideStage → Type 0
Waits client taken waiting None = AreEmpty (sent_by client Server taken)
Waits client taken waiting (Some _) = waiting ≡ []

-- this SYN opened the connection: who sent it is the client, and its number the client's
pub record IsOpenedBy {V : Type 0} (opening : Segment) (both : BothSides V) : Type 0 where
  pub client : both.client ≡ opening.from
  pub number : both.client_side.initial_number ≡ opening.seq

-- where a flow without bytes ends
abbrev pub no_end : FlowEnd
no_end = record { length = 0; gap = None }

module _ {V : Type 0} (after : List Growth → V → Type 0) where
  -- of a connection that a SYN opened these segments were taken, the last ones of which may wait; none is of a record
  -- above `last`
  pub record HasTakenAll (opening : Segment) (sent : List Sent) (last : ℕ) (flows : ConnectionFlows V) : Type 0 where
    pub taken : List Sent
    pub waiting : List Sent
    pub low : ℕ
    pub split : sent ≡ taken ++ waiting
    pub opened : IsOpenedBy opening flows.both
    pub are_taken : AreTaken after taken low flows.both
    pub are_waiting : AreWaiting waiting flows.waiting
    pub follow : MayFollow taken low waiting
    pub last_is : last_of low waiting ≡ last
    pub waits : Waits flows.both.client taken waiting flows.both.server_side
    pub number : number_of flows.both.server_side ≡ server_number flows.both.client sent

  -- a side with this number was handed on: its flow, of whatever capture these payloads stand in
  pub record IsHandedOn
      (client : Endpoint) (sent : List Sent) (side : Side) (grown : List Growth) (number : ℕ) (end : FlowEnd)
      : Type 0 where
    pub length_is : end.length ≡ length (bytes_grown (of_side side grown))
    pub flow : (capture : List ℕ) → AreSentIn (Some capture) sent
        → IsFlow capture (source number (segments_among (sent_by client side sent)))
        (bytes_grown (of_side side grown)) (arrivals_grown 0 (of_side side grown)) end.gap

  -- what was handed on of the server: its flow, or nothing where its number is not known
  abbrev pub IsServerHandedOn : Endpoint → List Sent → List Growth → (number : Option ℕ) → (end : FlowEnd) → Type 0
  IsServerHandedOn client sent grown None end = (of_side Server grown ≡ []) × (end ≡ no_end)
  IsServerHandedOn client sent grown (Some number) end = IsHandedOn client sent Server grown number end

  -- a visitor that was handed both flows of these segments of the connection that a SYN opened
  pub record HasHandedOn (opening : Segment) (sent : List Sent) (all : HandedFlows V) : Type 0 where
    pub grown : List Growth
    pub visited : after grown all.visitor
    pub client_flow : IsHandedOn opening.from sent Client grown opening.seq all.client
    pub server_flow : IsServerHandedOn opening.from sent grown (server_number opening.from sent) all.server
    pub server_number_is : all.server_number ≡ server_number opening.from sent

-- none of these
abbrev pub is_none_sent : List Sent → Bool
is_none_sent [] = true
is_none_sent (_ ∷ _) = false

-- the segment has to wait, where so many wait already: the server's number is not known, and it does not tell it
abbrev pub has_to_wait : Endpoint → Option SideStage → (waiting : List Sent) → Segment → (payload : List ℕ) → Bool
has_to_wait client (Some _) waiting s payload = false
has_to_wait client None waiting s payload =
    not (answers client s)
    && (not (is_none_sent waiting) || (not (is_endpoint s.from client) && nat_lt 0 (length payload)))

-- the segment tells the server's number, which is not known yet
abbrev pub is_answered : Endpoint → Option SideStage → Segment → Bool
is_answered client None s = answers client s
is_answered client (Some _) s = false

-- where a side's flow ends
pub record IsEndOf (flow : SideFlow (Vec ℕ Global)) (end : FlowEnd) : Type 0 where
  pub length_is : end.length ≡ flow.end
  pub gap_is : (sources : ℕ → Option Source) → IsSideFlow sources flow → IsGap sources flow.end end.gap

-- the number of the server's side, and where its flow ends
abbrev pub IsServerEnd : Option SideStage → (number : Option ℕ) → (end : FlowEnd) → Type 0
IsServerEnd None number end = (number ≡ None) × (end ≡ no_end)
IsServerEnd (Some stage) number end = (number ≡ Some stage.initial_number) × IsEndOf stage.flow end
