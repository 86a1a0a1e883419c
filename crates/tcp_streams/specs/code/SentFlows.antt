-- Both flows of a connection whose segments were sent so, one by one, with their payloads. No report rests on this: a
-- law says that `assemble` gives these flows.
use Rattle.std.specs.Prelude.{ℕ, List, Option, Some}
use Rattle.audit_terms.specs.declared.sides.Side.{Side}
use Rattle.audit_terms.specs.declared.sides.Side.TheVariants.{Client, Server}
use Rattle.audit_terms.specs.declared.sides.Sides.{Sides}
use Rattle.packet_heads.specs.declared.packets.Segment.{Segment}
use Rattle.tcp_streams.specs.declared.flows.Flow.{Flow}
use Rattle.tcp_streams.specs.Flow.{IsFlowFrom}
use Rattle.tcp_streams.specs.code.Flows.{server_number}
use Rattle.tcp_streams.specs.code.Side.{AreSentIn, Sent, segments_among}
use Rattle.tcp_streams.specs.code.Taken.{sent_by}

-- the initial numbers of the connection that a SYN opened
abbrev pub initial_sent : Segment → List Sent → Side → Option ℕ
initial_sent opening sent Client = Some opening.seq
initial_sent opening sent Server = server_number opening.from sent

abbrev pub IsFlowSent : List ℕ → Segment → List Sent → Side → Flow → Type 0
IsFlowSent capture opening sent side flow =
    IsFlowFrom (initial_sent opening sent side) capture (segments_among (sent_by opening.from side sent)) flow

-- both its flows
pub record AreFlowsSent (capture : List ℕ) (opening : Segment) (sent : List Sent) (client server : Flow) : Type 0 where
  pub client_is : IsFlowSent capture opening sent Client client
  pub server_is : IsFlowSent capture opening sent Server server

-- the segments have two flows, whatever capture they were sent in
abbrev pub HaveFlows : Segment → List Sent → Type 0
HaveFlows opening sent =
    (capture : List ℕ) → AreSentIn (Some capture) sent
    → (flows : Sides Flow) × AreFlowsSent capture opening sent flows.client flows.server
