-- Connections of which all frames are kept as they come, and what is known of their flows then.
use Rattle.std.specs.Prelude.{◌≡◌, ℕ, List}
use Rattle.audit_report.specs.FlowLine.{extents_of}
use Rattle.audit_terms.specs.declared.sides.Side.TheVariants.{Client, Server}
use Rattle.audit_terms.specs.declared.sides.Sides.{Sides}
use Rattle.h2_frames.specs.code.ConnectionFrames.{HasHandedAll, HasTakenSent}
use Rattle.h2_frames.specs.code.Listed.{AreListed, IsListedCut}
use Rattle.h2_frames.specs.declared.connection_frames.HandedFrames.{HandedFrames}
use Rattle.h2_frames.specs.declared.frame_list.FrameList.{FrameList}
use Rattle.packet_heads.specs.declared.packets.Packet.{Packet}
use Rattle.packet_heads.specs.declared.packets.Segment.{Segment}
use Rattle.report_pages.specs.code.Reach.{extents_in}
use Rattle.tcp_streams.specs.Membership.{IsConnectionOf, belongings}
use Rattle.tcp_streams.specs.code.Side.{Sent}
use Rattle.tcp_streams.specs.declared.flows.Flow.{Flow}
use Rattle.tcp_streams.specs.declared.members.Connection.{Connection}
use Rattle.h2audit.specs.Audited.{IsFlowOf}
use Rattle.h2audit.specs.declared.listed_connections.HeldFlows.{HeldFlows}
use Rattle.h2audit.specs.declared.listed_connections.ListedConnection.{ListedConnection}

-- of a connection that a SYN opened these segments were taken, none of a record above `last`, and the frames listed
abbrev pub HasListed : (opening : Segment) → List Sent → (last : ℕ) → ListedConnection → Type 0
HasListed opening sent last connection = HasTakenSent AreListed opening sent last connection.frames

-- what both flows of these segments hold, of whatever capture they were sent in
abbrev pub IsListedOfSent : (opening : Segment) → List Sent → HandedFrames FrameList → Type 0
IsListedOfSent opening sent handed = HasHandedAll AreListed opening sent handed

-- how far two flows reach, and what they hold
pub record HoldsFlows (client server : Flow) (held : HeldFlows) : Type 0 where
  pub extents : extents_in held.reach ≡ extents_of client server
  pub cut : IsListedCut client server held.cut

-- so it is of the flows of a connection
pub record HoldsFlowsOf (capture : List ℕ) (packets : List Packet) (connection : Connection) (held : HeldFlows)
    : Type 0 where
  pub flows : Sides Flow
  pub client : IsFlowOf capture packets connection Client flows.client
  pub server : IsFlowOf capture packets connection Server flows.server
  pub holds : HoldsFlows flows.client flows.server held

-- and of the connection that a SYN opened
pub record IsHeldOfOpening (capture : List ℕ) (packets : List Packet) (opening : Segment) (held : HeldFlows)
    : Type 0 where
  pub flows : (connection : Connection) → IsConnectionOf (belongings packets) opening connection
      → HoldsFlowsOf capture packets connection held

-- it is known of some flows
abbrev pub HasFlows : HeldFlows → Type 0
HasFlows held = (flows : Sides Flow) × IsListedCut flows.client flows.server held.cut
