-- The frames of a connection, handed on while its segments come.
use Rattle.std.specs.Prelude.{◌≡◌, ℕ, List, length}
use Rattle.audit_terms.specs.declared.frames.Frame.{Frame}
use Rattle.packet_heads.specs.declared.packets.Segment.{Segment}
use Rattle.tcp_streams.specs.Bytes.{bytes_of}
use Rattle.tcp_streams.specs.code.{Flows.HasTakenAll, SentFlows.AreFlowsSent, Side.AreSentIn, Side.Sent}
use Rattle.tcp_streams.specs.declared.{connection_flows.FlowEnd.FlowEnd, flows.Flow.Flow}
use Rattle.std.specs.Prelude.{Some}
use Rattle.h2_frames.specs.code.Connection.{HasTaken, IsEnding}
use Rattle.h2_frames.specs.declared.connection_frames.ConnectionFrames.{ConnectionFrames}
use Rattle.h2_frames.specs.declared.connection_frames.HandedFrames.{HandedFrames}

-- the flow ends so
pub record EndsSo (flow : Flow) (end : FlowEnd) : Type 0 where
  pub length_is : end.length ≡ length (bytes_of flow)
  pub gap_is : end.gap ≡ flow.gap

module _ {V : Type 0} (after : List Frame → V → Type 0) where
  -- of a connection that a SYN opened these segments were taken, none of a record above `last`
  abbrev pub HasTakenSent : (opening : Segment) → List Sent → (last : ℕ) → ConnectionFrames V → Type 0
  HasTakenSent opening sent last stage = HasTakenAll (HasTaken after) opening sent last stage.flows

  -- what the two flows hold, and where they end
  pub record HasHandedFrames (client server : Flow) (all : HandedFrames V) : Type 0 where
    pub ending : IsEnding after client server all.visitor all.ending
    pub client_end : EndsSo client all.client
    pub server_end : EndsSo server all.server

  -- so it is of both flows of these segments, of whatever capture they were sent in
  abbrev pub HasHandedAll : (opening : Segment) → List Sent → HandedFrames V → Type 0
  HasHandedAll opening sent all =
      (capture : List ℕ) (client server : Flow) → AreSentIn (Some capture) sent
      → AreFlowsSent capture opening sent client server → HasHandedFrames client server all
