-- The audit of one connection.
use Rattle.std.specs.Prelude.{◌≡◌, ℕ, Bool, if◌then◌else◌, List, []}
use Rattle.std.specs.List.{AllZip, list_any}
use Rattle.audit_terms.specs.declared.sides.Side.{Side}
use Rattle.audit_terms.specs.declared.sides.Side.TheVariants.{Client, Server}
use Rattle.audit_terms.specs.declared.findings.Finding.{Finding}
use Rattle.audit_terms.specs.Kind.{is_fault}
use Rattle.audit_terms.specs.Finding.{shown}
use Rattle.audit_terms.specs.Pass.{pass}
use Rattle.packet_heads.specs.declared.packets.Packet.{Packet}
use Rattle.tcp_streams.specs.declared.members.Connection.{Connection}
use Rattle.tcp_streams.specs.declared.flows.Flow.{Flow}
use Rattle.tcp_streams.specs.Flow.{IsFlowFrom}
use Rattle.tcp_streams.specs.Members.{initial_of, side_segments}
use Rattle.h2_frames.specs.declared.cuts.Cut.{Cut}
use Rattle.h2_frames.specs.declared.cuts.Cut.TheVariants.{Http2}
use Rattle.h2_frames.specs.Cut.{IsCut}
use Rattle.audit_report.specs.declared.audited.Audited.{Audited}
use Rattle.audit_report.specs.FlowLine.{extents_of}
use Rattle.audit_terms.specs.declared.sides.Sides.{Sides}
use Rattle.h2audit.specs.declared.verdict.Verdict.{Verdict}
use Rattle.h2audit.specs.declared.verdict.Verdict.TheVariants.{Clean, Faults}

-- the flow of a side of a connection
abbrev pub IsFlowOf : List ℕ → List Packet → Connection → Side → Flow → Type 0
IsFlowOf capture packets connection side flow =
    IsFlowFrom (initial_of connection side) capture (side_segments packets connection side) flow

-- what is found in the frames of an HTTP/2 connection: what one pass over them says, up to the first connection error,
-- without the credits where they are not shown
abbrev pub findings_of : (frames_shown : Bool) → Cut → List Finding
findings_of frames_shown (Http2 frames tails) = shown frames_shown (pass frames.items)
findings_of frames_shown _ = []

-- the audit of a connection: the extents of its two flows, what these hold, and what is found in the frames
pub record IsAudited (frames_shown : Bool) (capture : List ℕ) (packets : List Packet) (connection : Connection)
    (audited : Audited) : Type 0 where
  pub flows : Sides Flow
  pub client : IsFlowOf capture packets connection Client flows.client
  pub server : IsFlowOf capture packets connection Server flows.server
  pub extents : audited.extents ≡ extents_of flows.client flows.server
  pub cut : IsCut flows.client flows.server audited.cut
  pub findings : audited.findings.items ≡ findings_of frames_shown audited.cut

-- each connection's audit, in order
abbrev pub AreAudited : (frames_shown : Bool) → List ℕ → List Packet → List Connection → List Audited → Type 0
AreAudited frames_shown capture packets = AllZip (IsAudited frames_shown capture packets)

-- some finding is a breach of a rule
abbrev pub has_fault : Audited → Bool
has_fault audited = list_any (λ (finding : Finding). is_fault finding.kind) audited.findings.items

-- Faults exactly where some connection has a finding that is a fault
abbrev pub verdict_of : List Audited → Verdict
verdict_of audited = if list_any has_fault audited then Faults else Clean
