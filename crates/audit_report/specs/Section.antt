-- What the report says of one connection: its section.
use Rattle.std.specs.Prelude.{ℕ, Bool, List, [], ◌∷◌, ◌++◌, ◌+◌}
use Rattle.audit_report.specs.ConnectionLine.{connection_line}
use Rattle.audit_report.specs.EndLine.{end_line}
use Rattle.audit_report.specs.FindingLine.{finding_lines}
use Rattle.audit_report.specs.FlowLine.{flow_line, tail_of}
use Rattle.audit_report.specs.StallLine.{stall_lines}
use Rattle.audit_report.specs.declared.audited.Audited.{Audited}
use Rattle.audit_report.specs.declared.extents.Extent.{Extent}
use Rattle.audit_terms.specs.declared.findings.Finding.{Finding}
use Rattle.audit_terms.specs.declared.sides.Side.TheVariants.{Client, Server}
use Rattle.audit_terms.specs.declared.sides.Sides.{Sides}
use Rattle.h2_frames.specs.declared.cuts.Cut.{Cut}
use Rattle.h2_frames.specs.declared.cuts.Cut.TheVariants.{Http2}
use Rattle.audit_report.specs.Stalls.{stalls}
use Rattle.tcp_streams.specs.declared.members.Connection.{Connection}

-- the lines of the connection and of its two flows
abbrev pub connection_text : (k : ℕ) → Connection → (flows : Sides Extent) → Cut → List ℕ
connection_text k connection flows cut = connection_line k connection cut
    ++ flow_line Client flows.client (tail_of Client cut)
    ++ flow_line Server flows.server (tail_of Server cut)

-- of an HTTP/2 connection, which alone is audited, the lines of the findings shown, of the stalls that the findings
-- tell of, and of the audit's end
abbrev pub findings_text : (frames_shown : Bool) → Cut → List Finding → List ℕ
findings_text frames_shown (Http2 frames tails) findings = finding_lines frames_shown frames.items findings
    ++ stall_lines (stalls frames.items findings)
    ++ end_line findings
findings_text frames_shown _ findings = []

-- all that the report says of the k-th connection, and of those after it
abbrev pub sections_text : (frames_shown : Bool) (k : ℕ) → List Connection → List Audited → List ℕ
sections_text frames_shown k (connection ∷ connections) (audited ∷ rest) =
    (connection_text k connection audited.extents audited.cut
    ++ findings_text frames_shown audited.cut audited.findings.items)
    ++ sections_text frames_shown (k + 1) connections rest
sections_text frames_shown k _ _ = []
