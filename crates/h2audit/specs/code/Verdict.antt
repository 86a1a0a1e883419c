-- The verdict on what is told of connections.
use Rattle.std.specs.List.{list_any}
use Rattle.std.specs.Prelude.{Bool, false, List}
use Rattle.audit_terms.specs.Kind.{is_fault}
use Rattle.audit_terms.specs.declared.findings.Finding.{Finding}
use Rattle.audit_terms.specs.declared.timed_findings.TimedFinding.{TimedFinding}
use Rattle.report_pages.specs.declared.told.Outcome.{Outcome}
use Rattle.report_pages.specs.declared.told.Outcome.TheVariants.{Audited, Found}
use Rattle.split_merge.specs.code.Findings.{findings_in}

-- some finding is a breach of a rule
abbrev pub is_faulty : List Finding → Bool
is_faulty findings = list_any (λ (finding : Finding). is_fault finding.kind) findings

-- a finding that has the record and the time of its frame is one
abbrev pub is_timed_fault : TimedFinding → Bool
is_timed_fault one = is_fault one.kind

-- some finding of the connection is one
abbrev pub has_fault_in : Outcome → Bool
has_fault_in (Found found) = list_any is_timed_fault found.value.findings.items
has_fault_in (Audited audited) = is_faulty (findings_in audited.value.findings)
has_fault_in _ = false
