use Rattle.std.{proofs.Common.ap, proofs.Common.sym, proofs.Common.◌∙◌, specs.List.position}
use Rattle.audit_terms.{proofs.TimedStop.timed-found, proofs.TimedStop.timed-none, specs.Finding.stops}
use Rattle.audit_terms.specs.code.TimedFindings.{finding_in}
use Rattle.audit_terms.specs.declared.timed_findings.TimedFinding.{TimedFinding}
use Rattle.audit_terms.proofs.timed_findings.cut_timed_at_stop.Goals as goal

pub returns-in-Some : goal.returns-in-Some
returns-in-Some c =
    c.truncate.ensures.items ∙ timed-found c.args.found.now.items c.in-Some.last
    (ap (position (λ (one : TimedFinding). stops (finding_in one))) (sym c.deref.ensures.value)
    ∙ sym c.first_stop_index.ensures ∙ c.in-Some.is)

pub returns-in_default : goal.returns-in_default
returns-in_default c =
    timed-none c.args.found.now.items
    (ap (position (λ (one : TimedFinding). stops (finding_in one))) (sym c.deref.ensures.value)
    ∙ sym c.first_stop_index.ensures ∙ c.in_default.is)
