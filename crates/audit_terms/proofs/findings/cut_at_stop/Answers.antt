use Rattle.std.{proofs.Common.ap, proofs.Common.sym, proofs.Common.◌∙◌, specs.List.position}
use Rattle.audit_terms.{proofs.UptoStop.upto_stop-found, proofs.UptoStop.upto_stop-none, specs.Finding.stops}
use Rattle.audit_terms.proofs.findings.cut_at_stop.Goals as goal

pub returns-in-Some : goal.returns-in-Some
returns-in-Some c =
    c.truncate.ensures.items ∙ upto_stop-found c.args.found.now.items c.in-Some.last
    (ap (position stops) (sym c.deref.ensures.value) ∙ sym c.first_stop_index.ensures ∙ c.in-Some.is)

pub returns-in_default : goal.returns-in_default
returns-in_default c =
    upto_stop-none c.args.found.now.items
    (ap (position stops) (sym c.deref.ensures.value) ∙ sym c.first_stop_index.ensures ∙ c.in_default.is)
