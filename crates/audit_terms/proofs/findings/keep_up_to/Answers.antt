use Rattle.std.proofs.{Common.rules, lemmas.Fn.filter_same}
use Rattle.audit_terms.proofs.findings.keep_up_to.Goals as goal

pub returns-in-Some : goal.returns-in-Some
returns-in-Some c = rw (c.in-Some.is) (filter_same _ _ _ (λ x b f' k. search rules) _ _ c.retain.ensures.filtered)
