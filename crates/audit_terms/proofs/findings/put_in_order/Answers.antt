use Rattle.std.proofs.{Common.ap, Common.rules, lemmas.List.Sorted.answers_always, lemmas.List.Sorted.ranks_by}
use Rattle.std.specs.Ordering.{is_lt}
use Rattle.audit_terms.proofs.FindingOrder.{finding_total, in_order-sorted}
use Rattle.audit_terms.specs.{Finding.finding_cmp, declared.findings.Finding.Finding}
use Rattle.audit_terms.proofs.findings.put_in_order.Goals as goal

pub returns-clause-ok : goal.returns-clause-ok
returns-clause-ok c =
    in_order-sorted c.args.found.now.items c.sort_by.new.self.items c.in_ok-sort_by.ensures.permutation
    (c.in_ok-sort_by.ensures.sorted (λ x y. is_lt (finding_cmp x y)) (ranks_by finding_total (λ (x : Finding). x))
    (answers_always _ _ _ (λ f a r q k. ap is_lt (search rules))))
