use Rattle.{std.proofs.lemmas.List.Sorted.IsNonDecreasingBy-from_sort_by_key, stop_desk.proofs.Words.rules}
use Rattle.stop_desk.proofs.settling.put_in_job_order.Goals as goal

pub returns-clause-sorted : goal.returns-clause-sorted
returns-clause-sorted g c =
    IsNonDecreasingBy-from_sort_by_key (λ p. p.job) _ c.sort_unstable_by_key.ensures.sorted (λ a r q k. search rules)
