use Rattle.stream_credit.proofs.Words.{◌≡◌, ℕ, ◌+◌, ◌-◌, ◌^◌, ◌<◌, ◌≤◌, List, take, drop, ap, ◌∙◌, rules, arith, Change}
use Rattle.stream_credit.proofs.Words.{length, nat_lt, length-drop, take_rest, IsPartitionPoint-from_clause, AreOrderly}
use Rattle.stream_credit.proofs.ChangeLemmas.{few-changes, orderly-parted, passed-is}
use Rattle.stream_credit.proofs.changes.Changes.passed.Goals as goal

fits : (met count : ℕ) (all changes : List Change) → all ≡ changes → AreOrderly changes → met ≤ length changes
    → count ≤ length (take (length all - met) (drop met all)) → met + count < 2 ^ 28
fits met count all changes is orderly within bound =
    let most : count ≤ length (drop met changes) = rw (take_rest, is) at bound in
    omega (arith, few-changes changes orderly, most, within, length-drop met changes)

pub overflow_cast-result : goal.overflow_cast-result
overflow_cast-result c =
    omega (arith, fits _ _ _ _ c.self.view_is c.requires.orderly c.requires.met c.partition_point.ensures.bound)

pub overflow_add-result : goal.overflow_add-result
overflow_add-result c =
    omega (arith, fits _ _ _ _ c.self.view_is c.requires.orderly c.requires.met c.partition_point.ensures.bound)

pub returns : goal.returns
returns c =
    let is = take_rest c.self.inside.all.now c.args.met ∙ ap (drop c.args.met) c.self.view_is in
    let point = IsPartitionPoint-from_clause (λ (change : Change). nat_lt change.number c.args.number) _ _
    (rw is at c.partition_point.ensures.partitioned)
    (orderly-parted c.args.number c.args.met c.args.self.now c.requires.orderly) (λ a r q k. search rules) in
    passed-is c.args.number c.args.met c.partition_point.result c.args.self.now c.requires.met
    (rw is at c.partition_point.ensures.bound) point
