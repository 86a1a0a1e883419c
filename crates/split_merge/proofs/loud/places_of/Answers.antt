use Rattle.split_merge.proofs.Terms.{◌≡◌, ◌+◌, None, Some, inl, inr, arith, append_assoc, drop_more}
use Rattle.split_merge.proofs.Terms.{sym, ◌∙◌, append-nil, at_drop_all, places_from}
use Rattle.std.proofs.lemmas.Bool.{cases_Bool}
use Rattle.split_merge.proofs.loud.places_of.Goals as goal

pub loop-quiet-preserved : goal.loop-quiet-preserved
loop-quiet-preserved c =
    let quiet = c.quiet-item.result in
    let next = c.loop-quiet.next in
    let was = c.loop-quiet.invariant in
    let more = rw (
      drop_more c.args.quiets.now c.loop-quiet.quiet-index quiet c.loop-quiet-test.true,
      ← c.quiet-item.is,
    ) at was.places in
    elim (cases_Bool quiet.is_quiet) [
      | inl e ↦
          let step : c.from-next.result ≡ 0 = rw e at c.from-next.ensures in
          let same : next + c.from-next.result ≡ next = omega (arith, step) in
          let place : c.then_some.result ≡ None = rw e at c.then_some.ensures in
          record {
            within = omega (arith, step, was.within);
            places = rw (same, c.in_ok-push.ensures.items, place, append_assoc) (rw e at more);
          }
      | inr e ↦
          let step : c.from-next.result ≡ 1 = rw e at c.from-next.ensures in
          let place : c.then_some.result ≡ Some next = rw e at c.then_some.ensures in
          record {
            within = omega (arith, step, was.within);
            places = rw (step, c.in_ok-push.ensures.items, place, append_assoc) (rw e at more);
          }
    ]

pub returns : goal.returns
returns c =
    let none = at_drop_all (places_from c.loop-quiet.next) c.args.quiets.now c.loop-quiet.quiet-index
    c.loop-quiet-test.false in
    sym (append-nil _) ∙ (rw none at c.loop-quiet.invariant.places)
