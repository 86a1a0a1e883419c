use Rattle.stream_credit.proofs.Words.{cases_eq, get_or-set_other, get_or-set_same, get_or_default, length-set}
use Rattle.stream_credit.proofs.Words.{drop_all, slice_get-get_or, subst}
use Rattle.std.proofs.Common.{◌≡◌, ◌<◌, ◌≤◌, ◌^◌, length, get_or, inl, inr, sym, ◌∙◌, arith}
use Rattle.quiet_pass.specs.declared.opened_rows.Row.{Row}
use Rattle.quiet_pass.proofs.ChangeLemmas.{both-kept, said-all, said-more}
use Rattle.quiet_pass.proofs.RowLists.{stepped-each}
use Rattle.quiet_pass.proofs.opened_rows.say_all.Goals as goal

pub say_change-requires-clause-small : goal.say_change-requires-clause-small
say_change-requires-clause-small c =
    let was = c.loop-at.invariant in
    let at = c.loop-at.at in
    let old = c.args.rows.now.items in
    let rows = c.loop-at.rows.items in
    let row = c.index.result.now in
    let inside : at < length rows =
    omega (arith, c.loop-at-test.true, c.len-at-end.ensures, was.long, c.args.rows.now.ok.0) in
    let within : at < length old = omega (arith, inside, was.long) in
    let here : row ≡ get_or old at row =
    c.index.ensures ∙ was.same at _ (omega arith) ∙ get_or_default old at _ row within in
    subst (λ (one : Row). one.stream < 2 ^ 31) (sym here)
    (c.requires.own.1 at (get_or old at row) (slice_get-get_or old at row within)).small

pub loop-at-preserved : goal.loop-at-preserved
loop-at-preserved c =
    let was = c.loop-at.invariant in
    let at = c.loop-at.at in
    let old = c.args.rows.now.items in
    let rows = c.loop-at.rows.items in
    let row = c.index.result.now in
    let next = c.say_change.new.self in
    let inside : at < length rows =
    omega (arith, c.loop-at-test.true, c.len-at-end.ensures, was.long, c.args.rows.now.ok.0) in
    let within : at < length old = omega (arith, inside, was.long) in
    let here : row ≡ get_or old at row =
    c.index.ensures ∙ was.same at _ (omega arith) ∙ get_or_default old at _ row within in
    record {
      long = length-set rows at next ∙ was.long;
      stepped = λ kept k d l. elim (cases_eq k at) [
        | inl own ↦
            rw (own, get_or-set_same rows at next d inside, get_or_default old at d row within, ← here)
            (c.in_ok-is_kept.ensures.stepped (both-kept _ _ kept).1)
        | inr apart ↦
            rw (get_or-set_other rows at k next d apart)
            (was.stepped (both-kept _ _ kept).0 k d (omega (arith, l, apart)))
      ];
      same = λ k d l. get_or-set_other rows at k next d (omega (arith, l)) ∙ was.same k d (omega (arith, l));
      said = said-more c.args.frames_shown c.args.before.now c.args.step.now old at row c.loop-at.found.items
          c.say_change.new.found.items here within was.said
          c.in_ok-is_kept.ensures.said;
    }

pub returns : goal.returns
returns c =
    let all = c.loop-at.invariant in
    let old = c.args.rows.now.items in
    let done : length old ≤ c.loop-at.at =
    omega (arith, c.loop-at-test.false, c.len-at-end.ensures, c.args.rows.now.ok.0) in
    record {
      said = said-all c.args.frames_shown c.args.before.now c.args.step.now old c.loop-at.at c.loop-at.found.items
          (drop_all c.loop-at.at old done) all.said;
      stepped = λ are-kept.
          stepped-each c.args.before.now c.args.step.now old c.loop-at.rows.items all.long
          (λ at d l. all.stepped are-kept at d (omega (arith, l, done)));
    }
