use Rattle.stream_credit.proofs.Words.{arith, cases_eq, get_or-set_other, get_or-set_same, get_or_default, inl, inr}
use Rattle.stream_credit.proofs.Words.{length-set, same_Some, refl, ◌∙◌}
use Rattle.std.proofs.Common.{◌≡◌, ◌<◌, ◌≤◌, length, get_or}
use Rattle.quiet_pass.proofs.GroupLemmas.{set-elsewhere}
use Rattle.quiet_pass.proofs.ShiftedLemmas.{lowered-each}
use Rattle.quiet_pass.proofs.shifted_rows.lower_all.Goals as goal

pub loop-at-init : goal.loop-at-init
loop-at-init c = record {
  long = refl;
  lowered = λ k d l. absurd (omega (arith, l));
  same = λ k d l. refl;
  covered = λ frames_shown. c.new-groups.ensures frames_shown c.args.rows.now.items;
}

pub loop-at-preserved : goal.loop-at-preserved
loop-at-preserved c =
    let was = c.loop-at.invariant in
    let at = c.loop-at.at in
    let old = c.args.rows.now.items in
    let rows = c.loop-at.rows.items in
    let row = c.index.result.now in
    let low = c.in-Some.low in
    let inside : at < length rows =
    omega (arith, c.loop-at-test.true, c.len-at-end.ensures, was.long, c.args.rows.now.ok.0) in
    let within : at < length old = omega (arith, inside, was.long) in
    let here : row ≡ get_or old at row =
    c.index.ensures ∙ was.same at _ (omega arith) ∙ get_or_default old at _ row within in
    let made = c.lowered.ensures low c.in-Some.is in
    record {
      long = length-set rows at low ∙ was.long;
      lowered = λ k d l. elim (cases_eq k at) [
        | inl own ↦ rw (own, get_or-set_same rows at low d inside, get_or_default old at d row within, ← here) made
        | inr apart ↦ rw (get_or-set_other rows at k low d apart) (was.lowered k d (omega (arith, l, apart)))
      ];
      same = λ k d l. get_or-set_other rows at k low d (omega (arith, l)) ∙ was.same k d (omega (arith, l));
      covered = λ frames_shown.
          c.in_ok-forget.ensures frames_shown rows _ (was.covered frames_shown)
          (λ other differ. set-elsewhere rows at other low differ);
    }

pub returns-clause-lowered : goal.returns-clause-lowered
returns-clause-lowered c = λ x e.
    let all = c.loop-at.invariant in
    let old = c.args.rows.now.items in
    let done : length old ≤ c.loop-at.at =
    omega (arith, c.loop-at-test.false, c.len-at-end.ensures, c.args.rows.now.ok.0) in
    lowered-each c.args.shift.now old c.loop-at.rows.items all.long
    (λ at d l. all.lowered at d (omega (arith, l, done)))

pub returns-clause-covered : goal.returns-clause-covered
returns-clause-covered c = λ x e. rw (← same_Some _ _ e) c.loop-at.invariant.covered
