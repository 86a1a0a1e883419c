use Rattle.stream_credit.proofs.Words.{ap, arith, cases_eq, get_or_from_slice_get, inl, inr, subst, ◌∙◌, ◌≡◌, Some}
use Rattle.stream_credit.proofs.Words.{Stream, slice_get}
use Rattle.quiet_pass.proofs.GroupLemmas.{narrower}
use Rattle.quiet_pass.specs.code.HeldStreams.{held}
use Rattle.quiet_pass.specs.code.Shifts.{IsEntryQuietFor}
use Rattle.quiet_pass.specs.declared.opened_rows.Row.{Row}
use Rattle.quiet_pass.proofs.row_groups.quiet_of.Goals as goal

pub loop-at-preserved : goal.loop-at-preserved
loop-at-preserved c k row above below there = elim (cases_eq k c.loop-at.at) [
  | inl own ↦
      let at = subst (λ n. slice_get c.args.rows.now n ≡ Some row) own there in
      narrower c.args.frames_shown c.both-quiet.result c.of.result (held row.standings) c.both-quiet.ensures.other
      (subst (λ (entry : Stream). IsEntryQuietFor c.args.frames_shown c.of.result entry)
      (c.held-entry.ensures.same
      ∙ ap (λ (row : Row). held row.standings) (get_or_from_slice_get c.args.rows.now c.loop-at.at row _ at))
      c.of.ensures)
  | inr apart ↦
      narrower c.args.frames_shown c.both-quiet.result c.loop-at.quiet (held row.standings) c.both-quiet.ensures.own
      (c.loop-at.invariant k row above (omega (arith, below, apart)) there)
]

pub returns : goal.returns
returns c at row above below there =
    c.loop-at.invariant at row above (omega (arith, below, c.loop-at-test.false)) there
