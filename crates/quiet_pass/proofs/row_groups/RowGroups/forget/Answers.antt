use Rattle.quiet_pass.proofs.row_groups.RowGroups.forget.Goals as goal

pub returns : goal.returns
returns c = λ frames_shown old new covered same. record {
  small = c.in_ok-forget.ensures frames_shown old new covered.small same;
  middle = c.in_ok-forget-2.ensures frames_shown old new covered.middle same;
  large = c.in_ok-forget-3.ensures frames_shown old new covered.large same;
}
