use Rattle.quiet_pass.proofs.row_groups.RowGroups.new.Goals as goal

pub returns : goal.returns
returns c = λ frames_shown rows. record {
  small = c.new.ensures frames_shown rows;
  middle = c.new-2.ensures frames_shown rows;
  large = c.new-3.ensures frames_shown rows;
}
