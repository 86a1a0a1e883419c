use Rattle.quiet_pass.proofs.row_groups.RowGroups.learn_before.Goals as goal

pub returns : goal.returns
returns c covered =
    let small = c.learn_rows.ensures covered.small in
    let middle = c.learn_groups.ensures c.args.frames_shown small covered.middle in record {
      small = small;
      middle = middle;
      large = c.learn_groups-2.ensures c.args.frames_shown middle covered.large;
    }
