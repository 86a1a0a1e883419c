use Rattle.quiet_pass.proofs.row_groups.RowGroups.quiet_from.Goals as goal

pub returns-then-not-is_quiet_from-2 : goal.returns-then-not-is_quiet_from-2
returns-then-not-is_quiet_from-2 c frames_shown rows covered =
    c.if-not-is_quiet_from.ensures frames_shown rows covered.small

pub returns-then-not-is_quiet_from-3 : goal.returns-then-not-is_quiet_from-3
returns-then-not-is_quiet_from-3 c frames_shown rows covered =
    c.if-not-is_quiet_from-2.ensures frames_shown rows covered.middle

pub returns : goal.returns
returns c frames_shown rows covered = c.if-not-is_quiet_from-3.ensures frames_shown rows covered.large
