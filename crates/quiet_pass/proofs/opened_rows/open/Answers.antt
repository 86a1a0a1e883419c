use Rattle.quiet_pass.proofs.opened_rows.open.Goals as goal

pub returns-in_ok-push-in-Some-clause-quiet : goal.returns-in_ok-push-in-Some-clause-quiet
returns-in_ok-push-in-Some-clause-quiet c =
    rw c.in_ok-push-in-Some.ensures.items
    (rw c.as_slice.ensures.value at (c.new_row.ensures c.in-Some.row c.in-Some.is))
