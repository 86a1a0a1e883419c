use Rattle.quiet_pass.proofs.opened_rows.put.Goals as goal

pub returns-clause-put : goal.returns-clause-put
returns-clause-put c = rw (c.hold.ensures c.in-Some.standings c.in-Some.is) at c.put_row.ensures.put
