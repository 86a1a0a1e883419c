use Rattle.quiet_pass.proofs.opened_rows.put_plain.Goals as goal

pub returns-clause-put : goal.returns-clause-put
returns-clause-put c = (c.in_ok-put.ensures.put c.in-Some.field-0 c.in-Some.is).put
