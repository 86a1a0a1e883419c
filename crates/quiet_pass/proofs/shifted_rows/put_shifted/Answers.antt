use Rattle.quiet_pass.proofs.shifted_rows.put_shifted.Goals as goal

pub returns-clause-put : goal.returns-clause-put
returns-clause-put c = (c.in_ok-at.ensures.put c.in-Some.at c.in-Some.is).put

pub returns-clause-covered : goal.returns-clause-covered
returns-clause-covered c frames_shown covered =
    let placed = c.in_ok-at.ensures.put c.in-Some.at c.in-Some.is in
    c.in_ok-forget.ensures frames_shown c.args.rows.now.items c.put.new.rows.items covered placed.others
