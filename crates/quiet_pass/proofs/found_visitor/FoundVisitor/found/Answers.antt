use Rattle.quiet_pass.proofs.found_visitor.FoundVisitor.found.Goals as goal

pub returns-in-Http2 : goal.returns-in-Http2
returns-in-Http2 g c = λ client server is.
    let (started, has) = rw c.in-Http2.is at is in
    rw has.visited.showing at
    (c.found_after.ensures client server has.frames started
    (record { http2 = has.http2; orderly = has.orderly; counted = has.counted }) has.visited.found)
