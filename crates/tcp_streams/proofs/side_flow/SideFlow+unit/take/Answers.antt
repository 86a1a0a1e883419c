use Rattle.tcp_streams.proofs.SideFlowSteps.{growth-then, intervals-push, run-so-far, with-interval}
use Rattle.tcp_streams.specs.code.SideFlow.{intervals, with_interval}
use Rattle.tcp_streams.proofs.side_flow.SideFlow+unit.take.Goals as goal

pub loop-next-preserved : goal.loop-next-preserved
loop-next-preserved c = λ sources stood.
    let F = with_interval sources c.args.x.now in
    let low = c.args.self.now.end in
    let run = c.loop-next.run.items in
    let next = c.in-Some-next.next in
    let (kept, growth) = c.loop-next.invariant sources stood in
    let (left, one) = c.in-Some-next.ensures.growth F kept in (
      left,
      rw (c.in_ok-push-2.ensures.items, intervals-push run next)
          (growth-then F low c.loop-next.self.end c.next.new.self.end (intervals run) next.interval growth one),
    )

pub returns-clause-stands : goal.returns-clause-stands
returns-clause-stands c = λ sources stood.
    let F = with_interval sources c.args.x.now in
    let (kept, growth) = c.loop-next.invariant sources stood in
    c.in_default-next.ensures.stands F kept
    (run-so-far sources F c.args.self.now c.loop-next.self.end (intervals c.loop-next.run.items) stood
    (with-interval sources c.args.x.now) growth)
