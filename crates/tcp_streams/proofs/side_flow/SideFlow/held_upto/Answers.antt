use Rattle.tcp_streams.proofs.SideFlowLemmas.{last-ends, le-gt, not-gt, not-lt}
use Rattle.tcp_streams.proofs.SideFlowSteps.{at-some, kept-is}
use Rattle.tcp_streams.proofs.Words.{Some, refl}
use Rattle.tcp_streams.specs.code.SideFlow.{kept_at}
use Rattle.tcp_streams.proofs.side_flow.SideFlow.held_upto.Goals as goal

pub returns-in-Some-clause-held : goal.returns-in-Some-clause-held
returns-in-Some-clause-held g c =
    let kept = c.args.self.now.kept in
    let k = c.in-Some.field-0-0.now in
    let p = c.in-Some.piece.now in
    let there = (c.range.ensures.in_range tt).3 _ _ c.in-Some.ensures.steps in (
      c.if-o-piece.true,
      (
        k,
        p.interval,
        record {
          is_kept = kept-is kept k (Some p) there.1;
          from = not-gt k c.args.o there.0.1;
          upto = c.if-o-piece.true;
        },
        refl,
      ),
    )

pub returns-in_default-clause-free : goal.returns-in_default-clause-free
returns-in_default-clause-free g c = λ low sources k x h at-k le.
    let kept = c.args.self.now.kept in
    let last = c.in-Some.field-0-0.now in
    let p = c.in-Some.piece.now in
    let range = c.range.ensures.in_range tt in
    let there = range.3 _ _ c.in-Some.ensures.steps in
    let first = range.4 _ _ c.in-Some.ensures.steps k (tt, le-gt k c.args.o le) (at-some kept k x at-k) in
    last-ends low sources (kept_at kept) c.args.o k last x p.interval h at-k (kept-is kept last (Some p) there.1)
    (not-lt last k first) (not-gt last c.args.o there.0.1) c.if-o-piece.false
