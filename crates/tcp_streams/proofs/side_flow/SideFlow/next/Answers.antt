use Rattle.tcp_streams.proofs.Words.{None, Some, refl, sym}
use Rattle.tcp_streams.proofs.SideFlowLemmas.{kept-unchanged, longest-run, ne-eq}
use Rattle.tcp_streams.proofs.SideFlowSteps.{held-less, kept-is, one-taken-off}
use Rattle.tcp_streams.specs.code.SideFlow.{kept_at}
use Rattle.tcp_streams.proofs.side_flow.SideFlow.next.Goals as goal

pub returns-clause-growth : goal.returns-clause-growth
returns-clause-growth g c = λ sources h.
    let updates = c.in_ok-next.ensures.updates in
    let old = c.args.self.now.kept in
    let new = c.remove.new.self in
    let end = c.args.self.now.end in
    let next = c.in_ok-next.next in
    one-taken-off sources (kept_at old) (kept_at new) end next.interval h
    (kept-is old end (Some next) (sym c.in_ok-next.ensures.value)) (kept-is new end None updates.1)
    (λ q ne. kept-is new q _ (updates.2 q (ne-eq end q ne)))

pub returns-clause-holds : goal.returns-clause-holds
returns-clause-holds g c = λ of h.
    let updates = c.in_ok-next.ensures.updates in
    let old = c.args.self.now.kept in
    let end = c.args.self.now.end in (
      held-less (g.K.Content.holds of) old c.remove.new.self end h (λ q ne. updates.2 q (ne-eq end q ne)) updates.1,
      h end c.in_ok-next.next (sym c.in_ok-next.ensures.value),
    )

pub returns-in_err-next-clause-stands : goal.returns-in_err-next-clause-stands
returns-in_err-next-clause-stands g c = rw c.from_residual.ensures (λ sources h run.
    let end = c.args.self.now.end in
    let old = c.args.self.now.kept in
    let new = c.remove.new.self in
    let kept = kept-unchanged end sources (kept_at old) (kept_at new)
    (λ k. rw c.in_err-next.ensures.unchanged refl) h in
    record {
      run = longest-run sources (kept_at new) end kept (kept-is new end None c.in_err-next.ensures.updates.1)
          run.within run.covered;
      kept = kept;
    })

pub returns-in_err-next-clause-still : goal.returns-in_err-next-clause-still
returns-in_err-next-clause-still g c = rw c.from_residual.ensures (λ of h k p at-k.
    h k p (rw c.in_err-next.ensures.unchanged at at-k))
