use Rattle.capture_parts.proofs.Terms.{Deals, List, arith, drop, length, rules, take, take-add}
use Rattle.capture_parts.proofs.Terms.{length-drop, length-take-le, refl, take_rest, ℕ, ◌+◌, ◌-◌, ◌≡◌}
use Rattle.capture_parts.proofs.Counting.{fault-more}
use Rattle.capture_parts.proofs.Standing.{dealt_first, dealt_more}
use Rattle.capture_parts.proofs.Turns.{Deals-trans}
use Rattle.std.proofs.lemmas.Result.{err_from_is_err_and}
use Rattle.capture_parts.proofs.dealer.Dealing.deal.Goals as goal
use Rattle.capture_parts.proofs.dealer.Dealing.deal.Goals.{else-self-eq0-via-else-self-eq0}
use Rattle.capture_parts.proofs.dealer.Dealing.deal.Goals.{else-self-eq0-via-then-self-eq0+in_ok-begin+else-not-branch}

pub loop-at-preserved : goal.loop-at-preserved
loop-at-preserved g c =
    let unread : List ℕ = c.args.unread.now in
    let at : ℕ = c.loop-at.at in
    let rest : List ℕ = take (length unread - at) (drop at unread) in
    let n : ℕ = c.in_ok-at.field-0 in
    let done = c.in_ok-at.ensures in
    let same : c.else-self-eq0.self.count ≡ c.loop-at.self.count = elim c.else-self-eq0.branch [
      | else-self-eq0-via-then-self-eq0+in_ok-begin+else-not-branch w ↦ rw w.self-is w.in_ok-begin.ensures.count
      | else-self-eq0-via-else-self-eq0 w ↦ rw w.self-is refl
    ] in
    let step : Deals g.W.Write.contents c.loop-at.self.dealer c.deal_more.new.self.dealer c.loop-at.self.parts.items
    c.deal_more.new.self.parts.items (take n rest) =
    rw done.left (elim c.else-self-eq0.branch [
      | else-self-eq0-via-then-self-eq0+in_ok-begin+else-not-branch w ↦
          let test = w.if-not-branch.false in
          let begun = w.in_ok-begin.ensures in
          dealt_first g.W.Write.contents c.else-self-eq0.self.dealer rest n (omega (arith, w.if-self-eq0.true))
          (rw (← w.self-is) at (begun.begun test)) (rw (← w.self-is) at (begun.left test))
          done.count done.grows
      | else-self-eq0-via-else-self-eq0 w ↦
          rw (← w.self-is)
          (dealt_more g.W.Write.contents rest n (omega (arith, rw (← w.self-is) at w.if-self-eq0.false)) done.count
          done.grows)
    ]) in
    record {
      within = search rules;
      count = omega (arith, done.sum, same, c.loop-at.invariant.count);
      dealt = rw (take-add at n unread, ← take_rest unread at) (Deals-trans g.W.Write.contents
          _ _ _ _ _ _ _ _ c.loop-at.invariant.dealt step);
    }

pub returns-in_err-at-clause-fault : goal.returns-in_err-at-clause-fault
returns-in_err-at-clause-fault g c =
    let same : c.else-self-eq0.self.count ≡ c.loop-at.self.count = elim c.else-self-eq0.branch [
      | else-self-eq0-via-then-self-eq0+in_ok-begin+else-not-branch w ↦ rw w.self-is w.begin.ensures.count
      | else-self-eq0-via-else-self-eq0 w ↦ rw w.self-is refl
    ] in
    let p = err_from_is_err_and c.from_residual-in_err-at.result c.from_residual-in_err-at.ensures.1 in
    let size = length-drop c.loop-at.at c.args.unread.now in
    let within = c.loop-at.invariant.within in
    let at : ℕ = c.loop-at.at in
    let unread : List ℕ = c.args.unread.now in
    let kept = length-take-le (length unread - at) (drop at unread) (omega (arith, size)) in
    rw (p.1, p.2) (fault-more (c.else-self-eq0.self.count + length (take (length unread - at) (drop at unread)))
    (c.args.self.now.count + length unread) c.in_err-at.field-0.0
    (omega (arith, same, c.loop-at.invariant.count, kept, size, within)) c.in_err-at.ensures.fault)

pub returns-after-loop-at-clause-count : goal.returns-after-loop-at-clause-count
returns-after-loop-at-clause-count g c = c.loop-at.invariant.count

pub returns-then-not-branch-clause-count : goal.returns-then-not-branch-clause-count
returns-then-not-branch-clause-count g c = omega (arith, c.in_ok-begin.ensures.count, c.loop-at.invariant.count)
