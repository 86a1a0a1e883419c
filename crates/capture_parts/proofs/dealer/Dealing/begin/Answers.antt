use Rattle.capture_parts.proofs.Terms.{arith, drop-take, min, rules, ℕ, ◌+◌, ◌-◌, ◌≡◌}
use Rattle.capture_parts.proofs.Given.{take-min}
use Rattle.capture_parts.proofs.dealer.Dealing.begin.Goals as goal

pub returns-clause-begun : goal.returns-clause-begun
returns-clause-begun g c = λ _.
    let captured : ℕ = c.captured_length-captured.result in
    let front : 16 + c.min-front.result - 16 ≡ min 82 captured = omega (arith, c.min-front.ensures) in
    let length = c.captured_length-captured.ensures.length in
    record {
      entered = record {
        next = rw (← length, drop-take 16 captured c.args.unread.now, take-min, ← front)
            (rw (c.len.ensures, ← c.give_number.ensures.length) at c.at_next-next.ensures.next);
        grows = c.in_ok-give_number.ensures.grows;
      };
      front = search rules;
    }

pub at_next-next-requires-clause-room : goal.at_next-next-requires-clause-room
at_next-next-requires-clause-room g c = omega (arith, c.args.self.now.few, c.args.self.now.counted, c.requires)
