use Rattle.capture_parts.proofs.Terms.{Deals, length, take, ◌+◌, ◌-◌, ◌≡◌, ◌≤◌}
use Rattle.capture_parts.proofs.dealer.Dealing.deal.Given as goal

abbrev pub invariant-loop-at : goal.invariant-loop-at
invariant-loop-at g l = record {
  within : l.at ≤ length l.unread;
  count : l.self.count ≡ l.initial.self.count + l.at;
  dealt : Deals g.W.Write.contents l.initial.self.dealer l.self.dealer l.initial.self.parts.items
      l.self.parts.items (take l.at l.unread);
}

abbrev pub decreases-loop-at : goal.decreases-loop-at
decreases-loop-at g l = length l.unread - l.at
