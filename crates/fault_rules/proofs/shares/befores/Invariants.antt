use Rattle.fault_rules.proofs.Terms.{◌≡◌, ◌<◌, ℕ, length, get_or, before_share}
use Rattle.fault_rules.proofs.shares.befores.Given as goal

-- each share so far has its last frames before it, and the next ones stand ready
abbrev pub invariant-loop-n : goal.invariant-loop-n
invariant-loop-n l = record {
  previous : l.previous ≡ before_share l.size l.frames l.n;
  count : length l.befores.items ≡ l.n;
  each : (k : ℕ) (d : _) → k < length l.befores.items → get_or l.befores.items k d ≡ before_share l.size l.frames k;
}
