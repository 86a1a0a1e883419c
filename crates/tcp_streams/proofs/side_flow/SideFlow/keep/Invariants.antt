use Rattle.tcp_streams.proofs.Words.{◌≡◌, ℕ, ◌≤◌, ◌-◌, List, Option, Source}
use Rattle.tcp_streams.specs.code.SideFlow.{AllHold, AreKept, IsSideFlow, kept_at}
use Rattle.tcp_streams.proofs.SideFlowLemmas.{so_far}
use Rattle.tcp_streams.proofs.side_flow.SideFlow.keep.Given as goal

-- below `low` all is kept that the interval adds
abbrev pub invariant-loop-low : goal.invariant-loop-low
invariant-loop-low g l = record {
  begins : l.x.from ≤ l.low;
  behind : l.fn.self.end ≤ l.low;
  end : l.self.end ≡ l.fn.self.end;
  kept : (sources : ℕ → Option Source) → IsSideFlow sources l.fn.self
      → AreKept l.fn.self.end (so_far sources l.x l.low) (kept_at l.self.kept);
  holds : (of : Option (List ℕ)) → g.K.Content.gives of l.x l.payload
      → AllHold (g.K.Content.holds of) l.fn.self.kept → AllHold (g.K.Content.holds of) l.self.kept;
}

abbrev pub decreases-loop-low : goal.decreases-loop-low
decreases-loop-low g l = l.x.upto - l.low
