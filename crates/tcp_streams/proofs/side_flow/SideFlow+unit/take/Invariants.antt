use Rattle.tcp_streams.proofs.Words.{ℕ, Option, Source, length}
use Rattle.tcp_streams.specs.code.SideFlow.{AreKept, IsGrowth, IsSideFlow, intervals, kept_at, with_interval}
use Rattle.tcp_streams.proofs.side_flow.SideFlow+unit.take.Given as goal

-- what is left is kept from the end on, and what has left is the growth up to it
abbrev pub invariant-loop-next : goal.invariant-loop-next
invariant-loop-next l =
    (sources : ℕ → Option Source) → IsSideFlow sources l.fn.self
    → AreKept l.self.end (with_interval sources l.x) (kept_at l.self.kept)
    × IsGrowth (with_interval sources l.x) l.fn.self.end l.self.end (intervals l.run.items)

abbrev pub decreases-loop-next : goal.decreases-loop-next
decreases-loop-next l = length l.self.kept.entries
