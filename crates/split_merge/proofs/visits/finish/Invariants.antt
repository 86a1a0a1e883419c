use Rattle.split_merge.proofs.{Ahead.IsPartEnded, Terms.AreAhead, Terms.Frame, Terms.List, Terms.[], Terms.streams_in}
use Rattle.split_merge.proofs.visits.finish.Given as goal

abbrev pub invariant-loop-row : goal.invariant-loop-row
invariant-loop-row l =
    (all : List Frame) → AreAhead l.changes all (λ _. []) (streams_in l.rows) l.fn.quiets.items →
    IsPartEnded l.frames_shown l.changes all (streams_in l.rows) l.quiets.items l.row
