use Rattle.stream_credit.proofs.{RunLemmas.MeetsFrames, Words.Frame, Words.List, Words.drop, Words.◌++◌}
use Rattle.stream_credit.proofs.runs.meet_frames.Given as goal

abbrev pub invariant-loop-frame : goal.invariant-loop-frame
invariant-loop-frame g l =
    (rest : List Frame) → MeetsFrames g.L.Look.answers l.changes l.fn.look l.fn.walk (l.frames ++ rest) l.look l.walk
    (drop l.frame-index l.frames ++ rest)
