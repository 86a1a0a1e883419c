use Rattle.stream_credit.proofs.Words.{ℕ, length, List, ◌-◌, IsAhead, StartsAt}
use Rattle.audit_terms.specs.declared.frames.Frame.{Frame as FrameTerm}
use Rattle.stream_credit.proofs.quiet_streams.QuietStream.meet_each.Given as goal

abbrev pub invariant-loop-change : goal.invariant-loop-change
invariant-loop-change l =
    (stream : ℕ) (all rest : List FrameTerm) → StartsAt l.number rest → IsAhead stream l.changes all rest l.fn.self
    → IsAhead stream l.changes all rest l.self

abbrev pub decreases-loop-change : goal.decreases-loop-change
decreases-loop-change l = length l.changes - l.self.met
