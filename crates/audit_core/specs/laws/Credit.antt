-- The credits that the pass carries from frame to frame are the closed sums (RFC 9113, 6.9, 6.9.1, 6.9.2).
use Rattle.std.specs.Prelude.{◌≡◌, ℕ, ℤ, ◌<◌, List, Some}
use Rattle.audit_terms.specs.declared.sides.Side.{Side}
use Rattle.audit_terms.specs.declared.frames.Frame.{Frame}
use Rattle.audit_terms.specs.Sides.{side_of}
use Rattle.audit_terms.specs.code.runs.Orderly.{IsOrderly}
use Rattle.audit_terms.specs.code.runs.States.{state_after}
use Rattle.audit_terms.specs.laws.Credit.{connection_credit_sum, stream_credit_sum}

-- each side's connection window: all of that side's content counts, whatever its stream
abbrev pub ConnectionCreditIsSum : Type 0
ConnectionCreditIsSum = (d : Side) (frames : List Frame) →
    side_of d (state_after frames).connection.credit ≡ connection_credit_sum d frames

-- each live window of each stream other than 0: it counts from the frame that opened its stream
abbrev pub StreamCreditIsSum : Type 0
StreamCreditIsSum = (d : Side) (stream opening : ℕ) (credit : ℤ) (frames : List Frame) → IsOrderly frames → 0 < stream →
    ((state_after frames).streams stream).life.opened ≡ Some opening →
    side_of d ((state_after frames).streams stream).window ≡ Some credit →
    credit ≡ stream_credit_sum (side_of d (state_after frames).in_force.initial) d stream opening frames
