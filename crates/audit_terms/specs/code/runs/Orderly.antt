-- The frames that runs go over: in range, and in order of their numbers.
use Rattle.std.specs.Prelude.{ℕ, ◌+◌, ◌-◌, ◌^◌, ◌<◌, ◌≤◌, List, [], ◌∷◌}
use Rattle.audit_terms.specs.declared.frames.Frame.{Frame}
use Rattle.audit_terms.specs.Frame.{promised_in}

-- the ranges of what a frame holds: 28 bits of number, 31 bits of stream, 24 bits of length (4.1), a time below 2^63
pub record IsInRange (frame : Frame) : Type 0 where
  pub number : frame.number < 2 ^ 28 - 1
  pub stream : frame.stream < 2 ^ 31
  pub promised : promised_in frame.body < 2 ^ 31
  pub length : frame.length < 2 ^ 24
  pub nanos : frame.nanos < 2 ^ 63

-- each frame in range, the first numbered `low` or above, each further one above the one before it
abbrev pub IsOrderlyFrom : (low : ℕ) → List Frame → Type 0
IsOrderlyFrom low [] = Unit {0}
IsOrderlyFrom low (frame ∷ frames) = (low ≤ frame.number) × IsInRange frame × IsOrderlyFrom (frame.number + 1) frames

-- frames in range, their numbers strictly rising
abbrev pub IsOrderly : List Frame → Type 0
IsOrderly frames = IsOrderlyFrom 0 frames
