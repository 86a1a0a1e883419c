-- A connection's frames in shares of one size, and what a share has to know of those before it.
use Rattle.std.specs.Prelude.{◌≡◌, ℕ, ◌*◌, ◌<◌, ◌≤◌, List, [], ◌∷◌, Option, Some, if◌then◌else◌, length, fold, take}
use Rattle.std.specs.Prelude.{slice_index_or}
use Rattle.std.specs.Fork.{slice_chunk}
use Rattle.audit_terms.specs.declared.sides.Side.{Side}
use Rattle.audit_terms.specs.declared.sides.Sides.{Sides}
use Rattle.audit_terms.specs.declared.frames.Frame.{Frame}
use Rattle.audit_terms.specs.declared.findings.Finding.{Finding}
use Rattle.audit_terms.specs.Side.{is_side}
use Rattle.audit_terms.specs.LocalFault.{previous_after, no_previous}
use Rattle.audit_terms.specs.code.runs.LocalFaults.{local_run_from}

-- the last frame of each side after some frames, from those before them
abbrev pub previous_after_all : Sides (Option Frame) → List Frame → Sides (Option Frame)
previous_after_all previous frames = fold previous_after previous frames

-- the last frame of one side in some frames, or the one before them
abbrev pub last_from : Side → Option Frame → List Frame → Option Frame
last_from side before [] = before
last_from side before (frame ∷ frames) = last_from side (if is_side side frame.side then Some frame else before) frames

-- the last frame of each side before share n
abbrev pub before_share : (size : ℕ) → List Frame → ℕ → Sides (Option Frame)
before_share size frames n = previous_after_all no_previous (take (n * size) frames)

-- the local faults of share n
abbrev pub share_run : (size : ℕ) → List Frame → ℕ → List Finding
share_run size frames n = local_run_from (before_share size frames n) (slice_chunk frames size n)

-- there is one of befores for each share, and it holds the last frame of each side before that share
pub record AreBefores (size : ℕ) (frames : List Frame) (befores : List (Sides (Option Frame))) : Type 0 where
  pub whole : length frames ≤ length befores * size
  pub inside : (n : ℕ) → n < length befores → n * size < length frames
  pub each : (n : ℕ) (d : Sides (Option Frame)) → n < length befores →
      slice_index_or befores n d ≡ before_share size frames n
