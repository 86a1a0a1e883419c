-- How the program ends.
use Rattle.std.specs.Prelude.{◌≡◌, ◌⊎◌, ℕ, List, codes, string_bytes}
use Rattle.std.specs.Str.{trim_end}
use Rattle.capture_parts.specs.declared.fault.SplitFault.{SplitFault}
use Rattle.capture_parts.specs.declared.fault.SplitFault.TheVariants as fault
use Rattle.split_program.specs.declared.failure.Failure.{Failure}
use Rattle.split_program.specs.declared.failure.Failure.TheVariants as failure

-- the exit status where the program split nothing, or not all, and the line on standard error
abbrev pub told_of : Failure → ℕ × List ℕ
told_of (failure.Words text) = (2, trim_end (string_bytes text))
told_of (failure.Refused line) = (3, string_bytes line)
told_of (failure.Failed line) = (4, string_bytes line)
told_of failure.OutOfMemory = (5, codes "h2audit-split: out of memory")

-- a failure with this status, or want of memory for its line
abbrev pub IsToldAs : ℕ → Failure → Type 0
IsToldAs status e = ((told_of e).0 ≡ status) ⊎ ((told_of e).0 ≡ 5)

-- the status for what stopped a split
abbrev pub status_at : SplitFault → ℕ
status_at fault.Open = 4
status_at fault.Read = 4
status_at (fault.Write part file) = 4
status_at _ = 3
