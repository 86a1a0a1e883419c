-- The faults of a split, and when too many bytes are told.
use Rattle.std.specs.Prelude.{◌≡◌, ◌≢◌, ℕ, ◌+◌, ◌^◌, ◌≤◌, List, Option, Ok, Err, String, length, take}
use Rattle.std.specs.Global.{Global}
use Rattle.std.specs.Io.KnownBytes.{Consumes}
use Rattle.std.specs.declared.io.Error.{Error}
use Rattle.capture_parts.specs.Inputs.{HaveGiven}
use Rattle.capture_parts.specs.Outside.{Call, Opened}
use Rattle.capture_parts.specs.declared.fault.FileFault.{FileFault}
use Rattle.capture_parts.specs.declared.fault.SplitFault.{SplitFault}
use Rattle.capture_parts.specs.declared.fault.SplitFault.TheVariants as fault

-- a fault of files that are open, where so many bytes were there: they are too many only from 2^64 on
pub record IsFaultAt (n : ℕ) (e : SplitFault) : Type 0 where
  pub opened : e ≢ fault.Open
  pub many : e ≡ fault.TooLong → 2 ^ 64 ≤ n

-- the same, where n bytes were there before, and a reader that had these left, and has those, gave more
pub record Overflows (had has : Option (List ℕ)) (n : ℕ) (e : SplitFault) : Type 0 where
  pub opened : e ≢ fault.Open
  pub many : e ≡ fault.TooLong → (given : List ℕ) × Consumes had has given × (2 ^ 64 ≤ n + length given)

module _ {O F : Type 0} (does : O → Call F → O → Type 0) where
  -- a file of this name could not be opened
  abbrev pub IsUnopened : O → List ℕ → O → SplitFault → Type 0
  IsUnopened before path after e = (why : Error) × does before (Opened path (Err why)) after × (e ≡ fault.Open)

  -- a file of this name was opened, and had another fault
  abbrev pub IsOpened : O → List ℕ → O → SplitFault → Type 0
  IsOpened before path after e = (file : F) × does before (Opened path (Ok file)) after × IsFaultAt 0 e

  -- a split stopped at this fault in files of these names, where n bytes were dealt before
  abbrev pub HasStoppedBetween : (left : F → Option (List ℕ)) (n : ℕ) → O → List (String Global) → O → FileFault
      → Type 0
  HasStoppedBetween left n before paths after wrong = (behind : List ℕ) × (wrong.file ≤ length paths)
      × HaveGiven does left before (take wrong.file paths) behind wrong.fault after
      × (wrong.fault ≡ fault.TooLong → 2 ^ 64 ≤ n + length behind)
