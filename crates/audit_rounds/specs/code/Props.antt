-- That lists are orderly has one proof at most.
use Rattle.std.specs.Prelude.{ℕ, ◌+◌, List, [], ◌∷◌}
use Rattle.std.specs.Coded.{Unit-prop, ×_prop, le_prop}
use Rattle.audit_terms.specs.declared.frames.Frame.{Frame}
use Rattle.audit_terms.specs.declared.items.Change.{Change}
use Rattle.audit_terms.specs.code.runs.Orderly.{IsInRange, IsOrderlyFrom}
use Rattle.audit_terms.specs.code.runs.Changes.{AreOrderlyFrom}
use Rattle.conn_scan.specs.code.Items.{NeverFallFrom}

in_range-prop : (frame : Frame) → IsProp (IsInRange frame)
in_range-prop frame = λ x y i. record {
  number = le_prop x.number y.number i;
  stream = le_prop x.stream y.stream i;
  promised = le_prop x.promised y.promised i;
  length = le_prop x.length y.length i;
  nanos = le_prop x.nanos y.nanos i;
}

pub frames-prop : (low : ℕ) (frames : List Frame) → IsProp (IsOrderlyFrom low frames)
frames-prop low [] = Unit-prop
frames-prop low (frame ∷ frames) = λ x y i.
    (le_prop x.0 y.0 i, in_range-prop frame x.1 y.1 i, frames-prop (frame.number + 1) frames x.2 y.2 i)

pub changes-prop : (low : ℕ) (changes : List Change) → IsProp (AreOrderlyFrom low changes)
changes-prop low [] = Unit-prop
changes-prop low (change ∷ changes) = λ x y i.
    (le_prop x.0 y.0 i, le_prop x.1 y.1 i, changes-prop (change.number + 1) changes x.2 y.2 i)

pub numbers-prop : (low : ℕ) (numbers : List ℕ) → IsProp (NeverFallFrom low numbers)
numbers-prop low [] = Unit-prop
numbers-prop low (number ∷ numbers) = ×_prop le_prop (numbers-prop number numbers)
