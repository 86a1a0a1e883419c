-- When too many bytes are told.
use Rattle.capture_parts.proofs.Terms.{Consumes, List, Option, arith, length, ℕ, ◌+◌, ◌≤◌}
use Rattle.capture_parts.specs.code.Counting.{IsFaultAt, Overflows}
use Rattle.capture_parts.specs.declared.fault.SplitFault.{SplitFault}

-- what is too many is so where there are more
pub fault-more : (m n : ℕ) (e : SplitFault) → m ≤ n → IsFaultAt m e → IsFaultAt n e
fault-more m n e fits fault = record {
  opened = fault.opened;
  many = λ is. let some = fault.many is in omega (arith, some, fits);
}

-- a reader gave all these
pub overflows : (had has : Option (List ℕ)) (n : ℕ) (given : List ℕ) (e : SplitFault) → Consumes had has given
    → IsFaultAt (n + length given) e → Overflows had has n e
overflows had has n given e consumed fault =
    record { opened = fault.opened; many = λ is. (given, consumed, fault.many is) }

-- none were too many
pub none_overflow : (had has : Option (List ℕ)) (n : ℕ) (e : SplitFault) → IsFaultAt 0 e → Overflows had has n e
none_overflow had has n e fault =
    record { opened = fault.opened; many = λ is. absurd (let none = fault.many is in omega (arith, none)) }
