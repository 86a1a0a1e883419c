-- Where the records of a capture stand, how many there can be, and how late.
use Rattle.std.specs.Prelude.{ℕ, ◌+◌, ◌^◌, ◌<◌, ◌≤◌, List, [], ◌∷◌, length}
use Rattle.std.specs.List.{AllByRecursion}
use Rattle.pcap_records.specs.declared.pcap_record.Record.{Record}

-- from this offset on, the captured bytes of the records follow each other without overlap, inside a
-- capture of this size
abbrev pub RiseFrom : ℕ → ℕ → List Record → Type 0
RiseFrom from size [] = from ≤ size
RiseFrom from size (r ∷ rs) = (from ≤ r.start) × RiseFrom (r.start + r.length) size rs

-- the records lie behind the file header of a capture of this size, which is below 2 ^ 31, so that 32 bits hold where
-- each ends; and they are fewer than 2 ^ 27, so that 32 bits number them
abbrev pub AreWithin : ℕ → List Record → Type 0
AreWithin size rows = (size < 2 ^ 31) × (length rows < 2 ^ 27) × RiseFrom 24 size rows

-- each time fits a signed number of 64 bits
abbrev pub AreTimely : List Record → Type 0
AreTimely rows = AllByRecursion (λ r. r.nanos < 2 ^ 63) rows
