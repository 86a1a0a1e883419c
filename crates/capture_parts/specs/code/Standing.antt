-- What was dealt of a capture, of which a dealer has seen so much.
use Rattle.std.specs.Prelude.{◌≡◌, ℕ, ◌+◌, ◌<◌, ◌≤◌, Option, List, [], ◌++◌, length}
use Rattle.std.specs.List.{AllByRecursion, concat}
use Rattle.pcap_records.specs.Record.{captured_length}
use Rattle.capture_parts.specs.Dealt.{IsRecord, pair_at, part_at, part_bytes, part_full, part_numbers}
use Rattle.capture_parts.specs.Files.{order_of}
use Rattle.capture_parts.specs.Parts.{AllGrow}
use Rattle.capture_parts.specs.declared.dealer.Dealer.{Dealer}
use Rattle.capture_parts.specs.declared.part.Part.{Part}

-- within a record, of which this front was dealt to one of so many parts, behind these records
pub record IsWithin (d : Dealer) (parts : ℕ) (records : List (List ℕ)) (front : List ℕ) : Type 0 where
  pub number : d.number ≡ length records + 1
  pub part : d.part ≡ part_at d.link parts d.number front
  pub pair : d.pair ≡ pair_at d.link front
  pub enough : 98 ≤ length front
  pub left : length front + d.left ≡ 16 + captured_length (order_of d.is_little) front

-- behind these records, and this front of the next one
pub record Stands (d : Dealer) (parts : ℕ) (records : List (List ℕ)) (front : List ℕ) : Type 0 where
  pub whole : AllByRecursion (IsRecord (order_of d.is_little)) records
  pub between : d.left ≡ 0 → (front ≡ []) × (d.number ≡ length records)
  pub within : 0 < d.left → IsWithin d parts records front

-- contents tells the bytes that a writer holds, where they are known
module _ {W : Type 0} (contents : W → Option (List ℕ)) where
  -- these bytes, which stand behind a file header, were dealt to the parts
  pub record IsDealt (d : Dealer) (old new : List (Part W)) (bytes : List ℕ) : Type 0 where
    pub records : List (List ℕ)
    pub front : List ℕ
    pub are : bytes ≡ concat records ++ front
    pub stands : Stands d (length old) records front
    pub parts : AllGrow contents old new (λ i. part_bytes d.link (length old) i records front)
        (λ i. part_numbers d.link (length old) i records front)
        (λ i size. part_full d.link (length old) i size records front)
