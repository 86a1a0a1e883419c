-- What parts hold of a capture.
use Rattle.std.specs.Prelude.{◌≡◌, ℕ, ◌+◌, ◌<◌, Option, IsNone, IsSome, List, length}
use Rattle.std.specs.Prelude.{slice_index_or}
use Rattle.std.specs.Io.KnownBytes.{Appends}
use Rattle.pcap_records.specs.FileHeader.{ByteOrder}
use Rattle.capture_parts.specs.Dealt.{AreRecords, part_bytes, part_full, part_numbers}
use Rattle.capture_parts.specs.declared.part.FullPart.{FullPart}
use Rattle.capture_parts.specs.declared.part.Part.{Part}

-- contents tells the bytes that a writer holds, where they are known
module _ {W : Type 0} (contents : W → Option (List ℕ)) where
  -- a part that is not full at the end got exactly these bytes and these numbers. One that was full stays as full as it
  -- was, and one that was not is full now as `full` says
  pub record Grows (old new : Part W) (bytes numbers : List ℕ) (full : Option FullPart) : Type 0 where
    pub packets : IsNone new.full → Appends (contents old.packets) (contents new.packets) bytes
    pub numbering : IsNone new.full → Appends (contents old.numbers) (contents new.numbers) numbers
    pub size : IsNone new.full → new.size ≡ old.size + length bytes
    pub stays : IsSome old.full → new.full ≡ old.full
    pub fills : IsNone old.full → new.full ≡ full

  -- each part grows by the bytes and the numbers that are its own, and is full as `full` says of its number and size
  pub record AllGrow (old new : List (Part W)) (bytes numbers : ℕ → List ℕ)
      (full : ℕ → ℕ → Option FullPart) : Type 0 where
    pub count : length new ≡ length old
    pub each : (i : ℕ) (d : Part W) → i < length old
        → Grows (slice_index_or old i d) (slice_index_or new i d) (bytes i) (numbers i)
        (full i (slice_index_or old i d).size)

  -- the parts got what stands behind the file header of a capture
  pub record AreSplit (number : ByteOrder) (link : ℕ) (capture : List ℕ) (old new : List (Part W)) : Type 0 where
    pub records : List (List ℕ)
    pub rest : List ℕ
    pub reading : AreRecords number capture records rest
    pub parts : AllGrow old new (λ i. part_bytes link (length old) i records rest)
        (λ i. part_numbers link (length old) i records rest) (λ i size. part_full link (length old) i size records rest)
