-- The records of a capture as bytes, and which of them go to a part.
use Rattle.std.specs.Prelude.{◌≡◌, ℕ, ◌+◌, ◌==◌, ◌^◌, nat_lt, if◌then◌else◌, Option, None, Some, List, [], ◌∷◌, ◌++◌}
use Rattle.std.specs.Prelude.{length, drop}
use Rattle.std.specs.Option.{option_or}
use Rattle.std.specs.List.{AllByRecursion, concat}
use Rattle.byteorder.specs.Endian.{big_bytes}
use Rattle.pcap_records.specs.FileHeader.{ByteOrder}
use Rattle.pcap_records.specs.Record.{BeginsWithRecord, captured_length}
use Rattle.capture_parts.specs.Pair.{front_of, pair_of, part_of}
use Rattle.capture_parts.specs.declared.pair.Endpoints.{Endpoints}
use Rattle.capture_parts.specs.declared.part.FullPart.{FullPart}

-- a record of a capture: its header of 16 bytes, and the captured ones
abbrev pub IsRecord : ByteOrder → List ℕ → Type 0
IsRecord number bytes = BeginsWithRecord number bytes × (length bytes ≡ 16 + captured_length number bytes)

-- what stands behind a file header is these records, one after the other, and a rest that holds no whole one: the
-- record that the end of the capture cuts, or nothing
pub record AreRecords (number : ByteOrder) (bytes : List ℕ) (records : List (List ℕ)) (rest : List ℕ) : Type 0 where
  pub are : bytes ≡ concat records ++ rest
  pub whole : AllByRecursion (IsRecord number) records
  pub none_left : ¬ BeginsWithRecord number rest

-- a part of this size is full at so many bytes of a record with this pair: with them it would reach 2^31 bytes
abbrev pub full_at : (size count : ℕ) → Option Endpoints → Option FullPart
full_at size count pair = if nat_lt (size + count) (2 ^ 31) then None else Some (record { pair = pair })

-- the endpoints that the packet of this record names
abbrev pub pair_at : (link : ℕ) → List ℕ → Option Endpoints
pair_at link bytes = pair_of link (front_of (drop 16 bytes))

-- link type of the capture, number of parts
module _ (link parts : ℕ) where
  -- the part of record n with these bytes, by the endpoints that its packet names
  abbrev pub part_at : ℕ → List ℕ → ℕ
  part_at n bytes = part_of parts n (pair_at link bytes)

  -- what part i gets of record n, which is all that is taken of it or nothing
  abbrev pub given : (taken : ℕ → List ℕ → List ℕ) → ℕ → ℕ → List ℕ → List ℕ
  given taken i n bytes =
      if length bytes == 0 then [] else
      if part_at n bytes == i then taken n bytes else
      []

  -- what part i gets of records, the first of which is record n, in their order
  abbrev pub given_from : (taken : ℕ → List ℕ → List ℕ) → ℕ → ℕ → List (List ℕ) → List ℕ
  given_from taken i n [] = []
  given_from taken i n (r ∷ rs) = given taken i n r ++ given_from taken i (n + 1) rs

  -- the bytes of part i of a capture with these records and this rest, behind its file header
  abbrev pub part_bytes : ℕ → List (List ℕ) → List ℕ → List ℕ
  part_bytes i records rest = given_from (λ n bytes. bytes) i 1 (records ++ rest ∷ [])

  -- the numbers of its records, each in 8 bytes, the highest first
  abbrev pub part_numbers : ℕ → List (List ℕ) → List ℕ → List ℕ
  part_numbers i records rest = given_from (λ n bytes. big_bytes 8 n) i 1 (records ++ rest ∷ [])

  -- by which of these records part i is full, if by any; the first of them is record n. It is the first of the part's
  -- own with which the part, of this size before, would reach 2^31 bytes, and is told by its endpoints
  abbrev pub full_from : (i size : ℕ) → ℕ → List (List ℕ) → Option FullPart
  full_from i size n [] = None
  full_from i size n (r ∷ rs) =
      let more = length (given (λ n bytes. bytes) i n r) in
      option_or (full_at size more (pair_at link r)) (full_from i (size + more) (n + 1) rs)

  -- the same of all records of a capture
  abbrev pub part_full : (i size : ℕ) → List (List ℕ) → List ℕ → Option FullPart
  part_full i size records rest = full_from i size 1 (records ++ rest ∷ [])
