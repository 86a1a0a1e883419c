-- What a dealer does with the bytes at hand.
use Rattle.std.specs.Prelude.{◌≡◌, ◌≢◌, ℕ, ◌+◌, ◌<◌, ◌≤◌, Option, List, [], ◌++◌, drop, length, min, take}
use Rattle.std.specs.Prelude.{None, slice_index_or}
use Rattle.std.specs.Io.KnownBytes.{Consumes}
use Rattle.byteorder.specs.Endian.{big_bytes}
use Rattle.pcap_records.specs.Record.{BeginsWithRecord, captured_length}
use Rattle.capture_parts.specs.Files.{order_of}
use Rattle.capture_parts.specs.Pair.{front_of, pair_of, part_of}
use Rattle.capture_parts.specs.Parts.{AreSplit, Grows}
use Rattle.capture_parts.specs.code.Standing.{IsDealt}
use Rattle.capture_parts.specs.declared.dealer.Dealer.{Dealer}
use Rattle.capture_parts.specs.declared.part.FullPart.{FullPart}
use Rattle.capture_parts.specs.declared.part.Part.{Part}

-- from a dealer to that at the next record, whose packet has this front; there are so many parts
pub record IsNext (parts : ℕ) (d e : Dealer) (front : List ℕ) : Type 0 where
  pub link : e.link ≡ d.link
  pub is_little : e.is_little ≡ d.is_little
  pub number : e.number ≡ d.number + 1
  pub pair : e.pair ≡ pair_of e.link front
  pub part : e.part ≡ part_of parts e.number (pair_of e.link front)

module _ {W : Type 0} (contents : W → Option (List ℕ)) where
  -- one part grows, which is full as `full` says of its size, and all others are as they were
  pub record OneGrows (old new : List (Part W)) (i : ℕ) (bytes numbers : List ℕ)
      (full : ℕ → Option FullPart) : Type 0 where
    pub count : length new ≡ length old
    pub one : (d : Part W) → Grows contents (slice_index_or old i d) (slice_index_or new i d) bytes numbers
        (full (slice_index_or old i d).size)
    pub others : (j : ℕ) (d : Part W) → j ≢ i → slice_index_or new j d ≡ slice_index_or old j d

  -- a record was entered whose packet has this front: its part got its number
  pub record HasEntered (d e : Dealer) (old new : List (Part W)) (front : List ℕ) : Type 0 where
    pub next : IsNext (length old) d e front
    pub grows : OneGrows old new e.part [] (big_bytes 8 e.number) (λ size. None)

  -- the record that begins these bytes was entered, of which enough is there to tell its part
  pub record HasBegun (d e : Dealer) (old new : List (Part W)) (unread : List ℕ) : Type 0 where
    pub entered : HasEntered d e old new
        (front_of (drop 16 (take (16 + captured_length (order_of d.is_little) unread) unread)))
    pub front : 16 + min 82 (captured_length (order_of d.is_little) unread) ≤ length unread

  -- these bytes were dealt, of the same capture: they stand behind all that was dealt before
  pub record Deals (d e : Dealer) (old new : List (Part W)) (given : List ℕ) : Type 0 where
    pub link : e.link ≡ d.link
    pub is_little : e.is_little ≡ d.is_little
    pub behind : (first : List (Part W)) (bytes : List ℕ) → IsDealt contents d first old bytes
        → IsDealt contents e first new (bytes ++ given)

  -- these bytes were dealt, which are the last of the same capture
  abbrev pub EndsSplit : Dealer → (old new : List (Part W)) → List ℕ → Type 0
  EndsSplit d old new given = (first : List (Part W)) (bytes : List ℕ) → IsDealt contents d first old bytes
      → AreSplit contents (order_of d.is_little) d.link (bytes ++ given) first new

  -- a reader gave bytes, which were dealt but for some at their end; those hold no whole record. `left` tells the bytes
  -- that a reader will give, where they are known; m bytes were dealt before, and then n
  pub record HasTurned {R : Type 0} (left : R → Option (List ℕ)) (d e : Dealer) (m n : ℕ) (old new : List (Part W))
      (before after : R) (unread : List ℕ) : Type 0 where
    pub given : List ℕ
    pub count : n ≡ m + length given
    pub consumed : Consumes (left before) (left after) (given ++ unread)
    pub none_whole : 0 < length unread → (e.left ≡ 0) × ¬ BeginsWithRecord (order_of e.is_little) unread
    pub dealt : Deals d e old new given
