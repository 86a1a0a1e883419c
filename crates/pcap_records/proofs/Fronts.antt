-- A record's header, read from the bytes that lie together at its front.
use Rattle.std.proofs.Common.{◌≡◌, ◌≤◌, ◌<◌, ◌+◌, ◌^◌, ℕ, List, ◌++◌, Option, Some, None, length, drop}
use Rattle.std.proofs.Common.{◌-◌, ap, ◌∙◌, arith, length-drop, take}
use Rattle.std.proofs.lemmas.List.{drop-append-le, take_all}
use Rattle.std.specs.Prelude.{IfSome, IfNone}
use Rattle.byteorder.specs.Numbers.{big_from-append, little_from-append}
use Rattle.pcap_records.specs.declared.format.Endian.{Endian}
use Rattle.pcap_records.specs.declared.format.Endian.TheVariants.{Big, Little}
use Rattle.pcap_records.specs.FileHeader.{ByteOrder, number_of}
use Rattle.pcap_records.specs.Record.{captured_length, record_at}
use Rattle.pcap_records.specs.code.Walk.{IsNextRecord}
use Rattle.pcap_records.specs.declared.pcap_record.Record.{Record}

-- a number is read from its own bytes alone
abbrev pub ReadsFirst : ByteOrder → Type 0
ReadsFirst number = (n : ℕ) (xs ys : List ℕ) → n ≤ length xs → number n (xs ++ ys) ≡ number n xs

-- and so it is in either order of bytes
pub reads_first : (endian : Endian) → ReadsFirst (number_of endian)
reads_first Big n xs ys fits = big_from-append n xs ys fits
reads_first Little n xs ys fits = little_from-append n xs ys fits

-- a number within a front of the bytes
pub in_front : (number : ByteOrder) → ReadsFirst number → (at : ℕ) (front later : List ℕ) → at + 4 ≤ length front
    → number 4 (drop at (front ++ later)) ≡ number 4 (drop at front)
in_front number first at front later fits =
    ap (number 4) (drop-append-le at front later (omega (arith, fits)))
    ∙ first 4 (drop at front) later (omega (arith, length-drop at front, fits))

-- the record behind a header is the same by its front
pub same_record : (number : ByteOrder) → ReadsFirst number → (unit at : ℕ) (front later : List ℕ) → 16 ≤ length front
    → record_at number unit at (front ++ later) ≡ record_at number unit at front
same_record number first unit at front later fits =
    let seconds = in_front number first 0 front later (omega (arith, fits)) in
    let fraction = in_front number first 4 front later (omega (arith, fits)) in
    let captured = in_front number first 8 front later (omega (arith, fits)) in
    let original = in_front number first 12 front later (omega (arith, fits)) in
    cc

-- the next record by its header, which is there
pub next_by_header : (number : ByteOrder) (unit at : ℕ) (bytes : List ℕ) (found : Option Record) → 16 ≤ length bytes
    → IfSome found (λ r. (16 + captured_length number bytes ≤ length bytes) × (r ≡ record_at number unit at bytes))
    → IfSome found (λ r. r.nanos < 2 ^ 63) → IfNone found (length bytes < 16 + captured_length number bytes)
    → IsNextRecord number unit at bytes found
next_by_header number unit at bytes None long some time none = λ begins. omega (arith, begins.1, none)
next_by_header number unit at bytes (Some r) long some time none = ((long, some.0), some.1, time)

-- what stands behind an offset
pub behind : (at : ℕ) (bytes : List ℕ) → take (length bytes - at) (drop at bytes) ≡ drop at bytes
behind at bytes = take_all (length bytes - at) (drop at bytes) (omega (arith, length-drop at bytes))
