-- Bytes behind a capture change none of its records.
use Rattle.std.proofs.Common.{◌≡◌, ◌+◌, ◌∙◌, ℕ, List, [], ◌∷◌, ◌++◌, Some, ap, arith, drop, length, length-append}
use Rattle.std.proofs.Common.{refl, sym, take}
use Rattle.std.proofs.lemmas.List.{drop-append-le, take-append-le}
use Rattle.pcap_records.specs.FileHeader.{ByteOrder, format_of, header_of, number_of}
use Rattle.pcap_records.specs.Record.{AreRecords, BeginsWithRecord, captured_length}
use Rattle.pcap_records.specs.declared.pcap_record.Record.{Record}
use Rattle.pcap_records.specs.laws.Growth.{ReadingGrows}
use Rattle.pcap_records.proofs.Fronts.{ReadsFirst, in_front, reads_first, same_record}

-- a record that begins these bytes begins them still, whatever comes behind
begins_more : (number : ByteOrder) → ReadsFirst number → (bytes more : List ℕ) → BeginsWithRecord number bytes
    → BeginsWithRecord number (bytes ++ more)
begins_more number first bytes more begins =
    let size = in_front number first 8 bytes more (omega (arith, begins.0)) in
    let count = length-append bytes more in
    (omega (arith, begins.0, count), omega (arith, begins.1, count, size))

records_grow : (number : ByteOrder) → ReadsFirst number → (unit at : ℕ) (bytes more : List ℕ) (xs ys : List Record)
    (r s : List ℕ) → AreRecords number unit at bytes xs r → AreRecords number unit at (bytes ++ more) ys s
    → take (length xs) ys ≡ xs
records_grow number first unit at bytes more [] ys r s a b = refl
records_grow number first unit at bytes more (x ∷ xs) [] r s a b =
    absurd (b.1 (begins_more number first bytes more a.0))
records_grow number first unit at bytes more (x ∷ xs) (y ∷ ys) r s a b =
    let same : y ≡ x = b.1 ∙ same_record number first unit at bytes more a.0.0 ∙ sym a.1 in
    let size : captured_length number (bytes ++ more) ≡ captured_length number bytes =
    in_front number first 8 bytes more (omega (arith, a.0.0)) in
    let behind : drop (16 + captured_length number bytes) (bytes ++ more)
    ≡ drop (16 + captured_length number bytes) bytes ++ more =
    drop-append-le (16 + captured_length number bytes) bytes more a.0.1 in
    let rest = rw (size, behind) at b.2 in
    let later = records_grow number first unit (at + 16 + captured_length number bytes)
    (drop (16 + captured_length number bytes) bytes) more xs ys r s a.2 rest in
    cc

pub reading_grows_lem : ReadingGrows
reading_grows_lem front more a b long x y =
    let header : header_of (front ++ more) ≡ header_of front = take-append-le 24 front more long in
    let some : Some y.format ≡ Some x.format = sym y.magic ∙ ap format_of header ∙ x.magic in
    let same : y.format ≡ x.format = cc in
    let behind : drop 24 (front ++ more) ≡ drop 24 front ++ more = drop-append-le 24 front more long in
    let rows = rw (same, behind) at y.rows in (
      (rw (same, header) at y.link) ∙ sym x.link,
      records_grow (number_of x.format.endian) (reads_first x.format.endian) x.format.unit 24 (drop 24 front) more
          a.rows.items b.rows.items x.rest y.rest x.rows rows,
    )
