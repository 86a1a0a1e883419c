-- A capture has one reading.
use Rattle.std.proofs.Common.{◌≡◌, ◌+◌, ℕ, List, drop, [], ◌∷◌, Some, refl, sym, ◌∙◌}
use Rattle.pcap_records.specs.FileHeader.{ByteOrder, number_of}
use Rattle.pcap_records.specs.laws.Readings.{OneReading}
use Rattle.pcap_records.specs.Record.{AreRecords, captured_length}
use Rattle.pcap_records.specs.declared.pcap_record.Record.{Record}

-- the same bytes are the same records and the same rest
AreRecords-unique : (number : ByteOrder) (unit at : ℕ) (bytes : List ℕ) (xs ys : List Record) (r s : List ℕ)
    → AreRecords number unit at bytes xs r → AreRecords number unit at bytes ys s → (xs ≡ ys) × (r ≡ s)
AreRecords-unique number unit at bytes [] [] r s a b = (refl, a.0 ∙ sym b.0)
AreRecords-unique number unit at bytes [] (y ∷ ys) r s a b = absurd (a.1 b.0)
AreRecords-unique number unit at bytes (x ∷ xs) [] r s a b = absurd (b.1 a.0)
AreRecords-unique number unit at bytes (x ∷ xs) (y ∷ ys) r s a b =
    let (rest, end) = AreRecords-unique number unit (at + 16 + captured_length number bytes)
    (drop (16 + captured_length number bytes) bytes) xs ys r s a.2 b.2 in
    let first : x ≡ y = a.1 ∙ sym b.1 in
    (cc, end)

-- a capture has one reading
pub one_reading_lem : OneReading
one_reading_lem capture a b x y =
    let some : Some y.format ≡ Some x.format = sym y.magic ∙ x.magic in
    let same : y.format ≡ x.format = cc in
    let (rows, rest) = AreRecords-unique (number_of x.format.endian) x.format.unit 24 (drop 24 capture) a.rows.items
    b.rows.items x.rest y.rest x.rows (rw same at y.rows) in
    (x.link ∙ sym (rw same at y.link), rows, rw (x.cut, y.cut, rows, rest))
