-- A record of the classic pcap format: seconds u32, fraction u32, captured length u32, original
-- length u32, and then the captured bytes.
use Rattle.std.specs.Prelude.{◌≡◌, ℕ, ◌+◌, ◌*◌, ◌≤◌, List, [], ◌∷◌, length, drop}
use Rattle.pcap_records.specs.FileHeader.{ByteOrder}
use Rattle.pcap_records.specs.declared.pcap_record.Record.{Record}

-- the captured length of the record at the front of these bytes
abbrev pub captured_length : ByteOrder → List ℕ → ℕ
captured_length number bytes = number 4 (drop 8 bytes)

-- a whole record stands at the front of these bytes: its 16 header bytes and the captured ones
abbrev pub BeginsWithRecord : ByteOrder → List ℕ → Type 0
BeginsWithRecord number bytes = (16 ≤ length bytes) × (16 + captured_length number bytes ≤ length bytes)

-- the record at the front of these bytes, which stand at `at` in the capture
abbrev pub record_at : ByteOrder → ℕ → ℕ → List ℕ → Record
record_at number unit at bytes = record {
  nanos = number 4 bytes * 1000000000 + number 4 (drop 4 bytes) * unit;
  original = number 4 (drop 12 bytes);
  start = at + 16;
  length = captured_length number bytes;
}

-- these bytes, which stand at `at` in the capture, are these records and then a rest that does not
-- begin with a whole one
abbrev pub AreRecords : ByteOrder → ℕ → ℕ → List ℕ → List Record → List ℕ → Type 0
AreRecords number unit at bytes [] rest = (rest ≡ bytes) × ¬ BeginsWithRecord number bytes
AreRecords number unit at bytes (r ∷ rs) rest =
    BeginsWithRecord number bytes
    × (r ≡ record_at number unit at bytes)
    × AreRecords number unit (at + 16 + captured_length number bytes)
    (drop (16 + captured_length number bytes) bytes) rs rest
