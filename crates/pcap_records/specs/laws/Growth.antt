-- A law of growth: bytes behind a capture add records, and change none of those that are there. A reader may hand on
-- each record as soon as its last byte is read.
use Rattle.std.specs.Prelude.{◌≡◌, ◌≤◌, ℕ, List, ◌++◌, length, take}
use Rattle.pcap_records.specs.Reading.{IsReading}
use Rattle.pcap_records.specs.declared.pcap_record.Records.{Records}

-- the reading of a capture that begins with these bytes begins with their reading
abbrev pub ReadingGrows : Type 0
ReadingGrows =
    (front more : List ℕ) (a b : Records) → 24 ≤ length front → IsReading front a → IsReading (front ++ more) b
    → (b.link ≡ a.link) × (take (length a.rows.items) b.rows.items ≡ a.rows.items)
