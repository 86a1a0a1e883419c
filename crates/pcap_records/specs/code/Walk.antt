-- A walk over the records at the front of a capture, behind which more bytes may come.
use Rattle.std.specs.Prelude.{◌≡◌, ◌⊎◌, ◌≤◌, ◌<◌, ◌+◌, ◌-◌, ◌*◌, ◌^◌, ℕ, List, ◌++◌, Option, None, Some}
use Rattle.std.specs.Prelude.{IsTrue, drop, if◌then◌else◌, length, map, min, nat_lt, slice_range, take}
use Rattle.std.specs.List.{AllByRecursion}
use Rattle.pcap_records.specs.FileHeader.{ByteOrder, number_of, header_of, format_of, is_version, link_of}
use Rattle.pcap_records.specs.LinkType.{is_read}
use Rattle.pcap_records.specs.code.Place.{AreTimely, RiseFrom}
use Rattle.pcap_records.specs.Reading.{IsReading}
use Rattle.pcap_records.specs.Record.{AreRecords, BeginsWithRecord, captured_length, record_at}
use Rattle.pcap_records.specs.declared.cursor.RecordCursor.{RecordCursor}
use Rattle.pcap_records.specs.declared.pcap_record.Record.{Record}
use Rattle.pcap_records.specs.declared.pcap_record.Records.{Records}
use Rattle.pcap_records.specs.declared.walk.RecordWalk.{RecordWalk}

-- whatever bytes come behind a front: what completes the records from `at` on completes all of them
abbrev pub Completes : ByteOrder → ℕ → List ℕ → List Record → ℕ → Type 0
Completes number unit front rows at =
    (more : List ℕ) (rs : List Record) (rest : List ℕ)
    → AreRecords number unit at (drop at (front ++ more)) rs rest
    → AreRecords number unit 24 (drop 24 (front ++ more)) (rows ++ rs) rest

-- these rows were read from the front of a capture, and the next record begins at `at`
pub record AreRead (number : ByteOrder) (unit : ℕ) (front : List ℕ) (rows : List Record) (at : ℕ) : Type 0 where
  pub completes : Completes number unit front rows at
  pub high : at ≤ length front
  pub few : 16 * length rows + 24 ≤ at
  pub placed : RiseFrom 24 at rows
  pub timely : AreTimely rows

-- a cursor that has passed these records of the front of a capture, as its header says how to read it
pub record HasPassed (front : List ℕ) (rows : List Record) (cursor : RecordCursor) : Type 0 where
  pub magic : format_of (header_of front) ≡ Some cursor.format
  pub unit : cursor.format.unit ≤ 1000
  pub version : IsTrue (is_version (number_of cursor.format.endian) (header_of front))
  pub link : cursor.link ≡ link_of (number_of cursor.format.endian) (header_of front)
  pub linked : IsTrue (is_read cursor.link)
  pub read : AreRead (number_of cursor.format.endian) cursor.format.unit front rows cursor.at

-- the next record of a capture whose rest, from `at` on, are these bytes: a whole one, whose time fits a signed number
-- of 64 bits, or none
abbrev pub IsNextRecord : ByteOrder → ℕ → ℕ → List ℕ → Option Record → Type 0
IsNextRecord number unit at bytes None = ¬ BeginsWithRecord number bytes
IsNextRecord number unit at bytes (Some r) =
    BeginsWithRecord number bytes × (r ≡ record_at number unit at bytes) × (r.nanos < 2 ^ 63)

-- a record of a capture, and its captured bytes
abbrev pub Captured : Type 0
Captured = Record × List ℕ

abbrev pub rows_of : List Captured → List Record
rows_of seen = map (λ (one : Captured). one.0) seen

-- the captured bytes of each record stand in the front of a capture
abbrev pub AreCaptured : List ℕ → List Captured → Type 0
AreCaptured front seen =
    AllByRecursion
    (λ (one : Captured). (one.0.start + one.0.length ≤ length front)
    × (one.1 ≡ slice_range front one.0.start (one.0.start + one.0.length)))
    seen

-- the next record of a capture of this link type, behind these, and its captured bytes
pub record IsNext (link : ℕ) (seen : List Captured) (row : Record) (packet : List ℕ) : Type 0 where
  pub linked : IsTrue (is_read link)
  pub few : 16 * length seen + 40 ≤ row.start
  pub behind : RiseFrom 24 row.start (rows_of seen)
  pub within : row.start + row.length ≤ 2 ^ 31
  pub size : length packet ≡ row.length
  pub soon : row.nanos < 2 ^ 63

module _ {V : Type 0} (after : ℕ → List Captured → V → Type 0) where
  -- a cursor that has passed some records of the front of a capture, each of which a visitor was handed, and stands
  -- where these bytes begin
  pub record IsAt (front bytes : List ℕ) (cursor : RecordCursor) (visitor : V) : Type 0 where
    pub seen : List Captured
    pub passed : HasPassed front (rows_of seen) cursor
    pub captured : AreCaptured front seen
    pub visited : after cursor.link seen visitor
    pub here : drop cursor.at front ≡ bytes

  -- a walk that was fed the front of a capture: its visitor was handed all records of it that are whole
  pub record HasFed (front : List ℕ) (walk : RecordWalk V) : Type 0 where
    pub at : IsAt front walk.begun.items walk.cursor walk.visitor
    pub through : ¬ BeginsWithRecord (number_of walk.cursor.format.endian) walk.begun.items

  -- where a walk was fed a whole capture, which has so many records that are whole, these are all that it holds, and
  -- this one is cut
  abbrev pub AreAll : RecordWalk V → (count : ℕ) → (cut : Option ℕ) → Type 0
  AreAll walk count cut =
      (capture : List ℕ) (is : HasFed capture walk) (found : Records) → found.rows.items ≡ rows_of is.at.seen
      → length found.rows.items ≡ count → found.link ≡ walk.cursor.link → found.cut ≡ cut → IsReading capture found

-- so many bytes does the record take that these bytes begin with; or they begin with none
abbrev pub IsSizeOfFirst : ByteOrder → List ℕ → ℕ → Type 0
IsSizeOfFirst number bytes n =
    ((n ≡ 0) × ¬ BeginsWithRecord number bytes)
    ⊎ (BeginsWithRecord number bytes × (n ≡ 16 + captured_length number bytes))

-- how many bytes the record that begins so is known to take: its header, and the rest once that is there
abbrev pub wanted : ByteOrder → List ℕ → ℕ
wanted number begun = if nat_lt (length begun) 16 then 16 else 16 + captured_length number begun

-- a record that was begun got so many of these bytes behind its own: what it was known to lack, as far as they go
pub record HasGot (number : ByteOrder) (old more new : List ℕ) (n : ℕ) : Type 0 where
  pub count : n ≡ min (wanted number old - length old) (length more)
  pub got : new ≡ old ++ take n more

-- and what it lacked behind its header too: it got all of them, or is whole; and it got nothing that is not its own
pub record HasToppedUp (number : ByteOrder) (old more new : List ℕ) (n : ℕ) : Type 0 where
  pub within : n ≤ length more
  pub got : new ≡ old ++ take n more
  pub whole : n < length more → BeginsWithRecord number new
  pub own : BeginsWithRecord number new → length new ≡ 16 + captured_length number new
