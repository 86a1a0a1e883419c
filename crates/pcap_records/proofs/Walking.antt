-- What a walk over the records keeps.
use Rattle.std.proofs.Common.{◌≡◌, ◌≤◌, ◌<◌, ◌+◌, ◌-◌, ◌^◌, ℕ, List, [], ◌∷◌, ◌++◌, length, drop, refl, sym, ap, arith}
use Rattle.std.proofs.Common.{Some, ◌∙◌, length-append, length-drop, append_assoc, append-nil, take, nat_lt, inl, inr}
use Rattle.std.proofs.Common.{subst}
use Rattle.std.specs.Prelude.{slice_range}
use Rattle.std.proofs.Math.Seq.{take-add}
use Rattle.std.proofs.lemmas.Bool.{cases_lt, cond-false, le-ltb, lt-ltb}
use Rattle.std.proofs.lemmas.List.{drop_all, drop-append-le, drop-drop, length-map, length-take, length-take-le}
use Rattle.std.proofs.lemmas.List.{map-append, take-append-le, take-take}
use Rattle.pcap_records.specs.FileHeader.{ByteOrder, format_of, header_of, link_of, number_of}
use Rattle.pcap_records.specs.code.Place.{AreTimely, RiseFrom}
use Rattle.pcap_records.specs.Record.{AreRecords, BeginsWithRecord, captured_length, record_at}
use Rattle.pcap_records.specs.Reading.{IsReading, cut_after}
use Rattle.pcap_records.specs.code.Walk.{AreCaptured, AreRead, Captured, Completes, HasFed, HasPassed, IsAt, IsNext}
use Rattle.pcap_records.specs.code.Walk.{IsNextRecord, IsSizeOfFirst, HasGot, HasToppedUp, rows_of, wanted}
use Rattle.pcap_records.proofs.Fronts.{ReadsFirst, in_front, reads_first, same_record}
use Rattle.pcap_records.specs.declared.pcap_record.Record.{Record}
use Rattle.pcap_records.specs.declared.pcap_record.Records.{Records}
use Rattle.pcap_records.specs.declared.cursor.RecordCursor.{RecordCursor}
use Rattle.pcap_records.specs.declared.walk.RecordWalk.{RecordWalk}

-- one more record that begins at the end
RiseFrom-push : (from end : ℕ) (rows : List Record) (r : Record) → RiseFrom from end rows → end ≤ r.start
    → RiseFrom from (r.start + r.length) (rows ++ r ∷ [])
RiseFrom-push from end [] r placed behind = (omega (arith, placed, behind), omega arith)
RiseFrom-push from end (x ∷ rows) r placed behind =
    (placed.0, RiseFrom-push (x.start + x.length) end rows r placed.1 behind)

-- what stands before `end` stands before a later end
pub RiseFrom-widen : (from end size : ℕ) (rows : List Record) → RiseFrom from end rows → end ≤ size
    → RiseFrom from size rows
RiseFrom-widen from end size [] placed more = omega (arith, placed, more)
RiseFrom-widen from end size
    (x ∷ rows) placed more = (placed.0, RiseFrom-widen (x.start + x.length) end size rows placed.1 more)

-- one more record in time
AreTimely-push : (rows : List Record) (r : Record) → AreTimely rows → r.nanos < 2 ^ 63 → AreTimely (rows ++ r ∷ [])
AreTimely-push [] r timely soon = (soon, tt)
AreTimely-push (x ∷ rows) r timely soon = (timely.0, AreTimely-push rows r timely.1 soon)

-- where the next record begins, whichever way it is counted
pub after_record : (number : ByteOrder) (unit at : ℕ) (bytes : List ℕ) (r : Record) → r ≡ record_at number unit at bytes
    → r.start + r.length ≡ at + 16 + captured_length number bytes
after_record number unit at bytes r is = ap (λ (x : Record). x.start + x.length) is

-- a record that begins where the rows end completes them by one, whatever bytes follow
completes-push : (number : ByteOrder) → ReadsFirst number → (unit : ℕ) (front : List ℕ) (rows : List Record) (at : ℕ)
    (r : Record) → AreRead number unit front rows at → BeginsWithRecord number (drop at front)
    → r ≡ record_at number unit at (drop at front) → Completes number unit front (rows ++ r ∷ []) (r.start + r.length)
completes-push number first unit front rows at r read begins is more rs rest others =
    let bytes : List ℕ = drop at (front ++ more) in
    let behind : bytes ≡ drop at front ++ more = drop-append-le at front more read.high in
    let same : r ≡ record_at number unit at bytes =
    is ∙ sym (rw behind (same_record number first unit at (drop at front) more begins.0)) in
    let size : length bytes ≡ length (drop at front) + length more =
    ap length behind ∙ length-append (drop at front) more in
    let after : r.start + r.length ≡ at + (16 + captured_length number bytes) =
    omega (arith, ap (λ (x : Record). x.start + x.length) same) in
    let here : r.length ≡ captured_length number (drop at front) = ap (λ (x : Record). x.length) is in
    let there : r.length ≡ captured_length number bytes = ap (λ (x : Record). x.length) same in
    rw (append_assoc rows (r ∷ []) rs)
    (read.completes more (r ∷ rs) rest (
      (omega (arith, begins.0, size), omega (arith, begins.1, size, here, there)),
      same,
      rw (
        (let flat : at + 16 + captured_length number bytes ≡ at + (16 + captured_length number bytes) = omega arith in
            flat),
        drop-drop (16 + captured_length number bytes) at (front ++ more),
        ← after,
      ) others,
    ))

-- and is one more row
pub AreRead-push : (number : ByteOrder) → ReadsFirst number → (unit : ℕ) (front : List ℕ) (rows : List Record) (at : ℕ)
    (r : Record) → AreRead number unit front rows at → BeginsWithRecord number (drop at front)
    → r ≡ record_at number unit at (drop at front) → r.nanos < 2 ^ 63
    → AreRead number unit front (rows ++ r ∷ []) (r.start + r.length)
AreRead-push number first unit front rows at r read begins is soon =
    let len : ℕ = captured_length number (drop at front) in
    let after : r.start + r.length ≡ at + 16 + len = after_record number unit at (drop at front) r is in
    let start : r.start ≡ at + 16 = ap (λ (x : Record). x.start) is in
    let left : length (drop at front) ≡ length front - at = length-drop at front in
    let one : length (rows ++ r ∷ []) ≡ length rows + 1 = length-append rows (r ∷ []) in
    let fits : 16 + len ≤ length (drop at front) = begins.1 in
    record {
      completes = completes-push number first unit front rows at r read begins is;
      high = omega arith;
      few = omega arith;
      placed = RiseFrom-push 24 at rows r read.placed (omega arith);
      timely = AreTimely-push rows r read.timely soon;
    }

-- where no record begins, the rows are all of a capture that ends there
pub AreRead-end : (number : ByteOrder) (unit : ℕ) (capture : List ℕ) (rows : List Record) (at : ℕ)
    → AreRead number unit capture rows at → ¬ BeginsWithRecord number (drop at capture)
    → AreRecords number unit 24 (drop 24 capture) rows (drop at capture)
AreRead-end number unit capture rows at read none =
    rw (append-nil capture, append-nil rows) at
    (read.completes [] [] (drop at capture) (rw (append-nil capture) (refl, none)))

-- what was read stays so, whatever comes behind it
pub AreRead-more : (number : ByteOrder) (unit : ℕ) (front more : List ℕ) (rows : List Record) (at : ℕ)
    → AreRead number unit front rows at → AreRead number unit (front ++ more) rows at
AreRead-more number unit front more rows at read = record {
  completes = λ later rs rest others. rw (append_assoc front more later)
      (read.completes (more ++ later) rs rest (rw (append_assoc front more later) at others));
  high = omega (arith, read.high, length-append front more);
  few = read.few;
  placed = read.placed;
  timely = read.timely;
}

-- and so does what a cursor has passed
HasPassed-more : (front more : List ℕ) (rows : List Record) (cursor : RecordCursor) → HasPassed front rows cursor
    → HasPassed (front ++ more) rows cursor
HasPassed-more front more rows cursor is =
    let header : header_of (front ++ more) ≡ header_of front =
    take-append-le 24 front more (omega (arith, is.read.few, is.read.high)) in
    record {
      magic = ap format_of header ∙ is.magic;
      unit = is.unit;
      version = rw header is.version;
      link = is.link ∙ ap (link_of (number_of cursor.format.endian)) (sym header);
      linked = is.linked;
      read = AreRead-more (number_of cursor.format.endian) cursor.format.unit front more rows cursor.at is.read;
    }

-- captured bytes stay so too
AreCaptured-more : (front more : List ℕ) (seen : List Captured) → AreCaptured front seen
    → AreCaptured (front ++ more) seen
AreCaptured-more front more [] are = tt
AreCaptured-more front more (one ∷ seen) are =
    let from = one.0.start in
    let upto = one.0.start + one.0.length in (
      (
        omega (arith, are.0.0, length-append front more),
        are.0.1 ∙ sym (
            ap (take (upto - from)) (drop-append-le from front more (omega (arith, are.0.0)))
            ∙ take-append-le (upto - from) (drop from front) more
            (omega (arith, are.0.0, length-drop from front))
            ),
      ),
      AreCaptured-more front more seen are.1,
    )

AreCaptured-push : (front : List ℕ) (seen : List Captured) (one : Captured) → AreCaptured front seen
    → AreCaptured front (one ∷ []) → AreCaptured front (seen ++ one ∷ [])
AreCaptured-push front [] one are is = is
AreCaptured-push front (first ∷ seen) one are is = (are.0, AreCaptured-push front seen one are.1 is)

-- a cursor that steps over the record that it found has passed it
passes : (front : List ℕ) (rows : List Record) (old new : RecordCursor) (row : Record)
    → new ≡ record old { at = row.start + row.length }
    → IsNextRecord (number_of old.format.endian) old.format.unit old.at (drop old.at front) (Some row)
    → HasPassed front rows old → HasPassed front (rows ++ row ∷ []) new
passes front rows old new row moved found passed =
    rw moved (record {
      magic = passed.magic;
      unit = passed.unit;
      version = passed.version;
      link = passed.link;
      linked = passed.linked;
      read = AreRead-push (number_of old.format.endian) (reads_first old.format.endian) old.format.unit front rows
          old.at row passed.read found.0 found.1 found.2;
    })

-- before the first record, the file header alone is enough
header_alone : (front : List ℕ) (cursor : RecordCursor) → HasPassed front [] cursor → cursor.at ≡ 24
    → HasPassed (take 24 front) [] cursor
header_alone front cursor is at =
    let long : 24 ≤ length front = omega (arith, is.read.few, is.read.high) in
    let header : header_of (take 24 front) ≡ header_of front = take-take 24 24 front (omega arith) in
    record {
      magic = ap format_of header ∙ is.magic;
      unit = is.unit;
      version = rw header is.version;
      link = is.link ∙ ap (link_of (number_of cursor.format.endian)) (sym header);
      linked = is.linked;
      read = record {
        completes = λ more rs rest others. rw at at others;
        high = omega (arith, at, length-take 24 front, long);
        few = is.read.few;
        placed = is.read.placed;
        timely = tt;
      };
    }

module _ {V : Type 0} (after : ℕ → List Captured → V → Type 0) where
  -- how far a cursor and the bytes where it stands go
  pub at_count : (front bytes : List ℕ) (cursor : RecordCursor) (visitor : V) → IsAt after front bytes cursor visitor
      → cursor.at + length bytes ≡ length front
  at_count front bytes cursor visitor is =
      omega (arith, ap length is.here, length-drop cursor.at front, is.passed.read.high)

  -- what comes next, of the record that is found
  pub is_next : (front bytes : List ℕ) (cursor : RecordCursor) (visitor : V) (row : Record) (packet : List ℕ)
      → (is : IsAt after front bytes cursor visitor) → length front ≤ 2 ^ 31
      → IsNextRecord (number_of cursor.format.endian) cursor.format.unit cursor.at bytes (Some row)
      → packet ≡ slice_range bytes 16 (16 + row.length) → IsNext cursor.link is.seen row packet
  is_next front bytes cursor visitor row packet is short found same =
      let number = number_of cursor.format.endian in
      let start : row.start ≡ cursor.at + 16 = ap (λ (r : Record). r.start) found.1 in
      let size : row.length ≡ captured_length number bytes = ap (λ (r : Record). r.length) found.1 in
      let count = at_count front bytes cursor visitor is in
      record {
        linked = is.passed.linked;
        few = omega (arith, start, is.passed.read.few, length-map is.seen (λ (one : Captured). one.0));
        behind = RiseFrom-widen 24 cursor.at row.start (rows_of is.seen) is.passed.read.placed (omega (arith, start));
        within = omega (arith, start, size, count, short, found.0.1);
        size = omega (
          arith,
          ap length same,
          length-take (16 + row.length - 16) (drop 16 bytes),
          length-drop 16 bytes,
          found.0.1,
          size,
        );
        soon = found.2;
      }

  -- a cursor stands behind the record that it found, once a visitor was handed it
  pub at_next : (front bytes : List ℕ) (old new : RecordCursor) (before now : V) (row : Record) (packet : List ℕ)
      → (is : IsAt after front bytes old before)
      → IsNextRecord (number_of old.format.endian) old.format.unit old.at bytes (Some row)
      → new ≡ record old { at = row.start + row.length } → packet ≡ slice_range bytes 16 (16 + row.length)
      → after old.link (is.seen ++ (row, packet) ∷ []) now → IsAt after front (drop (16 + row.length) bytes) new now
  at_next front bytes old new before now row packet is found moved same visited =
      let number = number_of old.format.endian in
      let start : row.start ≡ old.at + 16 = ap (λ (r : Record). r.start) found.1 in
      let size : row.length ≡ captured_length number bytes = ap (λ (r : Record). r.length) found.1 in
      let at : new.at ≡ row.start + row.length = ap (λ (c : RecordCursor). c.at) moved in
      let count = at_count front bytes old before is in
      let next = passes front (rows_of is.seen) old new row moved (rw (sym is.here) at found) is.passed in
      let bytes_there : drop 16 bytes ≡ drop row.start front =
      ap (drop 16) (sym is.here) ∙ drop-drop 16 old.at front ∙ ap (λ n. drop n front) (omega (arith, start)) in
      let these : packet ≡ slice_range front row.start (row.start + row.length) =
      same ∙ ap (take (16 + row.length - 16)) bytes_there
      ∙ ap (λ n. take n (drop row.start front)) (omega arith) in
      record {
        seen = is.seen ++ (row, packet) ∷ [];
        passed = subst (λ rows. HasPassed front rows new)
            (sym (map-append (λ (one : Captured). one.0) is.seen ((row, packet) ∷ []))) next;
        captured = AreCaptured-push front is.seen (row, packet) is.captured
            ((omega (arith, start, size, count, found.0.1), these), tt);
        visited = subst (λ link. after link (is.seen ++ (row, packet) ∷ []) now)
            (sym (ap (λ (c : RecordCursor). c.link) moved)) visited;
        here = ap (λ n. drop n front) (at ∙ (let there : row.start + row.length ≡ old.at + (16 + row.length) =
            omega (arith, start) in there))
            ∙ sym (drop-drop (16 + row.length) old.at front) ∙ ap (drop (16 + row.length)) is.here;
      }

  -- what stands at a front stands at more of it
  pub at_more : (front bytes more : List ℕ) (cursor : RecordCursor) (visitor : V)
      → IsAt after front bytes cursor visitor
      → IsAt after (front ++ more) (bytes ++ more) cursor visitor
  at_more front bytes more cursor visitor is = record {
    seen = is.seen;
    passed = HasPassed-more front more (rows_of is.seen) cursor is.passed;
    captured = AreCaptured-more front more is.seen is.captured;
    visited = is.visited;
    here = drop-append-le cursor.at front more is.passed.read.high ∙ ap (λ l. l ++ more) is.here;
  }

  -- a walk that begins was fed the file header
  pub fed_header : (front : List ℕ) (cursor : RecordCursor) (walk : RecordWalk V) → HasPassed front [] cursor
      → cursor.at ≡ 24 → walk.cursor ≡ cursor → walk.begun.items ≡ [] → after cursor.link [] walk.visitor
      → HasFed after (take 24 front) walk
  fed_header front cursor walk passed at same none visited =
      let long : 24 ≤ length front = omega (arith, passed.read.few, passed.read.high) in
      let size : length (take 24 front) ≡ 24 = omega (arith, length-take 24 front, long) in
      let end : drop 24 (take 24 front) ≡ [] = drop_all 24 (take 24 front) (omega (arith, size)) in
      record {
        at = record {
          seen = [];
          passed = rw same (header_alone front cursor passed at);
          captured = tt;
          visited = rw same visited;
          here = rw (same, at, none) end;
        };
        through = λ begins. omega (arith, begins.0, ap length none);
      }

  -- where a walk was fed a whole capture, its records are those of the reading
  pub reading_of : (capture : List ℕ) (walk : RecordWalk V) (found : Records) → (is : HasFed after capture walk)
      → found.link ≡ walk.cursor.link → found.rows.items ≡ rows_of is.at.seen
      → found.cut ≡ cut_after found.rows.items walk.begun.items → IsReading capture found
  reading_of capture walk found is link rows cut =
      let cursor = walk.cursor in
      let number = number_of cursor.format.endian in
      let none : ¬ BeginsWithRecord number (drop cursor.at capture) =
      λ begins. is.through (rw is.at.here at begins) in
      let all = AreRead-end number cursor.format.unit capture (rows_of is.at.seen) cursor.at is.at.passed.read none in
      record {
        format = cursor.format;
        rest = walk.begun.items;
        magic = is.at.passed.magic;
        link = link ∙ is.at.passed.link;
        rows = rw (rows, sym is.at.here) all;
        cut = cut;
      }

-- what a record gets behind its header says nothing else of its length
captured_stays : (number : ByteOrder) → ReadsFirst number → (begun more : List ℕ) → 16 ≤ length begun
    → captured_length number (begun ++ more) ≡ captured_length number begun
captured_stays number first begun more long = in_front number first 8 begun more (omega (arith, long))

wanted_short : (number : ByteOrder) (begun : List ℕ) → length begun < 16 → wanted number begun ≡ 16
wanted_short number begun short = rw (lt-ltb (length begun) 16 short) refl

wanted_long : (number : ByteOrder) (begun : List ℕ) → 16 ≤ length begun
    → wanted number begun ≡ 16 + captured_length number begun
wanted_long number begun long = cond-false (nat_lt (length begun) 16) _ _ (le-ltb (length begun) 16 long)

-- what is known to be wanted is never more than what there is, of a record that is not whole
not_over : (number : ByteOrder) → ReadsFirst number → (old more mid : List ℕ) (n : ℕ) → ¬ BeginsWithRecord number old
    → HasGot number old more mid n → length mid ≡ length old + n → 16 ≤ length mid
    → length mid ≤ 16 + captured_length number mid
not_over number first old more mid n none got size long = elim (cases_lt (length old) 16) [
  | inl short ↦ omega (arith, got.count, wanted_short number old short, size)
  | inr whole ↦
      let same : captured_length number mid ≡ captured_length number old =
      ap (captured_length number) got.got ∙ captured_stays number first old (take n more) whole in
      elim (cases_lt (length old) (16 + captured_length number old)) [
        | inl less ↦ omega (arith, got.count, wanted_long number old whole, size, same, less)
        | inr all ↦ absurd (none (whole, all))
      ]
]

-- a record that was begun and gets what its header lacks, and then what it lacks behind that
pub topped_up : (number : ByteOrder) → ReadsFirst number → (old more mid new : List ℕ) (header body : ℕ)
    → ¬ BeginsWithRecord number old → HasGot number old more mid header
    → HasGot number mid (drop header more) new body → HasToppedUp number old more new (header + body)
topped_up number first old more mid new header body none got then =
    let within : header ≤ length more = omega (arith, got.count) in
    let left : length (drop header more) ≡ length more - header = length-drop header more in
    let mid_size : length mid ≡ length old + header =
    omega (arith, ap length got.got, length-append old (take header more), length-take-le header more within) in
    let body_within : body ≤ length (drop header more) = omega (arith, then.count) in
    let new_size : length new ≡ length mid + body = omega (
      arith,
      ap length then.got,
      length-append mid (take body (drop header more)),
      length-take-le body (drop header more) body_within,
    ) in
    let all : new ≡ old ++ take (header + body) more =
    then.got ∙ ap (λ l. l ++ take body (drop header more)) got.got
    ∙ append_assoc old (take header more) (take body (drop header more))
    ∙ ap (λ l. old ++ l) (sym (take-add header body more)) in
    elim (cases_lt (length mid) 16) [
      | inl short ↦
          let whole_old : length old < 16 = omega (arith, mid_size, short) in
          let everything : header ≡ length more =
          omega (arith, got.count, wanted_short number old whole_old, mid_size, short) in
          record {
            within = omega (arith, within, body_within, left);
            got = all;
            whole = λ less. absurd (omega (arith, less, everything));
            own = λ begins. absurd (omega (arith, begins.0, new_size, body_within, left, everything, short));
          }
      | inr long ↦
          let same : captured_length number new ≡ captured_length number mid =
          ap (captured_length number) then.got
          ∙ captured_stays number first mid (take body (drop header more)) long in
          let most = not_over number first old more mid header none got mid_size long in
          let count = then.count in
          let is_wanted = wanted_long number mid long in
          record {
            within = omega (arith, within, body_within, left);
            got = all;
            whole = λ less. (
              omega (arith, new_size, long),
              omega (arith, less, count, is_wanted, left, new_size, same, most),
            );
            own = λ begins. omega (arith, begins.1, count, is_wanted, left, new_size, same, most);
          }
    ]

-- what the size tells of the first record
pub none_first : (number : ByteOrder) (bytes : List ℕ) (size : ℕ) → IsSizeOfFirst number bytes size → size ≡ 0
    → ¬ BeginsWithRecord number bytes
none_first number bytes size is zero = elim is [
  | inl (_, none) ↦ none
  | inr (_, some) ↦ absurd (omega (arith, some, zero))
]

pub some_first : (number : ByteOrder) (bytes : List ℕ) (size : ℕ) → IsSizeOfFirst number bytes size → 0 < size
    → BeginsWithRecord number bytes × (size ≡ 16 + captured_length number bytes)
some_first number bytes size is some = elim is [
  | inl (zero, _) ↦ absurd (omega (arith, some, zero))
  | inr found ↦ found
]

-- a record that is whole takes all bytes that were its own
pub all_of_first : (number : ByteOrder) (old more begun bytes : List ℕ) (n size : ℕ)
    → HasToppedUp number old more begun n → bytes ≡ begun → IsSizeOfFirst number bytes size → 0 < size
    → length bytes ≤ size
all_of_first number old more begun bytes n size topped same is some =
    let (begins, whole) = some_first number bytes size is some in
    let own = topped.own (rw same at begins) in
    omega (arith, whole, own, ap length same, ap (captured_length number) same)

module _ {V : Type 0} (after : ℕ → List Captured → V → Type 0) where
  -- a record that was begun got more
  pub topped_at : (front more begun bytes : List ℕ) (n : ℕ) (walk : RecordWalk V) → HasFed after front walk
      → HasToppedUp (number_of walk.cursor.format.endian) walk.begun.items more begun n → bytes ≡ begun
      → IsAt after (front ++ take n more) bytes walk.cursor walk.visitor
  topped_at front more begun bytes n walk fed topped same =
      subst (λ bytes. IsAt after (front ++ take n more) bytes walk.cursor walk.visitor) (sym (same ∙ topped.got))
      (at_more after front walk.begun.items (take n more) walk.cursor walk.visitor fed.at)

  -- bytes come where no record is begun
  pub none_at : (front more : List ℕ) (walk : RecordWalk V) → HasFed after front walk → walk.begun.items ≡ []
      → IsAt after (front ++ more) more walk.cursor walk.visitor
  none_at front more walk fed none =
      subst (λ bytes. IsAt after (front ++ more) bytes walk.cursor walk.visitor) (ap (λ l. l ++ more) none)
      (at_more after front walk.begun.items more walk.cursor walk.visitor fed.at)
