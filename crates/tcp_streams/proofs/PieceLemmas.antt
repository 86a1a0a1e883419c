-- On the pieces of a side's segments: they bring what the segments bring.
use Rattle.std.{proofs.Common.min, specs.List.cons_option}
use Rattle.tcp_streams.proofs.Words.{All, All-cons, is_sent_by, none-some, option_or, segment_in, segment_of, slice_get}
use Rattle.tcp_streams.proofs.Words.{All-nil, Carried, IfSome, Interval, IsSame, Option, Segment, TimesFit, [], size_of}
use Rattle.tcp_streams.proofs.Words.{AreMembers, IsCaptured, IsInterval, filter_map, nat_tests, sum_by-cons}
use Rattle.tcp_streams.proofs.Words.{AreNumberedFrom, end_of_offsets, option_and_then, option_to_list, payload_length}
use Rattle.tcp_streams.proofs.Words.{IfSome_then, PayloadsRise, if◌then◌else◌, member_piece, payload_sum, segments_of}
use Rattle.tcp_streams.proofs.Words.{List, None, Packet, Source, arith, filter, lt-ltb, nat_lt, piece, source, width, ℕ}
use Rattle.tcp_streams.proofs.Words.{Some, at, drop, refl, suc, sym, zero, ◌%◌, ◌+◌, ◌-◌, ◌<◌, ◌^◌, ◌∙◌, ◌∷◌, ◌≡◌}
use Rattle.tcp_streams.proofs.{IntervalLemmas.at-append, Lists.by_Bool, Lists.by_lt, Lists.by_option}
use Rattle.tcp_streams.specs.{Sequence.earlier_of, Sequence.modulus, code.Interval.stretch, laws.Flows.ByteHasOffset}
use Rattle.tcp_streams.{proofs.Numbered.numbered_at, proofs.Words.StartedSide, proofs.Words.◌≤◌, specs.Sequence.brings}

-- a payload that stands in the capture
pub record StandsIn (size : ℕ) (s : Segment) : Type 0 where
  pub ordered : s.lo ≤ s.hi
  pub within : s.hi ≤ size

-- an interval of a segment's payload
pub record IsPieceOf (s : Segment) (x : Interval) : Type 0 where
  pub interval : IsInterval x
  pub first : s.lo ≤ x.index
  pub within : x.index + (x.upto - x.from) ≤ s.hi
  pub rec_is : x.rec ≡ s.rec
  pub nanos_is : x.nanos ≡ s.nanos

-- which byte of a payload that begins at st has the offset o
distance-past : (st o : ℕ) → st < 2 ^ 32 → o < 2 ^ 31 → st ≤ o → (o + (2 ^ 32 - st)) % 2 ^ 32 ≡ o - st
distance-past st o a b c = omega arith

distance-before : (st o : ℕ) → st < 2 ^ 32 → o < st → (o + (2 ^ 32 - st)) % 2 ^ 32 ≡ o + (2 ^ 32 - st)
distance-before st o a b = omega arith

stretch-is : (s : Segment) (skipped from upto : ℕ) → s.hi ≤ 2 ^ 31 → upto ≤ end_of_offsets
    → (from < upto → s.lo + skipped + (upto - from) ≤ s.hi) → IfSome (stretch s skipped from upto) (IsPieceOf s)
stretch-is s skipped from upto short counts within =
    by_lt from upto
    (λ e lt. rw e (record {
      interval = record { some = lt; counts = counts; room = omega (arith, within lt) };
      first = omega arith;
      within = within lt;
      rec_is = refl;
      nanos_is = refl;
    }))
    (λ e _. rw e tt)

-- what a payload's byte at this distance from the first brings
abbrev byte_at : Segment → ℕ → Option Source
byte_at s k =
    if nat_lt k (payload_length s) then Some (record { rec = s.rec; nanos = s.nanos; index = s.lo + k }) else None

-- where a segment's payload begins at st, its piece brings what the segment brings
same-at : (st size o : ℕ) (s : Segment) → StandsIn size s → size ≤ 2 ^ 31 → st < 2 ^ 32 → o < 2 ^ 31
    → byte_at s ((o + (2 ^ 32 - st)) % 2 ^ 32)
    ≡ at (option_to_list (if nat_lt st end_of_offsets then stretch s 0 st (min (st + payload_length s) end_of_offsets)
    else stretch s (modulus - st) 0 (st + payload_length s - modulus))) o
same-at st size o s stands small low lt = grind (arith, nat_tests, distance-past st o low lt, distance-before st o low)

module _ (initial_number size : ℕ) (small : size ≤ 2 ^ 31) (s : Segment) (stands : StandsIn size s) where
  pub piece-is : IfSome (piece initial_number s) (IsPieceOf s)
  piece-is = grind (arith, nat_tests, by_lt, stretch-is)

  -- the piece of a segment brings what the segment brings
  pub piece-same : IsSame (brings initial_number s) (at (option_to_list (piece initial_number s)))
  piece-same = grind (arith, nat_tests, same-at, stands)

round-trip : (a initial_number k : ℕ) → k < 2 ^ 32
    → ((a + k + (2 ^ 32 - 1 - initial_number)) % 2 ^ 32 + (2 ^ 32
    - (a + (2 ^ 32 - 1 - initial_number)) % 2 ^ 32)) % 2 ^ 32 ≡ k
round-trip a initial_number k lt = omega arith

-- payload byte k has the offset that is k past the first one's
pub byte-has-offset : ByteHasOffset
byte-has-offset initial_number s k le lt = grind (arith, nat_tests, round-trip, lt-ltb)

pub ruleset laws = (byte-has-offset)

-- the segment stands in the capture, in a record after this one, and its time is a capture's
record IsSound (size low : ℕ) (s : Segment) : Type 0 where
  stands : StandsIn size s
  after : low < s.rec
  timely : s.nanos < 2 ^ 63

-- pieces in order of record
abbrev pub AreRising : ℕ → List Interval → Type 0
AreRising low [] = Unit {0}
AreRising low (x ∷ xs) = (low < x.rec) × AreRising x.rec xs

AreRising-weaker : (low low' : ℕ) (xs : List Interval) → low' ≤ low → AreRising low xs → AreRising low' xs
AreRising-weaker low low' [] le h = tt
AreRising-weaker low low' (x ∷ xs) le h = (omega (arith, h.0), h.1)

-- a source in the capture, of a record above this one
abbrev IsCitedAfter : ℕ → ℕ → Source → Type 0
IsCitedAfter size low x = (low < x.rec) × IsCaptured size x

-- the pieces bring what the segments bring, each in its turn
pub record ArePiecesOf (initial_number size low : ℕ) (segments : List Segment) (pieces : List Interval) : Type 0 where
  pub intervals : All IsInterval pieces
  pub fit : size_of pieces ≤ payload_sum segments
  pub rise : AreRising low pieces
  pub cited : (o : ℕ) → IfSome (source initial_number segments o) (IsCitedAfter size low)
  pub same : IsSame (source initial_number segments) (at pieces)

-- of a segment's source and those after it, the segment's is the one of the least record
earliest : (p q : Option Source) (rec : ℕ) → IfSome p (λ (x : Source). x.rec ≡ rec)
    → IfSome q (λ (y : Source). rec < y.rec) → earlier_of p q ≡ option_or p q
earliest p q rec h k = grind (arith, nat_tests)

-- what is so of both is so of the first that is there
either : (p q : Option Source) (P : Source → Type 0) → IfSome p P → IfSome q P → IfSome (option_or p q) P
either None q P h k = k
either (Some x) q P h k = h

module _ (initial_number size : ℕ) (small : size < 2 ^ 31) where
  brings-are : (s : Segment) (o : ℕ) → StandsIn size s → s.nanos < 2 ^ 63
      → IfSome (brings initial_number s o) (λ (x : Source). (x.rec ≡ s.rec) × (x.index < size) × (x.nanos < 2 ^ 63))
  brings-are s o stands timely = grind (arith, nat_tests, by_lt, timely)

  -- one segment before others
  module _ (low : ℕ) (s : Segment) (later : List Segment) (sound : IsSound size low s)
      (rest : List Interval) (are : ArePiecesOf initial_number size s.rec later rest) where
    -- its source comes before theirs
    first : (o : ℕ) → source initial_number (s ∷ later) o
        ≡ option_or (brings initial_number s o) (source initial_number later o)
    first o = grind (arith, nat_tests, earliest, brings-are)

    cited : (o : ℕ) → IfSome (source initial_number (s ∷ later) o) (IsCitedAfter size low)
    cited o = grind (arith, nat_tests, first, either, brings-are)

    one_more : (p : Option Interval) → IfSome p (IsPieceOf s) → IsSame (brings initial_number s) (at (option_to_list p))
        → ArePiecesOf initial_number size low (s ∷ later) (cons_option p rest)
    one_more None is same = record {
      intervals = are.intervals;
      fit = omega (arith, are.fit, sum_by-cons payload_length s later);
      rise = AreRising-weaker s.rec low rest (omega (arith, sound.after)) are.rise;
      cited = cited;
      same = λ o lt. first o ∙ rw (same o lt) (are.same o lt);
    }
    one_more (Some x) is same = record {
      intervals = All-cons IsInterval x rest is.interval are.intervals;
      fit = omega (arith, is.first, is.within, are.fit, sum_by-cons payload_length s later, sum_by-cons width x rest);
      rise = (omega (arith, is.rec_is, sound.after), rw is.rec_is are.rise);
      cited = cited;
      same = λ o lt. first o ∙ rw (same o lt, are.same o lt) (sym (at-append (x ∷ []) rest o));
    }

  -- what is so after one record is so after one before it
  weaker : (low low' : ℕ) (segments : List Segment) (pieces : List Interval) → low' ≤ low
      → ArePiecesOf initial_number size low segments pieces → ArePiecesOf initial_number size low' segments pieces
  weaker low low' segments pieces le are = record {
    intervals = are.intervals;
    fit = are.fit;
    rise = AreRising-weaker low low' pieces le are.rise;
    cited = λ o. IfSome_then (source initial_number segments o) (are.cited o) (λ x k. (omega (arith, k.0), k.1));
    same = are.same;
  }

pub PayloadsRise-end : (from size : ℕ) (packets : List Packet) → PayloadsRise from size packets → from ≤ size
PayloadsRise-end from size [] h = h
PayloadsRise-end from size (Carried s ∷ rest) h = omega (arith, h.0, h.1, PayloadsRise-end s.hi size rest h.2)
PayloadsRise-end from size (_ ∷ rest) h = PayloadsRise-end from size rest h

-- a segment's payload stands after those before it, and before those of the packets that follow
pub rise-drop : (from size : ℕ) (packets : List Packet) (k : ℕ) (s : Segment) → PayloadsRise from size packets
    → slice_get packets k ≡ Some (Carried s)
    → (from ≤ s.lo) × (s.lo ≤ s.hi) × PayloadsRise s.hi size (drop (suc k) packets)
rise-drop from size [] k s h at' = absurd (none-some (Carried s) at')
rise-drop from size (Carried x ∷ rest) zero s h at' = rw (let same : s ≡ x = cc in same) h
rise-drop from size (_ ∷ rest) zero s h at' = absurd cc
rise-drop from size (Carried x ∷ rest) (suc i) s h at' =
    let r = rise-drop x.hi size rest i s h.2 at' in (omega (arith, h.0, h.1, r.0), r.1, r.2)
rise-drop from size (_ ∷ rest) (suc i) s h at' = rise-drop from size rest i s h at'

pub stands-at : (size : ℕ) (packets : List Packet) (i : ℕ) (s : Segment) → PayloadsRise 0 size packets
    → slice_get packets i ≡ Some (Carried s) → StandsIn size s
stands-at size packets i s rise here =
    let r = rise-drop 0 size packets i s rise here in
    record { ordered = r.1; within = PayloadsRise-end s.hi size (drop (suc i) packets) r.2 }

timely-at : (packets : List Packet) (i : ℕ) (s : Segment) → TimesFit packets → slice_get packets i ≡ Some (Carried s)
    → s.nanos < 2 ^ 63
timely-at [] i s t at' = absurd (none-some (Carried s) at')
timely-at (Carried x ∷ rest) zero s t at' = rw (let same : s ≡ x = cc in same) t.0
timely-at (_ ∷ rest) zero s t at' = absurd cc
timely-at (Carried x ∷ rest) (suc i) s t at' = timely-at rest i s t.1 at'
timely-at (_ ∷ rest) (suc i) s t at' = timely-at rest i s t at'

-- a segment found by its record stands at the record's index
pub found-at : (packets : List Packet) (m : ℕ) (s : Segment) → segment_of packets m ≡ Some s
    → slice_get packets (m - 1) ≡ Some (Carried s)
found-at packets m s h = by (slice_get packets (m - 1)) h
  where
    by : (p : Option Packet) → option_and_then segment_in p ≡ Some s → p ≡ Some (Carried s)
    by (Some (Carried x)) e = cc
    by _ e = absurd (none-some s e)

-- the members' pieces are the pieces of the side's segments
module _ (size : ℕ) (small : size < 2 ^ 31) (of : StartedSide) (rise : PayloadsRise 0 size of.packets.now)
    (times : TimesFit of.packets.now) (numbered : AreNumberedFrom 1 of.packets.now) where
  pub pieces-are : (low : ℕ) (members : List ℕ) → AreMembers low of.packets.now members
      → ArePiecesOf of.initial_number size low
      (filter (is_sent_by of.connection.now of.side) (segments_of of.packets.now members))
      (filter_map (member_piece of) members)
  pieces-are low [] h =
      record { intervals = All-nil IsInterval; fit = omega arith; rise = tt; cited = λ o. tt; same = λ o lt. refl }
  pieces-are low (m ∷ rest) h =
      let later = pieces-are m rest h.2 in
      let most : size ≤ 2 ^ 31 = omega arith in
      let le : low ≤ m = omega (arith, h.0) in
      by_option (segment_of of.packets.now m)
      (λ e. rw e (weaker of.initial_number size small m low _ _ le later))
      (λ s e.
      let here = found-at of.packets.now m s e in
      let number : s.rec ≡ m = omega (arith, h.0, numbered_at 1 of.packets.now (m - 1) s numbered here) in
      let stands = stands-at size of.packets.now (m - 1) s rise here in
      let sound : IsSound size low s =
      record {
        stands = stands;
        after = omega (arith, number, h.0);
        timely = timely-at of.packets.now (m - 1) s times
            here;
      }
      in
      rw e (by_Bool (is_sent_by of.connection.now of.side s)
      (λ t. rw t (one_more of.initial_number size small low s _ sound _ (rw number later) (piece of.initial_number s)
      (piece-is of.initial_number size most s stands) (piece-same of.initial_number size most s stands)))
      (λ t. rw t (weaker of.initial_number size small m low _ _ le later))))
