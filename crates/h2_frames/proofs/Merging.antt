-- Frames that stand in order are merged into order.
use Rattle.std.proofs.Common.{◌≡◌, ℕ, ◌+◌, ◌-◌, ◌<◌, ◌≤◌, Bool, true, false, List, [], ◌∷◌, ◌++◌, length, refl, ap, sym}
use Rattle.std.proofs.Common.{◌∙◌, arith, length-append}
use Rattle.std.specs.Prelude.{◌&&◌, ◌||◌}
use Rattle.h2_frames.proofs.Words.{nat_lt, ◌==◌, nat_tests, Arrival, Rises, Side, SideFrame, put_by, ordered_by}
use Rattle.h2_frames.proofs.Words.{side_order}
use Rattle.h2_frames.proofs.Words.{merged, Spelled, Spells, byte_arrival, captured, captured_from, comes_after}
use Rattle.h2_frames.proofs.Words.{numbered, capture_order}
use Rattle.h2_frames.proofs.Numbers.{numbers_push, orderly_push}
use Rattle.h2_frames.proofs.Words.{AllByRecursion, Frame, HaveNumbersFrom, IsInRange, IsOrderlyFrom, IsReadable}
use Rattle.h2_frames.proofs.Words.{cond_both}
use Rattle.std.proofs.Common.{append_assoc, ◌*◌, ◌^◌}

-- comes_after, on the three numbers
is_above : (a b c x y z : ℕ) → Bool
is_above a b c x y z = nat_lt x a || ((a == x) && (nat_lt y b || ((b == y) && nat_lt z c)))

above_trans : (a b c x y z p q r : ℕ) → is_above a b c x y z ≡ false → is_above a b c p q r ≡ true
    → is_above x y z p q r ≡ true
unfolding is_above
above_trans a b c x y z p q r h k = grind (arith, nat_tests)

-- what comes after a frame comes before those that the frame does not come after
after_trans : (x y z : SideFrame) → comes_after x y ≡ false → comes_after x z ≡ true → comes_after y z ≡ true
unfolding is_above
after_trans x y z h k = above_trans x.frame.rec x.frame.number (side_order x.frame.side) y.frame.rec y.frame.number
    (side_order y.frame.side) z.frame.rec z.frame.number (side_order z.frame.side) h k

-- no frame comes after the next, and x not after the first
abbrev pub IsAscendingFrom : SideFrame → List SideFrame → Type 0
IsAscendingFrom x [] = Unit {0}
IsAscendingFrom x (y ∷ ys) = (comes_after x y ≡ false) × IsAscendingFrom y ys

abbrev pub IsAscending : List SideFrame → Type 0
IsAscending [] = Unit {0}
IsAscending (x ∷ xs) = IsAscendingFrom x xs

put-ascending : (x : SideFrame) (xs : List SideFrame) → IsAscendingFrom x xs → put_by comes_after x xs ≡ x ∷ xs
put-ascending x [] h = refl
put-ascending x (y ∷ ys) h = rw h.0

rest_ascending : (x : SideFrame) (xs : List SideFrame) → IsAscendingFrom x xs → IsAscending xs
rest_ascending x [] h = tt
rest_ascending x (y ∷ ys) h = h.1

-- frames in order stay as they are
pub ordered-ascending : (xs : List SideFrame) → IsAscending xs → ordered_by comes_after xs ≡ xs
ordered-ascending [] h = refl
ordered-ascending (x ∷ xs) h =
    ap (put_by comes_after x) (ordered-ascending xs (rest_ascending x xs h)) ∙ put-ascending x xs h

-- a frame before those of its side goes where merging puts it
put-merge : (x : SideFrame) (xs ys : List SideFrame) → IsAscendingFrom x xs →
    put_by comes_after x (merged xs ys) ≡ merged (x ∷ xs) ys
put-merge x [] [] h = refl
put-merge x (c ∷ xs) [] h = rw h.0
put-merge x [] (y ∷ ys) h = grind (arith, put-merge x [] ys h)
put-merge x (c ∷ xs) (y ∷ ys) h = grind (arith, put-merge x (c ∷ xs) ys h, after_trans x c y h.0, h.0)

-- merging puts the frames of both sides in order
pub ordered-merge : (xs ys : List SideFrame) → IsAscending xs → IsAscending ys →
    ordered_by comes_after (xs ++ ys) ≡ merged xs ys
ordered-merge [] ys h k = ordered-ascending ys k
ordered-merge (x ∷ xs) ys h k =
    ap (put_by comes_after x) (ordered-merge xs ys (rest_ascending x xs h) k) ∙ put-merge x xs ys h

-- bytes arrive at later and later records
rec_above : (low rec high o : ℕ) (arrivals : List Arrival) → Rises low rec arrivals high → low ≤ o → o < high →
    rec ≤ (byte_arrival arrivals o).rec
rec_above low rec high o [] rises h k = absurd (omega arith)
rec_above low rec high o (a ∷ later) rises h k =
    grind (arith, nat_tests, rises.1, rec_above a.upto a.rec high o later rises.2)

pub rec_rises : (low rec high o p : ℕ) (arrivals : List Arrival) → Rises low rec arrivals high → low ≤ o → o ≤ p
    → p < high → (byte_arrival arrivals o).rec ≤ (byte_arrival arrivals p).rec
rec_rises low rec high o p [] rises h k l = absurd (omega arith)
rec_rises low rec high o p (a ∷ later) rises h k l =
    grind (arith, nat_tests, rec_rises a.upto a.rec high o p later rises.2, rec_above, rises.2)

pub later_number : (x y : SideFrame) → x.frame.number < y.frame.number → x.frame.rec ≤ y.frame.rec
    → comes_after x y ≡ false
later_number x y h k = grind (arith, nat_tests)

-- a side's frames stand in order
captured-ascending : (side : Side) (arrivals : List Arrival) (high : ℕ) → Rises 0 0 arrivals high
    → (number offset : ℕ) (spelled : List Spelled) (bytes tail : List ℕ) → Spells bytes spelled tail
    → offset + length bytes ≤ high → (x : SideFrame) (last : ℕ) → x.frame.number < number → last ≤ offset
    → x.frame.rec ≡ (byte_arrival arrivals last).rec
    → IsAscendingFrom x (captured_from side arrivals number offset spelled)
captured-ascending side arrivals high rises number offset [] bytes tail spells within x last h k e = tt
captured-ascending side arrivals high rises number offset (s ∷ later) bytes tail spells within x last h k e =
    let makes = spells.4 in
    let size = simp length-append at (ap length spells.3) in
    let upto = offset + (9 + s.header.length) in
    let fits : upto + length spells.2 ≤ high = omega (arith, size, makes.nine, makes.whole) in
    let rec : (byte_arrival arrivals last).rec ≤ (byte_arrival arrivals (upto - 1)).rec =
    rec_rises 0 0 high last (upto - 1) arrivals rises (omega arith) (omega arith) (omega arith) in (
      later_number x (captured side number (byte_arrival arrivals (upto - 1)) s) h (omega arith),
      captured-ascending side arrivals high rises (number + 1) upto later spells.2 tail spells.5 fits
          (captured side number (byte_arrival arrivals (upto - 1)) s) (upto - 1) (omega arith) (omega arith) refl,
    )

pub captured-in_order : (side : Side) (arrivals : List Arrival) (high : ℕ) → Rises 0 0 arrivals high
    → (offset : ℕ) (spelled : List Spelled) (bytes tail : List ℕ) → Spells bytes spelled tail
    → offset + length bytes ≤ high → IsAscending (captured_from side arrivals 1 offset spelled)
captured-in_order side arrivals high rises offset [] bytes tail spells within = tt
captured-in_order side arrivals high rises offset (s ∷ later) bytes tail spells within =
    (captured-ascending side arrivals high rises 1 offset (s ∷ later) bytes tail spells within
    (captured side 0 (byte_arrival arrivals 0) s) 0 (omega arith) (omega arith) refl).1

-- merged and numbered, they are the frames in capture order
pub merged-capture_order : (client server : List SideFrame) → IsAscending client → IsAscending server →
    numbered 1 (merged client server) ≡ capture_order client server
merged-capture_order client server h k = ap (numbered 1) (sym (ordered-merge client server h k))

-- frames of both sides that were merged and numbered, and those of each that are left
pub record AreMergedTo (client server : List SideFrame) (frames : List Frame) (sent answered : List SideFrame)
    : Type 0 where
  pub all : numbered 1 (merged client server) ≡ frames ++ numbered (length frames + 1) (merged sent answered)
  pub size : length frames + (length sent + length answered) ≡ length client + length server
  pub numbers : HaveNumbersFrom 1 frames
  pub orderly : IsOrderlyFrom 0 frames
  pub readable : AllByRecursion IsReadable (merged sent answered)

all_merged : (xs ys : List SideFrame) → AllByRecursion IsReadable xs → AllByRecursion IsReadable ys
    → AllByRecursion IsReadable (merged xs ys)
all_merged [] ys first second = second
all_merged (x ∷ xs) [] first second = (first.0, all_merged xs [] first.1 tt)
all_merged (x ∷ xs) (y ∷ ys) first second =
    cond_both (comes_after x y) (y ∷ merged (x ∷ xs) ys) (x ∷ merged xs (y ∷ ys)) (λ all. AllByRecursion IsReadable all)
    (λ e. (second.0, all_merged (x ∷ xs) ys first second.1))
    (λ e. (first.0, all_merged xs (y ∷ ys) first.1 second))

-- none yet
pub none_merged : (client server : List SideFrame) → AllByRecursion IsReadable client
    → AllByRecursion IsReadable server → AreMergedTo client server [] client server
none_merged client server first second = record {
  all = refl;
  size = omega arith;
  numbers = tt;
  orderly = tt;
  readable = all_merged client server first second;
}

-- one frame more
pub one_merged : (client server : List SideFrame) (frames : List Frame) (sent answered : List SideFrame)
    → 9 * (length client + length server) < 2 ^ 31 → AreMergedTo client server frames sent answered
    → (x : SideFrame) (later others : List SideFrame) → merged sent answered ≡ x ∷ merged later others
    → length later + length others + 1 ≡ length sent + length answered → (number : ℕ) → number ≡ length frames + 1
    → AreMergedTo client server (frames ++ record x.frame { number = number } ∷ []) later others
one_merged client server frames sent answered few is x later others first fewer number number_is =
    let frame : Frame = record x.frame { number = number } in
    let size : length (frames ++ frame ∷ []) ≡ length frames + 1 = length-append frames (frame ∷ []) in
    let readable = rw first at is.readable in
    let range : IsInRange frame = record {
      number = omega (arith, few, is.size, fewer, number_is);
      stream = readable.0.stream;
      promised = readable.0.promised;
      length = readable.0.length;
      nanos = readable.0.nanos;
    } in
    record {
      all = is.all ∙ ap (λ l. frames ++ numbered (length frames + 1) l) first
          ∙ ap (λ n. frames ++ record x.frame { number = n } ∷ numbered (length frames + 1 + 1) (merged later others))
          (sym number_is)
          ∙ sym (append_assoc frames (frame ∷ []) (numbered (length frames + 1 + 1) (merged later others)))
          ∙ ap (λ n. (frames ++ frame ∷ []) ++ numbered (n + 1) (merged later others)) (sym size);
      size = omega (arith, size, is.size, fewer);
      numbers = numbers_push 1 frames frame is.numbers (omega (arith, number_is));
      orderly = orderly_push 0 1 frames frame is.orderly is.numbers (omega arith) range (omega (arith, number_is));
      readable = readable.1;
    }
