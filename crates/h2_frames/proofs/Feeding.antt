-- Bytes are fed to a side's cutter, and the frames that they complete are handed on.
use Rattle.std.proofs.Common.{◌≡◌, ℕ, ◌+◌, ◌*◌, ◌<◌, ◌≤◌, ◌^◌, List, [], ◌∷◌, ◌++◌, length, take, drop, refl, ap}
use Rattle.std.proofs.Common.{sym}
use Rattle.std.proofs.Common.{subst, ◌∙◌, arith, append_assoc, length-append, inl, inr, Bool, true, false}
use Rattle.std.proofs.lemmas.List.{append-nil, length_push, nil_from_length, take-append-drop, take_all}
use Rattle.std.proofs.lemmas.List.{length-take-le, length-drop}
use Rattle.h2_frames.proofs.Words.{Frame, HoldsNoFrame, IsInRange, Makes, Spelled}
use Rattle.h2_frames.proofs.Words.{Spells}
use Rattle.h2_frames.proofs.Words.{Header, header_of, nat_tests, ◌==◌}
use Rattle.std.proofs.lemmas.Bool.{cases_lt}
use Rattle.h2_frames.proofs.Words.{Err, Ok, Result}
use Rattle.std.specs.Prelude.{OnOk}
use Rattle.h2_frames.proofs.{Cutters.none_fits, Fronts.header_of-append, Promised.promised-fits}
use Rattle.h2_frames.proofs.Numbers.{numbers_push, orderly_push}
use Rattle.h2_frames.specs.code.Brought.{frame_of, frames_from}
use Rattle.h2_frames.specs.code.Cutter.{AreHandedOn, HasCut, HasGathered, HasGoneOn, IsBegun}
use Rattle.h2_frames.specs.code.Handed.{Fits, HasHanded, HasRoomFor, IsNextFrame}
use Rattle.h2_frames.specs.declared.cutter.SideCutter.{SideCutter}
use Rattle.h2_frames.specs.declared.numbering.Numbering.{Numbering}
use Rattle.h2_frames.specs.declared.side_frames.Source.{Source}

-- what a test for no bytes tells
pub some_left : (xs : List ℕ) (b : Bool) → b ≡ (length xs == 0) → b ≡ false → 0 < length xs
some_left xs b is none = grind (arith, nat_tests, is, none)

pub none_left : (xs : List ℕ) (b : Bool) → b ≡ (length xs == 0) → b ≡ true → length xs ≡ 0
none_left xs b is none = grind (arith, nat_tests, is, none)

-- a frame that fits is in range
pub in_range : (source : Source) (number : ℕ) (s : Spelled) → Fits s → source.nanos < 2 ^ 63 → 9 * number < 2 ^ 31
    → IsInRange (frame_of source number s)
in_range source number s fits time few = record {
  number = omega (arith, few);
  stream = fits.stream;
  promised = fits.promised;
  length = fits.length;
  nanos = time;
}

pub fits-made : (s : Spelled) (header payload : List ℕ) → Makes header payload s → s.header.length < 2 ^ 24
    → s.header.stream < 2 ^ 31 → Fits s
fits-made s header payload makes length stream =
    record { stream = stream; promised = promised-fits s makes; length = length }

-- the frames behind others are numbered on
frames_from-append : (source : Source) (n : ℕ) (xs ys : List Spelled)
    → frames_from source n (xs ++ ys) ≡ frames_from source n xs ++ frames_from source (n + length xs) ys
frames_from-append source n [] ys = ap (λ m. frames_from source m ys) (let e : n ≡ n + 0 = omega arith in e)
frames_from-append source n (x ∷ xs) ys =
    let count : n + 1 + length xs ≡ n + length (x ∷ xs) = omega arith in
    ap (λ l. frame_of source n x ∷ l)
    (frames_from-append source (n + 1) xs ys
    ∙ ap (λ m. frames_from source (n + 1) xs ++ frames_from source m ys) count)

pub frames_from-length : (source : Source) (n : ℕ) (xs : List Spelled) → length (frames_from source n xs) ≡ length xs
frames_from-length source n [] = refl
frames_from-length source n (x ∷ xs) = omega (arith, frames_from-length source (n + 1) xs)

-- frames behind those that a front spells
pub spells-append : (bytes tail more end : List ℕ) (xs ys : List Spelled) → Spells bytes xs tail
    → Spells (tail ++ more) ys end → Spells (bytes ++ more) (xs ++ ys) end
spells-append bytes tail more end [] ys first later = rw first.0 later
spells-append bytes tail more end (x ∷ xs) ys first later =
    let (header, payload, rest, split, makes, spells) = first in (
      header,
      payload,
      rest ++ more,
      ap (λ l. l ++ more) split ∙ append_assoc (header ++ payload) rest more,
      makes,
      spells-append rest tail more end xs ys spells later,
    )

-- the tail holds no frame
pub spells-tail : (bytes tail : List ℕ) (xs : List Spelled) → Spells bytes xs tail → HoldsNoFrame tail
spells-tail bytes tail [] spells = rw spells.0 at spells.1
spells-tail bytes tail (x ∷ xs) spells = spells-tail spells.2 tail xs spells.5

-- no frame is shorter than nine bytes
pub spells-length : (bytes tail : List ℕ) (xs : List Spelled) → Spells bytes xs tail
    → 9 * length xs + length tail ≤ length bytes
spells-length bytes tail [] spells = omega (arith, ap length spells.0)
spells-length bytes tail (x ∷ xs) spells =
    let (header, payload, rest, split, makes, later) = spells in
    omega (
      arith,
      spells-length rest tail xs later,
      ap length split,
      length-append (header ++ payload) rest,
      length-append header payload,
      makes.nine,
    )

-- a cutter where nothing is begun
pub none_begun : (tail : List ℕ) (cutter : SideCutter) → IsBegun tail cutter → cutter.count ≡ 0 → tail ≡ []
none_begun tail cutter is none = nil_from_length tail (omega (arith, is.count))

-- a front of bytes that hold no frame holds none
cut_front : (rest : List ℕ) (n : ℕ) → HoldsNoFrame rest → HoldsNoFrame (take n rest)
cut_front rest n none =
    let parts : take n rest ++ drop n rest ≡ rest = take-append-drop n rest in
    let size : length (take n rest) + length (drop n rest) ≡ length rest =
    sym (length-append (take n rest) (drop n rest)) ∙ ap length parts in
    elim (cases_lt (length (take n rest)) 9) [
      | inl short ↦ inl short
      | inr long ↦
          let same : (header_of rest).length ≡ (header_of (take n rest)).length = ap (λ (h : Header). h.length)
          (ap header_of (sym parts) ∙ header_of-append (take n rest) (drop n rest) long) in
          inr (omega (arith, none_fits rest none (omega (arith, size, long)), same, size))
    ]

-- such bytes are begun whole
pub all_gathered : (rest : List ℕ) (n : ℕ) (cutter : SideCutter) → HoldsNoFrame rest
    → HasGathered [] rest n cutter → IsBegun rest cutter
all_gathered rest n cutter none got =
    elim (cases_lt n (length rest)) [
      | inl less ↦ absurd (got.whole less (cut_front rest n none))
      | inr all ↦ subst (λ l. IsBegun l cutter) (take_all n rest all) got.begun
    ]

-- what holds for all of them where a call succeeds
pub on_ok_all : {T E A : Type 0} (r : Result T E) (P Q : A → Type 0) → ((a : A) → P a → OnOk r (Q a))
    → OnOk r ((a : A) → P a → Q a)
on_ok_all (Ok x) P Q h = h
on_ok_all (Err e) P Q h = tt

module _ {V : Type 0} (after : List Frame → V → Type 0) where
  -- one more frame was handed on
  pub handed_more : (frames : List Frame) (old new : Numbering V) (frame : Frame) → HasHanded after frames old
      → frame.number ≡ length frames + 1 → IsInRange frame → new.taken ≡ old.taken + 1
      → after (frames ++ frame ∷ []) new.visitor → HasHanded after (frames ++ frame ∷ []) new
  handed_more frames old new frame is number range counted visited =
      let size : length (frames ++ frame ∷ []) ≡ length frames + 1 = length_push frames frame in
      let number_is : frame.number ≡ 1 + length frames = omega (arith, number) in
      record {
        visited = visited;
        count = omega (arith, size, counted, is.count);
        numbers = numbers_push 1 frames frame is.numbers number_is;
        orderly = orderly_push 0 1 frames frame is.orderly is.numbers (omega arith) range number_is;
      }

  -- a frame that comes next
  pub comes_next : (source : Source) (s : Spelled) (frames : List Frame) (stage : Numbering V)
      → HasHanded after frames stage → Fits s → source.nanos < 2 ^ 63 → 9 * length frames + 9 < 2 ^ 31
      → IsNextFrame frames (frame_of source (stage.taken + 1) s)
  comes_next source s frames stage is fits time few =
      let frame = frame_of source (length frames + 1) s in
      let range = in_range source (length frames + 1) s fits time (omega (arith, few)) in
      let number : length frames + 1 ≡ stage.taken + 1 = omega (arith, is.count) in
      subst (λ (n : ℕ). IsNextFrame frames (frame_of source n s)) number (record {
        number = refl;
        range = range;
        orderly = orderly_push 0 1 frames frame is.orderly is.numbers (omega arith) range (omega arith);
      })

  -- it is the next one
  pub handed_next : (source : Source) (s : Spelled) (frames : List Frame) (old new : Numbering V)
      → HasHanded after frames old → Fits s → source.nanos < 2 ^ 63 → 9 * length frames + 9 < 2 ^ 31
      → after (frames ++ frame_of source (old.taken + 1) s ∷ []) new.visitor → new.taken ≡ old.taken + 1
      → HasHanded after (frames ++ frame_of source (length frames + 1) s ∷ []) new
  handed_next source s frames old new is fits time few visited counted =
      let number : old.taken + 1 ≡ length frames + 1 = omega (arith, is.count) in
      handed_more frames old new (frame_of source (length frames + 1) s) is refl
      (in_range source (length frames + 1) s fits time (omega (arith, few))) counted
      (subst (λ (n : ℕ). after (frames ++ frame_of source n s ∷ []) new.visitor) number visited)

  -- the room for bytes is the room for fewer
  pub less_room : (bytes fewer : ℕ) (stage : Numbering V) → HasRoomFor after bytes stage → fewer ≤ bytes
      → HasRoomFor after fewer stage
  less_room bytes fewer stage (frames, is, few) le = (frames, is, omega (arith, few, le))

  -- room for frames behind those that took some of it
  pub room_left : (source : Source) (frames : List Frame) (spelled : List Spelled) (bytes left : ℕ)
      (stage : Numbering V) → HasHanded after (frames ++ frames_from source (length frames + 1) spelled) stage
      → 9 * length spelled + left ≤ bytes → 9 * length frames + bytes < 2 ^ 31 → HasRoomFor after left stage
  room_left source frames spelled bytes left stage is fits few = (
    frames ++ frames_from source (length frames + 1) spelled,
    is,
    omega (
      arith,
      fits,
      few,
      length-append frames (frames_from source (length frames + 1) spelled),
      frames_from-length source (length frames + 1) spelled,
    ),
  )

  module _ (source : Source) where
    -- nothing was handed on
    pub none_handed : (stage : Numbering V) → AreHandedOn after source stage [] stage
    none_handed stage = λ frames is. rw (append-nil frames) is

    -- one frame was
    -- some were, and then others
    pub both_handed : (old mid new : Numbering V) (xs ys : List Spelled) → AreHandedOn after source old xs mid
        → AreHandedOn after source mid ys new → AreHandedOn after source old (xs ++ ys) new
    both_handed old mid new xs ys first later = λ frames is.
        let n = length frames + 1 in
        let count : length (frames ++ frames_from source n xs) + 1 ≡ n + length xs = omega (
          arith,
          length-append frames (frames_from source n xs),
          frames_from-length source n xs,
        ) in
        let all : (frames ++ frames_from source n xs) ++ frames_from source (n + length xs) ys
        ≡ frames ++ frames_from source n (xs ++ ys) =
        append_assoc frames (frames_from source n xs) (frames_from source (n + length xs) ys)
        ∙ ap (λ l. frames ++ l) (sym (frames_from-append source n xs ys)) in
        subst (λ l. HasHanded after l new)
        (ap (λ m. (frames ++ frames_from source n xs) ++ frames_from source m ys) count ∙ all)
        (later (frames ++ frames_from source n xs) (first frames is))

    -- one feeding after the other
    pub cut_both : (old mid new : Numbering V) (bytes more : List ℕ) (between after_both : SideCutter)
        → (first : HasCut after source old bytes between mid)
        → HasCut after source mid (first.tail ++ more) after_both new
        → HasCut after source old (bytes ++ more) after_both new
    cut_both old mid new bytes more between after_both first later = record {
      spelled = first.spelled ++ later.spelled;
      tail = later.tail;
      spells = spells-append bytes first.tail more later.tail first.spelled later.spelled first.spells later.spells;
      begun = later.begun;
      handed = both_handed old mid new first.spelled later.spelled first.handed later.handed;
    }

    -- what is begun, with no frame
    pub cut_none : (stage : Numbering V) (tail : List ℕ) (cutter : SideCutter) → HoldsNoFrame tail
        → IsBegun tail cutter → HasCut after source stage tail cutter stage
    cut_none stage tail cutter none begun = record {
      spelled = [];
      tail = tail;
      spells = (refl, none);
      begun = begun;
      handed = none_handed stage;
    }

    -- frames at the front of bytes, and what is begun behind them
    pub cut_rest : (old new : Numbering V) (bytes left : List ℕ) (cutter : SideCutter)
        → HasGoneOn after source old bytes left new → HoldsNoFrame left → IsBegun left cutter
        → HasCut after source old bytes cutter new
    cut_rest old new bytes left cutter on none begun = record {
      spelled = on.spelled;
      tail = left;
      spells = subst (λ xs. Spells bytes xs left) (append-nil on.spelled) (on.front [] left (refl, none));
      begun = begun;
      handed = on.handed;
    }

    -- the same behind a tail of no bytes
    pub cut_behind_none : (old new : Numbering V) (tail bytes left : List ℕ) (cutter : SideCutter) → tail ≡ []
        → HasGoneOn after source old bytes left new → HoldsNoFrame left → IsBegun left cutter
        → HasCut after source old (tail ++ bytes) cutter new
    cut_behind_none old new tail bytes left cutter empty on none begun =
        subst (λ l. HasCut after source old l cutter new) (ap (λ l. l ++ bytes) (sym empty))
        (cut_rest old new bytes left cutter on none begun)

    -- one frame more of those at the front of bytes
    pub gone_more : (old mid new : Numbering V) (bytes rest left header payload : List ℕ) (s : Spelled)
        → HasGoneOn after source old bytes rest mid → rest ≡ header ++ payload ++ left → Makes header payload s
        → AreHandedOn after source mid (s ∷ []) new → HasGoneOn after source old bytes left new
    gone_more old mid new bytes rest left header payload s on split makes one = record {
      spelled = on.spelled ++ s ∷ [];
      front = λ later tail spells.
          rw (append_assoc on.spelled (s ∷ []) later)
          (on.front (s ∷ later) tail (header, payload, left, split, makes, spells));
      handed = both_handed old mid new on.spelled (s ∷ []) on.handed one;
    }

    -- one frame, and nothing behind it
    pub cut_one : (old new : Numbering V) (bytes header payload : List ℕ) (s : Spelled) (cutter : SideCutter)
        → bytes ≡ header ++ payload → Makes header payload s → IsBegun [] cutter
        → AreHandedOn after source old (s ∷ []) new → HasCut after source old bytes cutter new
    cut_one old new bytes header payload s cutter split makes begun one = record {
      spelled = s ∷ [];
      tail = [];
      spells = (header, payload, [], split ∙ sym (append-nil (header ++ payload)), makes, (refl, inl (omega arith)));
      begun = begun;
      handed = one;
    }

    -- what is left is no longer than the bytes were
    pub gone_within : (old : Numbering V) (bytes left : List ℕ) (new : Numbering V)
        → HasGoneOn after source old bytes left new → HoldsNoFrame left → length left ≤ length bytes
    gone_within old bytes left new on none =
        omega (arith, spells-length bytes left (on.spelled ++ []) (on.front [] left (refl, none)))

    -- and there is room for the rest of the bytes
    pub cut_room : (old new : Numbering V) (tail more : List ℕ) (n : ℕ) (cutter : SideCutter) → n ≤ length more
        → (cut : HasCut after source old (tail ++ take n more) cutter new)
        → HasRoomFor after (length tail + length more) old
        → HasRoomFor after (length cut.tail + length (drop n more)) new
    cut_room old new tail more n cutter within cut (frames, is, few) =
        room_left source frames cut.spelled (length tail + length more) (length cut.tail + length (drop n more)) new
        (cut.handed frames is) (omega (
          arith,
          spells-length (tail ++ take n more) cut.tail cut.spelled cut.spells,
          length-append tail (take n more),
          length-take-le n more within,
          length-drop n more,
          within,
        )) few
