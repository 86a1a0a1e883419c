-- A frame that is begun gets more bytes, and is taken out once it is whole.
use Rattle.std.proofs.Common.{◌≡◌, ℕ, zero, suc, ◌+◌, ◌-◌, ◌<◌, ◌≤◌, Bool, true, false, List, [], ◌∷◌, ◌++◌}
use Rattle.std.proofs.Common.{length}
use Rattle.std.proofs.Common.{take, drop, min, refl, ap, ap₂, sym, subst, ◌∙◌, arith, append_assoc, length-append}
use Rattle.std.proofs.Common.{length-drop}
use Rattle.std.proofs.Common.{inl, inr}
use Rattle.std.proofs.Math.Seq.{take-add}
use Rattle.std.proofs.lemmas.Bool.{cases_lt, le-ltb, lt-ltb}
use Rattle.std.proofs.lemmas.List.{append-nil, length-take, length-take-le, take-append-drop, take_all}
use Rattle.std.proofs.lemmas.List.{drop-take, take-take}
use Rattle.h2_frames.proofs.Fronts.{header_of-append}
use Rattle.h2_frames.proofs.Words.{Header, HoldsNoFrame, Makes, Spelled, body_of, header_of}
use Rattle.h2_frames.specs.code.Cutter.{HasAdded, HasGathered, HasGot, IsBegun, IsOne, needed_by, wanted}
use Rattle.audit_terms.specs.FrameType.{settings_type}
use Rattle.h2_frames.proofs.Words.{◌==◌}
use Rattle.std.specs.Prelude.{if◌then◌else◌}
use Rattle.h2_frames.specs.code.Steps.{is_unread, needed}
use Rattle.h2_frames.specs.declared.cutter.SideCutter.{SideCutter}

-- a front of a list that grows
take_grows : (k : ℕ) (xs ys : List ℕ) → take k (xs ++ ys) ≡ take k xs ++ take (k - length xs) ys
take_grows zero xs ys = ap (λ (m : ℕ). take m ys) (let e : 0 ≡ 0 - length xs = omega arith in e)
take_grows (suc k) [] ys = ap (λ (m : ℕ). take m ys) (let e : suc k ≡ suc k - 0 = omega arith in e)
take_grows (suc k) (x ∷ xs) ys =
    let less : k - length xs ≡ suc k - length (x ∷ xs) = omega arith in
    ap (λ (l : List ℕ). x ∷ l) (take_grows k xs ys ∙ ap (λ (m : ℕ). take k xs ++ take m ys) less)

take_twice : (k n : ℕ) (ys : List ℕ) → take k (take n ys) ≡ take (min k n) ys
take_twice k n ys =
    elim (cases_lt n k) [
      | inl more ↦
          let least : n ≡ min k n = omega (arith, more) in
          take_all k (take n ys) (omega (arith, length-take n ys, more)) ∙ ap (λ (m : ℕ). take m ys) least
      | inr fewer ↦
          let least : k ≡ min k n = omega (arith, fewer) in
          take-take k n ys fewer ∙ ap (λ (m : ℕ). take m ys) least
    ]

-- the bytes that are kept grow by those of the new ones that are kept
pub kept_grows : (k : ℕ) (tail more begun : List ℕ) (n kept : ℕ) → begun ≡ take k tail → kept ≡ min (k - length begun) n
    → begun ++ take kept more ≡ take k (tail ++ take n more)
kept_grows k tail more begun n kept is count =
    let size : length begun ≡ min k (length tail) = ap length is ∙ length-take k tail in
    let same : k - length begun ≡ k - length tail = omega arith in
    let wish : kept ≡ min (k - length tail) n = count ∙ ap (λ m. min m n) same in
    rw (is, wish) (sym (take_grows k tail (take n more)
    ∙ ap (λ l. take k tail ++ l) (take_twice (k - length tail) n more)))

-- the header is kept
pub header_kept : (tail begun : List ℕ) (k : ℕ) → 9 ≤ length tail → begun ≡ take (9 + k) tail
    → header_of begun ≡ header_of tail
header_kept tail begun k long is =
    ap header_of is
    ∙ sym (header_of-append (take (9 + k) tail) (drop (9 + k) tail) (omega (arith, length-take (9 + k) tail, long)))
    ∙ ap header_of (take-append-drop (9 + k) tail)

-- with no whole header they are all kept
short_kept : (tail begun : List ℕ) → length tail ≤ 9 → begun ≡ take (9 + needed_by (header_of tail)) tail → begun ≡ tail
short_kept tail begun short is = is ∙ take_all (9 + needed_by (header_of tail)) tail (omega arith)

-- a frame whose header did not come gets bytes of it
pub got_head : (tail more : List ℕ) (old new : SideCutter) (n : ℕ) → IsBegun tail old
    → length tail < 9 → HasAdded 9 9 more old new n → HasGot tail more n new
got_head tail more old new n is short added =
    let kept : ℕ = min (9 - length old.begun.items) n in
    let count : n ≡ min (9 - old.count) (length more) = added.count in
    let counted : new.count ≡ old.count + n = added.counted in
    let all : old.begun.items ≡ tail = short_kept tail old.begun.items (omega arith) is.kept in
    let same : kept ≡ n = omega (arith, ap length all, is.count, count) in
    let size : length (tail ++ take n more) ≡ length tail + n =
    omega (arith, length-append tail (take n more), length-take n more) in
    record {
      count = rw (lt-ltb (length tail) 9 short) (omega (arith, is.count));
      begun = record {
        count = omega (arith, size, counted, is.count);
        kept = added.kept ∙ ap₂ (λ (l : List ℕ) (m : ℕ). l ++ take m more) all same
            ∙ sym (take_all (9 + needed_by (header_of (tail ++ take n more))) (tail ++ take n more)
            (omega (arith, size, is.count)));
      };
    }

-- one whose header came gets bytes of its payload
pub got_payload : (tail more : List ℕ) (header : Header) (old new : SideCutter) (n : ℕ) → IsBegun tail old
    → 9 ≤ length tail → header ≡ header_of tail → HasAdded (9 + header.length) (9 + needed_by header) more old new n
    → HasGot tail more n new
got_payload tail more header old new n is long header_is added =
    let count : n ≡ min (9 + header.length - old.count) (length more) = added.count in
    let counted : new.count ≡ old.count + n = added.counted in
    let stays : header_of (tail ++ take n more) ≡ header_of tail = header_of-append tail (take n more) long in
    let size : length (tail ++ take n more) ≡ length tail + n =
    omega (arith, length-append tail (take n more), length-take n more) in
    let total : header.length ≡ (header_of tail).length = ap (λ (h : Header). h.length) header_is in
    record {
      count = rw (le-ltb (length tail) 9 long) (omega (arith, is.count));
      begun = record {
        count = omega (arith, size, counted, is.count);
        kept = subst (λ (h : Header). new.begun.items ≡ take (9 + needed_by h) (tail ++ take n more)) (sym stays)
            (added.kept ∙ kept_grows (9 + needed_by (header_of tail)) tail more old.begun.items n
            (min (9 + needed_by header - length old.begun.items) n) is.kept
            (ap (λ (h : Header). min (9 + needed_by h - length old.begun.items) n) header_is));
      };
    }

whole_holds : (bytes : List ℕ) → 9 ≤ length bytes → 9 + (header_of bytes).length ≤ length bytes → ¬ HoldsNoFrame bytes
whole_holds bytes nine all none = elim none [ inl a ↦ omega (arith, a, nine) | inr b ↦ omega (arith, b, all) ]

pub none_fits : (bytes : List ℕ) → HoldsNoFrame bytes → 9 ≤ length bytes → length bytes < 9 + (header_of bytes).length
none_fits bytes none nine = elim none [ inl a ↦ absurd (omega (arith, a, nine)) | inr b ↦ b ]

wanted-short : (tail : List ℕ) → length tail < 9 → wanted tail ≡ 9
wanted-short tail short = rw (lt-ltb (length tail) 9 short) refl

wanted-long : (tail : List ℕ) → 9 ≤ length tail → wanted tail ≡ 9 + (header_of tail).length
wanted-long tail long = rw (le-ltb (length tail) 9 long) refl

-- what it got of its header at first is no more than the frame
not_over : (tail more : List ℕ) (n : ℕ) → HoldsNoFrame tail → n ≡ min (wanted tail - length tail) (length more)
    → length (tail ++ take n more) ≡ length tail + n → IsOne (tail ++ take n more)
not_over tail more n none count size nine =
    elim (cases_lt (length tail) 9) [
      | inl short ↦ omega (arith, count, size, wanted-short tail short)
      | inr long ↦ omega (
        arith,
        count,
        size,
        wanted-long tail long,
        none_fits tail none long,
        ap (λ (h : Header). h.length) (header_of-append tail (take n more) long),
      )
    ]

-- got twice, it lacks nothing or all bytes are used
pub gathered : (tail more : List ℕ) (mid new : SideCutter) (head body : ℕ) → HoldsNoFrame tail
    → HasGot tail more head mid → HasGot (tail ++ take head more) (drop head more) body new
    → HasGathered tail more (head + body) new
gathered tail more mid new head body none got next =
    let within : head ≤ length more = omega (arith, got.count) in
    let left : length (drop head more) ≡ length more - head = length-drop head more in
    let first : List ℕ = tail ++ take head more in
    let first_size : length first ≡ length tail + head =
    omega (arith, length-append tail (take head more), length-take-le head more within) in
    let body_within : body ≤ length (drop head more) = omega (arith, next.count) in
    let all : tail ++ take (head + body) more ≡ first ++ take body (drop head more) =
    ap (λ l. tail ++ l) (take-add head body more)
    ∙ sym (append_assoc tail (take head more) (take body (drop head more))) in
    let size : length (first ++ take body (drop head more)) ≡ length first + body =
    omega (arith, length-append first (take body (drop head more)), length-take-le body (drop head more) body_within)
    in
    elim (cases_lt (length first) 9) [
      | inl short ↦
          let short_tail : length tail < 9 = omega (arith, first_size, short) in
          let everything : head ≡ length more =
          omega (arith, got.count, wanted-short tail short_tail, first_size, short) in
          record {
            within = omega (arith, within, body_within, left);
            begun = rw all next.begun;
            whole = λ less. absurd (omega (arith, less, everything));
            own = rw all (λ nine. absurd (omega (arith, nine, size, body_within, left, everything, short)));
          }
      | inr long ↦
          let same : (header_of (first ++ take body (drop head more))).length ≡ (header_of first).length =
          ap (λ (h : Header). h.length) (header_of-append first (take body (drop head more)) long) in
          let most : length first ≤ 9 + (header_of first).length =
          not_over tail more head none got.count first_size long in
          let count = next.count in
          let is_wanted = wanted-long first long in
          record {
            within = omega (arith, within, body_within, left);
            begun = rw all next.begun;
            whole = λ less. rw all (whole_holds (first ++ take body (drop head more)) (omega (arith, size, long))
                (omega (arith, less, count, is_wanted, left, size, same, most)));
            own = rw all (λ nine. omega (arith, count, is_wanted, left, size, same, most));
          }
    ]

-- got once, all bytes are used
pub gathered_at_once : (tail more : List ℕ) (new : SideCutter) (n : ℕ) → HoldsNoFrame tail → n ≡ length more
    → HasGot tail more n new → HasGathered tail more n new
gathered_at_once tail more new n none all got =
    let next : HasGot (tail ++ take n more) (drop n more) 0 new = record {
      count = omega (arith, length-drop n more, all);
      begun = subst (λ l. IsBegun l new) (sym (append-nil (tail ++ take n more))) got.begun;
    } in
    subst (λ k. HasGathered tail more k new) (omega (arith)) (gathered tail more new new n 0 none got next)

-- a body is read from no more than the payload
pub needed_within : (code flags size : ℕ) → needed code flags size ≤ size
needed_within code flags size = by (is_unread code flags) (code == settings_type)
  where
    by : (a b : Bool) → (if a then 0 else if b then size else min size 5) ≤ size
    by true b = omega arith
    by false true = omega arith
    by false false = omega arith

-- what is kept of a payload, and the rest
kept_payload : (tail begun : List ℕ) (k : ℕ) → begun ≡ take (9 + k) tail
    → drop 9 begun ++ drop k (drop 9 tail) ≡ drop 9 tail
kept_payload tail begun k is =
    ap (λ (l : List ℕ). l ++ drop k (drop 9 tail)) (ap (λ (l : List ℕ). drop 9 l) is ∙ drop-take 9 k tail)
    ∙ take-append-drop k (drop 9 tail)

-- so long is that
pub kept_length : (tail begun : List ℕ) (size k : ℕ) → 9 + size ≤ length tail → k ≤ size → begun ≡ take (9 + k) tail
    → length (drop 9 begun) ≡ k
kept_length tail begun size k whole within is =
    omega (arith, length-drop 9 begun, ap length is, length-take (9 + k) tail, whole, within)

-- the frame that the whole of them makes
pub whole_frame : (tail begun : List ℕ) (s : Spelled) → 9 ≤ length tail → s.header ≡ header_of tail
    → length tail ≡ 9 + s.header.length → begun ≡ take (9 + needed_by s.header) tail
    → ((later : List ℕ) → length (drop 9 begun ++ later) ≡ s.header.length
    → s.body ≡ body_of s.header.code s.header.flags (drop 9 begun ++ later))
    → Makes (take 9 tail) (drop 9 tail) s
whole_frame tail begun s long is size kept body =
    let nine : length (take 9 tail) ≡ 9 = length-take-le 9 tail long in
    let whole : length (drop 9 tail) ≡ s.header.length = omega (arith, size, length-drop 9 tail) in
    let rest = kept_payload tail begun (needed_by s.header) kept in
    record {
      nine = nine;
      whole = whole;
      header_is = is ∙ ap header_of (sym (take-append-drop 9 tail))
          ∙ header_of-append (take 9 tail) (drop 9 tail) (omega (arith, nine));
      body_is = body (drop (needed_by s.header) (drop 9 tail)) (ap length rest ∙ whole)
          ∙ ap (body_of s.header.code s.header.flags) rest;
    }

pub same_needed : (tail : List ℕ) (header : Header) → header ≡ header_of tail
    → take (9 + needed_by (header_of tail)) tail ≡ take (9 + needed_by header) tail
same_needed tail header is = ap (λ (h : Header). take (9 + needed_by h) tail) (sym is)
