-- Bytes that are written one after the other.
use Rattle.std.proofs.Common.{◌≡◌, ◌∙◌, ℕ, zero, suc, ◌+◌, ◌<◌, ◌≤◌, List, [], ◌∷◌, ◌++◌, Option}
use Rattle.std.proofs.Common.{Result, Ok, Err, OnErr, OnOk, Vec, length, take, drop, get_or, refl, ap, sym, subst}
use Rattle.std.proofs.Common.{arith, append-nil, length-append}
use Rattle.std.proofs.KnownBytes.{Appends-nil, Appends-trans}
use Rattle.std.proofs.lemmas.{Grind.flat_map-append, List.take-append-drop, List.take_more}
use Rattle.std.proofs.lemmas.List.{append_assoc, length-take-le, take-append-le, take_all}
use Rattle.std.specs.{Global.Global, List.flat_map}
use Rattle.std.specs.Io.KnownBytes.{Appends}
use Rattle.input_output.specs.Calls.{MovesBytes, bytes_moved, moved}
use Rattle.input_output.specs.code.Writes.{HasFailed}
use Rattle.input_output.specs.declared.report_writer.ReportWriter.{ReportWriter}
use Rattle.input_output.proofs.CallLemmas.{each-append, moved-append}
use Rattle.report_pages.specs.code.Written.{HasWritten}

-- a list, and the front of one behind it
front-and-more : (xs ys : List ℕ) (n m : ℕ) → n ≡ length xs → xs ++ take m ys ≡ take (n + m) (xs ++ ys)
front-and-more [] ys n m size = let same : m ≡ n + m = omega (arith, size) in ap (λ k. take k ys) same
front-and-more (x ∷ xs) ys zero m size = absurd (omega (arith, size))
front-and-more (x ∷ xs) ys (suc n) m size =
    let same : suc (n + m) ≡ suc n + m = omega arith in
    ap (λ l. x ∷ l) (front-and-more xs ys n m (omega (arith, size)))
    ∙ ap (λ k. take k (x ∷ (xs ++ ys))) same

OnOk-map : {T E : Type 0} {P Q : Type 0} (r : Result T E) → (P → Q) → OnOk r P → OnOk r Q
OnOk-map (Ok _) f p = f p
OnOk-map (Err _) f p = tt

OnErr-map : {T E : Type 0} {P Q : Type 0} (r : Result T E) → (P → Q) → OnErr r P → OnErr r Q
OnErr-map (Ok _) f p = tt
OnErr-map (Err _) f p = f p

-- a front of bytes that is not empty was moved
moves : (left : List ℕ) (n : ℕ) → 0 < n → n ≤ length left → MovesBytes (moved (take n left))
moves [] n some within = absurd (omega (arith, some, within))
moves (x ∷ xs) zero some within = absurd (omega (arith, some))
moves (x ∷ xs) (suc n) some within = tt

module _ {W E : Type 0} (holds : W → Option (List ℕ)) where
  -- nothing
  pub written-none : (writer : ReportWriter W) → HasWritten {E = E} holds writer writer [] (Ok tt)
  written-none writer = record {
    n = 0;
    within = omega arith;
    taken = Appends-nil (holds writer.writer);
    calls = [];
    each = tt;
    moved = refl;
    ok = (refl, sym (append-nil writer.calls.list));
    err = tt;
  }

  -- one write took some of these bytes
  pub written-some : (before after : ReportWriter W) (left : List ℕ) (n : ℕ) → 0 < n → n ≤ length left
      → Appends (holds before.writer) (holds after.writer) (take n left)
      → after.calls.list ≡ before.calls.list ++ moved (take n left) ∷ []
      → HasWritten {E = E} holds before after (take n left) (Ok tt)
  written-some before after left n some within taken called =
      let size : length (take n left) ≡ n = length-take-le n left within in
      let all : take (length (take n left)) (take n left) ≡ take n left = take_all (length (take n left)) (take n left)
      (omega arith) in record {
        n = length (take n left);
        within = omega arith;
        taken = subst (Appends (holds before.writer) (holds after.writer)) (sym all) taken;
        calls = moved (take n left) ∷ [];
        each = (moves left n some within, tt);
        moved = append-nil (take n left) ∙ sym all;
        ok = (refl, called);
        err = tt;
      }

  -- or failed
  pub written-failed : (before after : ReportWriter W) (left : List ℕ) (e : E)
      → Appends (holds before.writer) (holds after.writer) [] → HasFailed before after
      → HasWritten {E = E} holds before after left (Err e)
  written-failed before after left e kept failure = record {
    n = 0;
    within = omega arith;
    taken = kept;
    calls = [];
    each = tt;
    moved = refl;
    ok = tt;
    err = failure;
  }

  -- some bytes, and then others
  pub written-more : (first second third : ReportWriter W) (xs ys : List ℕ) (one other : Result (Unit {0}) E)
      → HasWritten holds first second xs one → one ≡ Ok tt → HasWritten holds second third ys other
      → HasWritten holds first third (xs ++ ys) other
  written-more first second third xs ys one other before is after =
      let ok = rw is at before.ok in
      let n = before.n + after.n in
      let within = after.within in
      let size = length-append xs ys in
      let all : xs ++ take after.n ys ≡ take n (xs ++ ys) = front-and-more xs ys before.n after.n ok.0 in
      let whole : take before.n xs ≡ xs = take_all before.n xs (omega (arith, ok.0)) in
      record {
        n = n;
        within = omega (arith, within, ok.0, size);
        taken = subst (λ l. Appends (holds first.writer) (holds third.writer) l) all
            (Appends-trans (holds first.writer) (holds second.writer) (holds third.writer) xs (take after.n ys)
            (subst (λ l. Appends (holds first.writer) (holds second.writer) l) whole before.taken) after.taken);
        calls = before.calls ++ after.calls;
        each = each-append before.calls after.calls before.each after.each;
        moved = moved-append before.calls after.calls
            ∙ ap (λ l. l ++ bytes_moved after.calls) (before.moved ∙ whole)
            ∙ ap (λ l. xs ++ l) after.moved ∙ all;
        ok = OnOk-map other (λ rest. (
          omega (arith, rest.0, ok.0, size),
          rest.1 ∙ ap (λ l. l ++ after.calls) ok.1 ∙ append_assoc first.calls.list before.calls after.calls,
        )) after.ok;
        err = OnErr-map other (λ (last, failure, rest). (
          last,
          failure,
          rest ∙ ap (λ l. l ++ (after.calls ++ last ∷ [])) ok.1
              ∙ append_assoc first.calls.list before.calls (after.calls ++ last ∷ [])
              ∙ ap (λ l. first.calls.list ++ l) (sym (append_assoc before.calls after.calls (last ∷ []))),
        )) after.err;
      }

  -- a write of the first bytes failed
  pub written-front : (first second : ReportWriter W) (xs ys : List ℕ) (one : Result (Unit {0}) E) (e : E)
      → HasWritten holds first second xs one → one ≡ Err e → HasWritten {E = E} holds first second (xs ++ ys) (Err e)
  written-front first second xs ys one e before is =
      let within = before.within in
      let front : take before.n xs ≡ take before.n (xs ++ ys) = sym (take-append-le before.n xs ys within) in
      record {
        n = before.n;
        within = omega (arith, within, length-append xs ys);
        taken = subst (λ l. Appends (holds first.writer) (holds second.writer) l) front before.taken;
        calls = before.calls;
        each = before.each;
        moved = before.moved ∙ front;
        ok = tt;
        err = rw is at before.err;
      }

-- one page more
pub pages-more : (pages : List (Vec ℕ Global)) (i : ℕ) (page : Vec ℕ Global) (bytes : List ℕ) → i < length pages
    → page ≡ get_or pages i page → bytes ≡ page.items
    → flat_map (λ (page : Vec ℕ Global). page.items) (take i pages) ++ bytes
    ≡ flat_map (λ (page : Vec ℕ Global). page.items) (take (i + 1) pages)
pages-more pages i page bytes low is same =
    let items = λ (page : Vec ℕ Global). page.items in
    sym (ap (flat_map items) (take_more pages i page low)
    ∙ flat_map-append items (take i pages) (get_or pages i page ∷ [])
    ∙ ap (λ l. flat_map items (take i pages) ++ l) (append-nil (items (get_or pages i page))
    ∙ ap items (sym is) ∙ sym same))

-- the pages behind one
pub pages-rest : (pages : List (Vec ℕ Global)) (i : ℕ)
    → flat_map (λ (page : Vec ℕ Global). page.items) (take i pages)
    ++ flat_map (λ (page : Vec ℕ Global). page.items) (drop i pages)
    ≡ flat_map (λ (page : Vec ℕ Global). page.items) pages
pages-rest pages i =
    let items = λ (page : Vec ℕ Global). page.items in
    sym (flat_map-append items (take i pages) (drop i pages)) ∙ ap (flat_map items) (take-append-drop i pages)
