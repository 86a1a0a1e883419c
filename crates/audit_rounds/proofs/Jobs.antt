-- The jobs of the rounds over blocks.
use Rattle.audit_rounds.proofs.Words.{◌≡◌, ℕ, suc, ◌+◌, ◌≤◌, Bool, true, false, if◌then◌else◌, List, [], ◌∷◌, ◌++◌, map}
use Rattle.audit_rounds.proofs.Words.{length, get_or, Contains, Option, Some, None, slice_get, ◌⊎◌, inl, inr, ⊎_elim}
use Rattle.audit_rounds.proofs.Words.{refl, sym, ap, ◌∙◌, arith, length-map, get_or-map, slice_get_within}
use Rattle.audit_rounds.proofs.Words.{get_or_from_slice_get, list_any, ConnectionState, Finding, Frame, Change}
use Rattle.audit_rounds.proofs.Words.{connection_said, connection_after, block_run, in_order, shown, comes_after}
use Rattle.audit_rounds.proofs.Words.{IsOrderlyFrom, Asked, is_past, IsRun, comes_after_is, ordered-in_order}
use Rattle.audit_rounds.proofs.Words.{in_order-append, in_order-ordered, AreFrom, at-in_order, from-at, from-from}
use Rattle.audit_rounds.proofs.Words.{from-append, precedes-at, Block, item_with, items_with, items_in, IsBlock, Job}
use Rattle.audit_rounds.proofs.Words.{IsCut, whole_is_cut_lem, in_order-shown, Heeds, RunLooks}
use Rattle.audit_terms.specs.code.runs.Look.{last_answer, upto_of, up_to}
use Rattle.audit_terms.proofs.OrderedLists.{IsInOrder}
use Rattle.audit_terms.proofs.SaidPlaces.{AreAt, at-connection}
use Rattle.stop_desk.proofs.RoundCuts.{front_is_cut_lem}

-- the job of a number
pub job-is : {X : Type 0} (f : X → Job) (xs : List X) (k : ℕ) (one : Job) (d : X) → slice_get (map f xs) k ≡ Some one
    → one ≡ f (get_or xs k d)
job-is f xs k one d e =
    let number : length (map f xs) ≡ length xs = length-map xs f in
    let within = slice_get_within (map f xs) k one e in
    sym (get_or_from_slice_get (map f xs) k one one e) ∙ get_or-map f xs k d one (omega arith)

-- ---- what a run shows stands in order

-- findings from a number on, in order
abbrev pub StandFrom : (low : ℕ) → List Finding → Type 0
StandFrom low xs = AreFrom low xs × IsInOrder comes_after comes_after_is xs

-- what is said at one number, and later
pub step-ordered : (low number : ℕ) (said later : List Finding) → low ≤ number → AreAt number said
    → StandFrom (number + 1) later → StandFrom low (in_order said ++ later)
step-ordered low number said later l at (from, ordered) =
    let here = (at-in_order number said at).within in (
      from-append low (in_order said) later (from-at low number _ l here)
          (from-from low (number + 1) _ (omega arith) from),
      in_order-append comes_after comes_after_is (in_order said) later
          (in_order-ordered comes_after comes_after_is said) ordered
          (precedes-at number (in_order said) later here from),
    )

-- what is shown of it stands in order too
pub ordered-shown : (c : Bool) (run : List Finding) → IsInOrder comes_after comes_after_is run
    → in_order (shown c run) ≡ shown c run
ordered-shown c run h = in_order-shown c run ∙ ap (shown c) (ordered-in_order comes_after comes_after_is run h)

-- the findings of a block stand at their frames
pub run-ordered : (now : ConnectionState) (low : ℕ) (opened : List ℕ) (changes : List Change) (frames : List Frame)
    → IsOrderlyFrom low frames → StandFrom low (block_run now (items_with opened changes frames))
run-ordered now low opened changes [] h = (tt, tt)
run-ordered now low opened changes (frame ∷ frames) h =
    let item = item_with opened changes frame in
    step-ordered low frame.number (connection_said now item) _ h.0 (at-connection now item h.1)
    (run-ordered (connection_after now item) (frame.number + 1) opened changes frames h.2)

-- what is up to a place is a cut
pub upto-cut : (whole kept : List Finding) (upto : Option ℕ) → in_order whole ≡ whole → kept ≡ up_to upto whole
    → IsCut whole upto kept
upto-cut whole kept None o e = rw e (whole_is_cut_lem whole None o)
upto-cut whole kept (Some place) o e = rw e (front_is_cut_lem whole place o)

-- what was found of a block up to a place is a cut of what it shows
pub block-cut-is : (c : Bool) (now : ConnectionState) (block : Block) (upto : Option ℕ) (kept : List Finding)
    → IsBlock block → kept ≡ up_to upto (shown c (block_run now (items_in block)))
    → IsCut (shown c (block_run now (items_in block))) upto kept
block-cut-is c now block upto kept h = upto-cut _ kept upto
    (ordered-shown c _ (run-ordered now 0 block.opened.now block.changes.now block.frames.now h.frames).1)

-- ---- what was answered

in-asked : (first : Option ℕ) (asked : List Asked) (place : ℕ) → last_answer first asked ≡ Some place
    → (first ≡ Some place) ⊎ ((one : Asked) × Contains asked one × (one.answer ≡ Some place))
in-asked first [] place e = inl e
in-asked first (a ∷ asked) place e = ⊎_elim
    (λ is. inr (a, (0, omega arith, refl), is))
    (λ h. inr (h.0, (suc h.1.0, omega (arith, h.1.1), h.1.2), h.2))
    (in-asked a.answer asked place e)

last-upto : (numbers : List ℕ) (last : Option ℕ) (place : ℕ) → upto_of numbers last ≡ Some place → last ≡ Some place
last-upto numbers last place = by_test (list_any (is_past last) numbers) where
  by_test : (b : Bool) → (if b then last else None) ≡ Some place → last ≡ Some place
  by_test true e = e
  by_test false e = cc

-- a run goes up to a place that was answered
pub run-heeds : {L : Type 0} (answers : L → List Finding → Option ℕ → L → Type 0) (before after : L) (numbers : List ℕ)
    (whole kept : List Finding) (upto last : Option ℕ) (looks : ℕ)
    → IsRun answers before after numbers whole kept upto last looks
    → Heeds answers (RunLooks numbers whole) before after upto
run-heeds answers before after numbers whole kept upto last looks run = record {
  asked = run.asked;
  looked = run.looked;
  in_time = (run.in_time, run.goes ∙ sym (ap (upto_of numbers) run.last));
  answered = λ place e. ⊎_elim
      (λ none. cc)
      (λ h. h)
      (in-asked None run.asked place (run.last ∙ last-upto numbers last place (sym run.goes ∙ e)));
}
