-- The changes of a connection: what they leave in force, and which of them come before a number.
use Rattle.stream_credit.proofs.Words.{◌≡◌, zero, List, ◌++◌, take, drop, true, false, Some, subst, arith, Sides, Frame}
use Rattle.stream_credit.proofs.Words.{ℕ, suc, ◌+◌, ◌-◌, ◌^◌, ◌<◌, ◌≤◌, ◌∷◌, None, refl, sym, ap, ◌∙◌, inl, inr}
use Rattle.stream_credit.proofs.Words.{nat_lt, length, Option, ltb-true, Change, is_ack, AreFrom, IsBrought, met_after}
use Rattle.stream_credit.proofs.Words.{[], slice_get, ltb-false, take_more, drop_more, same_Some, ArePassed, frame_with}
use Rattle.stream_credit.proofs.Words.{slice_index_or, AllByRecursion, AreOrderlyFrom, IsAcknowledged, AcknowledgesAt}
use Rattle.stream_credit.proofs.Words.{IsPartitionPoint, IsPartitionedBy-ltb, All-from_recursion, get_or_from_slice_get}
use Rattle.stream_credit.proofs.Words.{IsPartitionedBy, slice_get_within, slice_get_cases, initial_in_force, AreOrderly}
use Rattle.stream_credit.proofs.Words.{get_or-drop, length-drop, initial_after, after_changes, after_each, initial_at}
use Rattle.audit_terms.proofs.OrderlyFrames.{changes_rise}

-- ---- the change at an index

pub at-index : (changes : List Change) (k : ℕ) (change : Change) → slice_get changes k ≡ Some change
    → slice_index_or changes k change ≡ change
at-index changes k change is = get_or_from_slice_get changes k change change is

pub drop-next : (met : ℕ) (changes : List Change) (change : Change) → slice_get changes met ≡ Some change
    → drop met changes ≡ change ∷ drop (met + 1) changes
drop-next met changes change is =
    drop_more changes met change (slice_get_within changes met change is)
    ∙ ap (λ (c : Change). c ∷ drop (met + 1) changes) (at-index changes met change is)

-- ---- what is in force

after-append : (now : Sides ℕ) (a b : List Change) → after_changes now (a ++ b) ≡ after_changes (after_changes now a) b
after-append now [] b = refl
after-append now (change ∷ a) b = after-append (initial_after (Some change) now) a b

pub initial-next : (met : ℕ) (changes : List Change) (change : Change) → slice_get changes met ≡ Some change
    → initial_at (met + 1) changes ≡ initial_after (Some change) (initial_at met changes)
initial-next met changes change is =
    rw (take_more changes met change (slice_get_within changes met change is), at-index changes met change is)
    (after-append initial_in_force.initial (take met changes) (change ∷ []))

pub length-each : (now : Sides ℕ) (changes : List Change) → length (after_each now changes) ≡ length changes
length-each now [] = refl
length-each now (change ∷ changes) = ap suc (length-each (initial_after (Some change) now) changes)

-- what is in force after some changes stands with the last of them
at-each : (now : Sides ℕ) (changes : List Change) (k : ℕ) → k < length changes
    → slice_get (after_each now changes) k ≡ Some (after_changes now (take (suc k) changes))
at-each now [] k h = absurd (omega (arith, h))
at-each now (change ∷ changes) zero h = refl
at-each now (change ∷ changes) (suc k) h = at-each (initial_after (Some change) now) changes k (omega (arith, h))

pub initial-is : (met : ℕ) (changes : List Change) (windows : List (Sides ℕ)) (now d : Sides ℕ) → (met ≡ 0 → ⊥)
    → met ≤ length changes → windows ≡ after_each initial_in_force.initial changes
    → now ≡ slice_index_or windows (met - 1) d → now ≡ initial_at met changes
initial-is met changes windows now d some h w e =
    grind (arith, at-each initial_in_force.initial changes (met - 1) (omega (arith, some, h)), get_or_from_slice_get)

-- ---- the order of changes

pub orderly-parted : (number met : ℕ) (changes : List Change) → AreOrderly changes
    → IsPartitionedBy (λ (change : Change). nat_lt change.number number) (drop met changes)
orderly-parted number met changes h =
    IsPartitionedBy-ltb (λ (change : Change). change.number) (drop met changes) number
    (λ i j d order within. rw (get_or-drop met changes i d, get_or-drop met changes j d)
    (changes_rise 0 changes h (met + i) (met + j) d (omega arith) (omega (arith, within, length-drop met changes))))

few : (low : ℕ) (changes : List Change) → low ≤ 2 ^ 28 - 1 → AreOrderlyFrom low changes
    → low + length changes ≤ 2 ^ 28 - 1
few low [] b h = omega (arith, b)
few low (change ∷ changes) b h = grind (arith, few (change.number + 1) changes (omega (arith, h.1)) h.2, h.1, h.2, h.0)

pub few-changes : (changes : List Change) → AreOrderly changes → length changes < 2 ^ 28
few-changes changes h = omega (arith, few 0 changes (omega arith) h)

pub none-left : (low met : ℕ) (changes : List Change) → AreOrderlyFrom low changes
    → AreFrom (2 ^ 32 - 1) (drop met changes) → drop met changes ≡ []
none-left low zero [] h f = refl
none-left low zero (change ∷ changes) h f = absurd (omega (arith, h.1, f))
none-left low (suc met) [] h f = refl
none-left low (suc met) (change ∷ changes) h f = none-left (change.number + 1) met changes h.2 f

-- ---- the changes before a number

from-index : (number met : ℕ) (changes : List Change)
    → ((change : Change) → slice_get changes met ≡ Some change → number ≤ change.number)
    → AreFrom number (drop met changes)
from-index number zero [] h = tt
from-index number zero (change ∷ changes) h = h change refl
from-index number (suc met) [] h = tt
from-index number (suc met) (change ∷ changes) h = from-index number met changes h

pub passed-is : (number met count : ℕ) (changes : List Change) → met ≤ length changes
    → count ≤ length (drop met changes)
    → IsPartitionPoint (λ (change : Change). nat_lt change.number number ≡ true)
    (λ (change : Change). nat_lt change.number number ≡ false) (drop met changes) count
    → ArePassed number changes met (met + count)
passed-is number met count changes within bound point =
    let long = length-drop met changes in
    record {
      order = omega arith;
      within = omega (arith, within, bound, long);
      before = λ k change least below is.
          let whole : met + (k - met) ≡ k = omega (arith, least) in
          ltb-true _ _ (rw (get_or-drop met changes, whole, at-index changes k change is)
          at (point.0 (k - met) change (omega arith) (omega (arith, least, below))));
      from = from-index number (met + count) changes (λ change is.
          let there = slice_get_within changes (met + count) change is in
          ltb-false _ _ (rw (get_or-drop met changes, at-index changes (met + count) change is)
          at (point.1 count change (omega arith) (omega (arith, there, long)))));
    }

-- what each of them keeps, all of them keep
pub passed-each : (P : ℕ → Type 0) {number met next : ℕ} {changes : List Change} → ArePassed number changes met next
    → ((k : ℕ) (change : Change) → slice_get changes k ≡ Some change → change.number < number → P k → P (k + 1))
    → P met → P next
passed-each P {number} {met} {next} {changes} passed step first =
    let whole : met + (next - met) ≡ next = omega (arith, passed.order) in
    rw whole at (each (next - met) (omega (arith, passed.order)))
  where
    each : (k : ℕ) → met + k ≤ next → P (met + k)
    each zero most = let none : met + zero ≡ met = omega arith in rw none first
    each (suc k) most = elim (slice_get_cases changes (met + k)).1 [
      | inl found ↦
          let more : met + suc k ≡ met + k + 1 = omega arith in
          rw more (step (met + k) found.0 found.2
          (passed.before (met + k) found.0 (omega arith) (omega (arith, most)) found.2) (each k (omega (arith, most))))
      | inr past ↦ absurd (omega (arith, past.0, most, passed.within))
    ]

-- ---- the change that a frame brings

pub initial-brought : (number met : ℕ) (changes : List Change) (change : Option Change)
    → IsBrought number met changes change
    → initial_at (met_after met change) changes ≡ initial_after change (initial_at met changes)
initial-brought number met changes None h = refl
initial-brought number met changes (Some change) h = initial-next met changes change h.0

pub within-brought : (number met : ℕ) (changes : List Change) (change : Option Change)
    → IsBrought number met changes change → met ≤ length changes → met_after met change ≤ length changes
within-brought number met changes None h within = within
within-brought number met changes (Some change) h within = omega (arith, slice_get_within changes met change h.0)

-- such a frame is an acknowledgement
pub brought-acknowledged : (frame : Frame) (met : ℕ) (changes : List Change) (change : Option Change)
    → IsBrought frame.number met changes change → AllByRecursion (AcknowledgesAt frame) changes
    → IsAcknowledged (frame_with frame change)
brought-acknowledged frame met changes None h all = λ c k f e. cc
brought-acknowledged frame met changes (Some change) h all = λ c k f e.
    let within = slice_get_within changes met change h.0 in
    let own = All-from_recursion (AcknowledgesAt frame) changes all met change within in
    let is = (rw (at-index changes met change h.0) at own) (sym h.1) in
    subst (λ (one : Frame). is_ack one.body ≡ true) (same_Some frame f e) is
