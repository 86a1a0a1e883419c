-- What is known of groups of rows.
use Rattle.std.proofs.Common.{◌≢◌, ◌%◌, ◌/◌, slice_set}
use Rattle.std.proofs.Math.Nat.{div-mul-le_self, mod-lt}
use Rattle.std.proofs.lemmas.Nat.{div-add-mod', div-mul-add, le-div}
use Rattle.stream_credit.proofs.Words.{◌≡◌, ℕ, ◌<◌, ◌≤◌, ◌+◌, ◌-◌, ◌*◌, Bool, true, false, List, [], ◌∷◌, ◌++◌, Some}
use Rattle.stream_credit.proofs.Words.{refl}
use Rattle.stream_credit.proofs.Words.{sym}
use Rattle.stream_credit.proofs.Words.{ap, ◌∙◌, subst, arith, zero, suc, slice_get, length, cases_eq, inl, inr, Sides}
use Rattle.stream_credit.proofs.Words.{Stream}
use Rattle.quiet_pass.proofs.SaidLemmas.{never}
use Rattle.quiet_pass.specs.code.Shifts.{AreRowsQuiet, IsCovered, IsEntryQuietFor, IsGroupQuiet}
use Rattle.quiet_pass.specs.code.Shifts.{are_within, knows}
use Rattle.quiet_pass.specs.declared.opened_rows.Row.{Row}
use Rattle.quiet_pass.specs.declared.row_groups.Level.{Level}
use Rattle.quiet_pass.specs.declared.shift_ranges.QuietShifts.{QuietShifts}

-- ---- groups by division

no-rest : (q r at : ℕ) → q + r ≡ at → r ≡ 0 → q ≡ at
no-rest q r at e z = omega (arith, e, z)

from-start : (q at i : ℕ) → q ≡ at → at ≤ i → i ≡ q + (i - at)
from-start q at i e l = omega (arith, e, l)

pub same-group : (at i w : ℕ) → 0 < w → at % w ≡ 0 → at ≤ i → i < at + w → i / w ≡ at / w
same-group at i w some start above below =
    let whole = no-rest (at / w * w) (at % w) at (div-add-mod' at w) start in
    ap (λ n. n / w) (from-start (at / w * w) at i whole above)
    ∙ div-mul-add (at / w) w (i - at) (omega (arith, above, below))

within-width : (q r w i last rest : ℕ) → q + r ≡ i → r < w → q + rest ≡ last
    → (last - rest ≤ i) × (i < (last - rest) + w)
within-width q r w i last rest e l f = (omega (arith, e, f), omega (arith, e, l, f))

-- where a group of rows begins, by one of them
pub in-group : (i last w : ℕ) → 0 < w → i / w ≡ last / w
    → (last - last % w ≤ i) × (i < (last - last % w) + w)
in-group i last w some same =
    within-width (last / w * w) (i % w) w i last (last % w)
    (ap (λ q. q * w + i % w) (sym same) ∙ div-add-mod' i w) (mod-lt i some) (div-add-mod' last w)

at-most : (a b c : ℕ) → a ≤ b → b ≤ c → a ≤ c
at-most a b c p q = omega (arith, p, q)

pub div-rises : (a b w : ℕ) → 0 < w → a ≤ b → a / w ≤ b / w
div-rises a b w some le = le-div (a / w) b w some (at-most (a / w * w) a b (div-mul-le_self a w) le)

-- ---- lists

module _ {A : Type 0} where
  pub set-here : (xs : List A) (at : ℕ) (x : A) → at < length xs → slice_get (slice_set xs at x) at ≡ Some x
  set-here [] at x inside = absurd (omega (arith, inside))
  set-here (y ∷ xs) zero x inside = refl
  set-here (y ∷ xs) (suc at) x inside = set-here xs at x (omega (arith, inside))

  pub set-elsewhere : (xs : List A) (at other : ℕ) (x : A) → other ≢ at
      → slice_get (slice_set xs at x) other ≡ slice_get xs other
  set-elsewhere [] at other x differ = refl
  set-elsewhere (y ∷ xs) zero zero x differ = absurd (differ refl)
  set-elsewhere (y ∷ xs) zero (suc other) x differ = refl
  set-elsewhere (y ∷ xs) (suc at) zero x differ = refl
  set-elsewhere (y ∷ xs) (suc at) (suc other) x differ =
      set-elsewhere xs at other x (λ e. differ (ap suc e))

  pub push-here : (xs : List A) (x : A) → slice_get (xs ++ x ∷ []) (length xs) ≡ Some x
  push-here [] x = refl
  push-here (y ∷ xs) x = push-here xs x

  pub push-elsewhere : (xs : List A) (other : ℕ) (x : A) → other ≢ length xs
      → slice_get (xs ++ x ∷ []) other ≡ slice_get xs other
  push-elsewhere [] zero x differ = absurd (differ refl)
  push-elsewhere [] (suc other) x differ = refl
  push-elsewhere (y ∷ xs) zero x differ = refl
  push-elsewhere (y ∷ xs) (suc other) x differ = push-elsewhere xs other x (λ e. differ (ap suc e))

-- ---- shifts that are known

pub narrower : (frames_shown : Bool) (new old : QuietShifts) (entry : Stream)
    → ((shift : Sides ℕ) → are_within new shift ≡ true → are_within old shift ≡ true)
    → IsEntryQuietFor frames_shown old entry
    → IsEntryQuietFor frames_shown new entry
narrower frames_shown new old entry narrow h one other p q = h one other (narrow one p) (narrow other q)

pub quiet-from : (frames_shown : Bool) (level : Level) (rows : List Row) (at : ℕ) (shift next : Sides ℕ)
    → 0 < level.width
    → at % level.width ≡ 0 → knows level (at / level.width) shift ≡ true → knows level (at / level.width) next ≡ true
    → IsCovered frames_shown level rows → AreRowsQuiet frames_shown shift next at level.width rows
quiet-from frames_shown level rows at shift next some start p q covered i row above below there =
    let group = same-group at i level.width some start above below in
    covered some i row there shift next (subst (λ g. knows level g shift ≡ true) (sym group) p)
    (subst (λ g. knows level g next ≡ true) (sym group) q)

-- what was known of a group was forgotten
pub forgotten : (old new : Level) (at : ℕ) → new.width ≡ old.width
    → ((shift : Sides ℕ) → knows new (at / old.width) shift ≡ false)
    → ((group : ℕ) (shift : Sides ℕ) → group ≢ at / old.width → knows new group shift ≡ knows old group shift)
    → (frames_shown : Bool) (before after : List Row) → IsCovered frames_shown old before
    → ((other : ℕ) → other ≢ at → slice_get after other ≡ slice_get before other) → IsCovered frames_shown new after
forgotten old new at width none others frames_shown before after covered same some i row there one other p q =
    let some-old : 0 < old.width = rw (← width) some in
    elim (cases_eq (i / old.width) (at / old.width)) [
      | inl own ↦
          never (knows new (i / old.width) one) (rw width at p) (rw own (none one))
      | inr apart ↦
          covered some-old i row
          (sym (same i (λ e. apart (ap (λ n. n / old.width) e))) ∙ there) one other
          (sym (others (i / old.width) one apart) ∙ rw width at p)
          (sym (others (i / old.width) other apart) ∙ rw width at q)
    ]

-- something was learned of a group
pub learned : (old new : Level) (group : ℕ) (quiet : QuietShifts) → new.width ≡ old.width
    → ((shift : Sides ℕ) → knows new group shift ≡ are_within quiet shift)
    → ((other : ℕ) (shift : Sides ℕ) → other ≢ group → knows new other shift ≡ knows old other shift)
    → (frames_shown : Bool) (rows : List Row) → IsCovered frames_shown old rows
    → IsGroupQuiet frames_shown old.width group quiet rows → IsCovered frames_shown new rows
learned old new group quiet width here others frames_shown rows covered of some i row there one other p q =
    let some-old : 0 < old.width = rw (← width) some in
    elim (cases_eq (i / old.width) group) [
      | inl own ↦
          of i row there own one other (sym (here one) ∙ rw (← own) (rw width at p))
          (sym (here other) ∙ rw (← own) (rw width at q))
      | inr apart ↦
          covered some-old i row there one other (sym (others (i / old.width) one apart) ∙ rw width at p)
          (sym (others (i / old.width) other apart) ∙ rw width at q)
    ]
