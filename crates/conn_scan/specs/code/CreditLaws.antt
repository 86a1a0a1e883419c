-- The summary of changes obeys the laws.
use Rattle.std.proofs.Common.{◌≡◌, ℤ, pos, ◌*◌, ◌^◌, ◌+ℤ◌, ◌≤ℤ◌, int_lt, ◌≤◌, List, [], ◌∷◌, ◌++◌, length, refl}
use Rattle.std.proofs.Common.{sym, subst, ◌∙◌, arith}
use Rattle.std.proofs.Common.{length-append}
use Rattle.std.proofs.Math.IntN.{+ℤ_assoc, +ℤ_idr, +ℤ_idl}
use Rattle.std.specs.Prelude.{false, if◌then◌else◌}
use Rattle.std.specs.Int.{int_max, int_min}
use Rattle.std.proofs.lemmas.Int.{ints, clamps}
use Rattle.audit_terms.specs.code.Room.{HasRoom}
use Rattle.conn_scan.specs.code.Summary.{SummaryLaws, summary_of}
use Rattle.conn_scan.specs.code.List.{after_all}
use Rattle.conn_scan.specs.code.Shown.{Shows, lawful, summary-shown}
use Rattle.conn_scan.specs.declared.credits.Credit.{Credit}
use Rattle.conn_scan.specs.code.Credit.{total, high, low, credit_of, no_change, one_change, credit_join, credit_met}
use Rattle.conn_scan.specs.code.Credit.{credit_advance, AreSmall, ChangesFit}
use Rattle.conn_scan.specs.code.Each.{all-front, all-back}
use Rattle.conn_scan.specs.code.FitLaws.{room-wider}

total-append : (a b : List ℤ) → total (a ++ b) ≡ total a +ℤ total b
total-append [] b = sym (+ℤ_idl (total b))
total-append (x ∷ a) b = let e = total-append a b in omega (arith, ints)

pub high-signed : (a : List ℤ) → pos 0 ≤ℤ high a
high-signed [] = omega (arith, ints)
high-signed (x ∷ a) = omega (arith, ints, clamps)

pub low-signed : (a : List ℤ) → low a ≤ℤ pos 0
low-signed [] = omega (arith, ints)
low-signed (x ∷ a) = omega (arith, ints, clamps)

high-append : (a b : List ℤ) → high (a ++ b) ≡ int_max (high a) (total a +ℤ high b)
high-append [] b = let h = high-signed b in omega (arith, ints, clamps)
high-append (x ∷ a) b = let e = high-append a b in omega (arith, ints, clamps)

low-append : (a b : List ℤ) → low (a ++ b) ≡ int_min (low a) (total a +ℤ low b)
low-append [] b = let h = low-signed b in omega (arith, ints, clamps)
low-append (x ∷ a) b = let e = low-append a b in omega (arith, ints, clamps)

pub credit_of-append : (a b : List ℤ) → credit_of (a ++ b) ≡ credit_join (credit_of a) (credit_of b)
credit_of-append a b = λ i. record { sum = total-append a b i; high = high-append a b i; low = low-append a b i }

total-met : (a : List ℤ) (x : ℤ) → total (a ++ x ∷ []) ≡ total a +ℤ x
total-met a x = let e = total-append a (x ∷ []) in omega (arith, ints)

high-met : (a : List ℤ) (x : ℤ) → high (a ++ x ∷ []) ≡ int_max (high a) (total a +ℤ x)
high-met [] x = omega (arith, ints, clamps)
high-met (y ∷ a) x = let e = high-met a x in omega (arith, ints, clamps)

low-met : (a : List ℤ) (x : ℤ) → low (a ++ x ∷ []) ≡ int_min (low a) (total a +ℤ x)
low-met [] x = omega (arith, ints, clamps)
low-met (y ∷ a) x = let e = low-met a x in omega (arith, ints, clamps)

-- the whole sum is one of those that are compared
within : (a : List ℤ) → (low a ≤ℤ total a) × (total a ≤ℤ high a)
within [] = (omega (arith, ints), omega (arith, ints))
within (x ∷ a) = let w = within a in (omega (arith, ints, clamps, w.0), omega (arith, ints, clamps, w.1))

pub not_above : (a b : ℤ) → b ≤ℤ a → int_lt a b ≡ false
not_above a b h = grind (arith, ints)

risen : (h t x : ℤ) → t ≤ℤ h → int_max h (t +ℤ x) ≡ (if int_lt (pos 0) x then int_max h (t +ℤ x) else h)
risen h t x le = grind (arith, ints, clamps)

fallen : (l t x : ℤ) → l ≤ℤ t → int_min l (t +ℤ x) ≡ (if int_lt x (pos 0) then int_min l (t +ℤ x) else l)
fallen l t x le = grind (arith, ints, clamps)

-- the summary of one change more
pub credit_of-met : (a : List ℤ) (x : ℤ) → credit_of (a ++ x ∷ []) ≡ credit_met (credit_of a) x
credit_of-met a x =
    let high = high-met a x ∙ risen (high a) (total a) x (within a).1 in
    let low = low-met a x ∙ fallen (low a) (total a) x (within a).0 in
    λ i. record { sum = total-met a x i; high = high i; low = low i }

high-one : (x : ℤ) → int_max (pos 0) (x +ℤ pos 0) ≡ int_max x (pos 0)
high-one x = omega (arith, ints, clamps)

low-one : (x : ℤ) → int_min (pos 0) (x +ℤ pos 0) ≡ int_min x (pos 0)
low-one x = omega (arith, ints, clamps)

one_of : (x : ℤ) → credit_of (x ∷ []) ≡ one_change x
one_of x = λ i. record { sum = +ℤ_idr x i; high = high-one x i; low = low-one x i }

advance-total : (s : ℤ) (a : List ℤ) → s +ℤ total a ≡ after_all ◌+ℤ◌ s a
advance-total s [] = +ℤ_idr s
advance-total s (x ∷ a) = sym (+ℤ_assoc s x (total a)) ∙ advance-total (s +ℤ x) a

pub total-room : (a : List ℤ) → AreSmall a → HasRoom (2 ^ 32 * length a) (total a)
total-room [] h = (omega (arith, ints), omega (arith, ints))
total-room (x ∷ a) h =
    let r = total-room a h.1 in (omega (arith, ints, r.0, h.0.0), omega (arith, ints, r.1, h.0.1))

pub first_fit : (s : ℤ) (a b : List ℤ) → ChangesFit s (a ++ b) → ChangesFit s a
first_fit s a b f =
    let n = f.number in let l = f.room.0 in let u = f.room.1 in let e = length-append a b in
    record {
      number = omega arith;
      sizes = all-front (HasRoom (2 ^ 32)) a b f.sizes;
      room = (omega (arith, ints), omega (arith, ints));
    }

pub rest_fits : (s : ℤ) (a b : List ℤ) → ChangesFit s (a ++ b) → ChangesFit (after_all ◌+ℤ◌ s a) b
rest_fits s a b f =
    let n = f.number in let l = f.room.0 in let u = f.room.1 in let e = length-append a b in
    let r = total-room a (all-front (HasRoom (2 ^ 32)) a b f.sizes) in let p = r.0 in let q = r.1 in
    rw (sym (advance-total s a))
    (record {
      number = omega arith;
      sizes = all-back (HasRoom (2 ^ 32)) a b f.sizes;
      room =
          (omega (arith, ints), omega (arith, ints));
    })

pub credit_shows : Shows credit_of no_change one_change credit_join credit_advance ◌+ℤ◌ ChangesFit
credit_shows = record {
  first_fit = first_fit;
  rest_fits = rest_fits;
  none = refl;
  one = one_of;
  joined = credit_of-append;
  moved = λ s a f. advance-total s a;
}

pub credit_laws : SummaryLaws no_change one_change credit_join credit_advance ◌+ℤ◌ ChangesFit
credit_laws = lawful credit_shows

high-room : (a : List ℤ) → AreSmall a → HasRoom (2 ^ 32 * length a) (high a)
high-room [] h = (omega (arith, ints), omega (arith, ints))
high-room (x ∷ a) h =
    let r = high-room a h.1 in (omega (arith, ints, clamps, r.0, h.0.0), omega (arith, ints, clamps, r.1, h.0.1))

low-room : (a : List ℤ) → AreSmall a → HasRoom (2 ^ 32 * length a) (low a)
low-room [] h = (omega (arith, ints), omega (arith, ints))
low-room (x ∷ a) h =
    let r = low-room a h.1 in (omega (arith, ints, clamps, r.0, h.0.0), omega (arith, ints, clamps, r.1, h.0.1))

-- What keeps the sums of two summaries within their machine words.
pub record IsRoomy (credit : Credit) : Type 0 where
  pub sum : HasRoom (2 ^ 60) credit.sum
  pub high : HasRoom (2 ^ 60) credit.high
  pub low : HasRoom (2 ^ 60) credit.low

-- a summary of few changes, each of them small
pub roomy : (a : List ℤ) → length a ≤ 2 ^ 28 → AreSmall a → IsRoomy (credit_of a)
roomy a n small =
    let le : 2 ^ 32 * length a ≤ 2 ^ 60 = omega arith in
    record {
      sum = room-wider _ _ _ le (total-room a small);
      high = room-wider _ _ _ le (high-room a small);
      low = room-wider _ _ _ le (low-room a small);
    }

-- a summary of changes that fit
pub summary_room : (s : ℤ) (a : List ℤ) (x : Credit) → ChangesFit s a
    → x ≡ summary_of no_change one_change credit_join a → IsRoomy x
summary_room s a x f e =
    subst IsRoomy (sym (e ∙ summary-shown credit_shows a)) (roomy a f.number f.sizes)
