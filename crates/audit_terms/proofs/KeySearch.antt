-- What a search by halving answers, where keys are numbers.
use Rattle.std.proofs.Common.{◌≡◌, ◌≢◌, ℕ, ◌<◌, ◌-◌, List, ap, get_or, length, subst, sym, ⊎_elim, arith}
use Rattle.std.{proofs.lemmas.Bool.cases_lt, proofs.lemmas.Option.slice_get_cases, proofs.lemmas.Grind.common_steps}
use Rattle.std.{specs.List.HoldsAt, specs.List.All, specs.Ordering.nat_cmp, specs.Ordering.ordering_index}
use Rattle.std.{specs.List.Sorted.IsNonDecreasingBy, specs.List.Sorted.IsPartitionPoint}
use Rattle.std.specs.declared.cmp.Ordering.TheVariants.{Less, Equal, Greater}
use Rattle.audit_terms.specs.code.StreamRows.{IsRowWith}
use Rattle.audit_terms.proofs.FindingOrder.{nat_level}
use Rattle.audit_terms.proofs.OrderlyFrames.{ranks_rise}

less_apart : (a n : ℕ) → nat_cmp a n ≡ Less → a ≢ n
less_apart a n e same = grind (arith, common_steps)

greater_apart : (a n : ℕ) → nat_cmp a n ≡ Greater → a ≢ n
greater_apart a n e same = grind (arith, common_steps)

-- where it finds an element, that has the key
pub key_found : {Row : Type 0} (key : Row → ℕ) (rows : List Row) (n i : ℕ) → i < length rows
    → HoldsAt (λ row. nat_cmp (key row) n ≡ Equal) rows i → IsRowWith key rows n i
key_found key rows n i within equal = ⊎_elim
    (λ here. record {
      row = here.0;
      there = here.2;
      same = subst (λ row. key row ≡ n) here.3
          (nat_level _ _ (equal here.0));
    })
    (λ past. absurd (omega (within, past.0, arith)))
    (slice_get_cases rows i).1

-- where it finds none and keys never fall, none has the key
pub key_missed : {Row : Type 0} (key : Row → ℕ) (rows : List Row) (n i : ℕ)
    → (IsNonDecreasingBy (λ row. ordering_index (nat_cmp (key row) n)) rows
    → IsPartitionPoint (λ row. nat_cmp (key row) n ≡ Less) (λ row. nat_cmp (key row) n ≡ Greater) rows i)
    → IsNonDecreasingBy key rows → All (λ row. key row ≢ n) rows
key_missed key rows n i search rising k d within =
    let parted = search (λ a b d le l. ranks_rise _ _ n (rising a b d le l)) in
    ⊎_elim (λ below. less_apart _ _ (parted.0 k d (omega arith) below))
    (λ above. greater_apart _ _ (parted.1 k d above within)) (cases_lt k i)

-- where the last key is below one and keys never fall, none is the one
pub past_apart : {Row : Type 0} (key : Row → ℕ) (rows : List Row) (n : ℕ) (last : Row)
    → (0 < length rows) × ((d : Row) → last ≡ get_or rows (length rows - 1) d) → key last < n
    → IsNonDecreasingBy key rows → All (λ row. key row ≢ n) rows
past_apart key rows n last is past rising k d within same =
    let most = rising k (length rows - 1) d (omega (arith, within)) (omega (arith, is.0)) in
    let end : key (get_or rows (length rows - 1) d) ≡ key last = ap key (sym (is.1 d)) in
    omega (arith, most, end, past, same)
