-- Lists of rows: where one is replaced, where one is added, and where all are moved.
use Rattle.stream_credit.proofs.Words.{nat_tests, Sides, Frame, Stream, idle_stream, opened_of, IsNextOpened}
use Rattle.stream_credit.proofs.Words.{None, AllByRecursion, ap, cases_eq, inl, inr, ne_eqb, recursion_from_All}
use Rattle.stream_credit.proofs.Words.{same_Some, subst, sym, ◌∙◌, ◌≤◌, Step}
use Rattle.std.specs.List.{All, AllZip, Sorted.IsNonDecreasingBy}
use Rattle.stream_credit.specs.declared.stream_standings.Standings.{Standings}
use Rattle.std.proofs.Common.{◌≡◌, ◌≢◌, ℕ, zero, suc, ◌-◌, ◌<◌, List, [], ◌∷◌, ◌++◌, length, get_or, slice_get}
use Rattle.std.proofs.Common.{slice_set, Some, true, false, refl, arith}
use Rattle.quiet_pass.specs.declared.opened_rows.Row.{Row}
use Rattle.quiet_pass.proofs.HeldLemmas.{unlow}
use Rattle.quiet_pass.specs.code.HeldStreams.{held, is_low}
use Rattle.quiet_pass.specs.code.Rows.{entry_in, AreRisingFrom, AreRising, IsAboveAll, IsRowOf, IsRowAfter}
use Rattle.quiet_pass.specs.code.Rows.{IsOpened, IsMetOn, IsPut, IsRowStepped, AreStepped}
use Rattle.quiet_pass.specs.code.Rows.{AreOfParity, IsOfParity, IsRowOfParity}

-- ---- the row of a stream

above-low : (low : ℕ) (rows : List Row) (at : ℕ) (row : Row) → AreRisingFrom low rows → slice_get rows at ≡ Some row
    → low < row.stream
above-low low [] at row h e = cc
above-low low (one ∷ rows) zero row h e = grind arith
above-low low (one ∷ rows) (suc at) row h e = grind (arith, above-low one.stream rows at row h.1 e)

entry-there : (low : ℕ) (rows : List Row) (at : ℕ) (row : Row) → AreRisingFrom low rows
    → slice_get rows at ≡ Some row → entry_in rows row.stream ≡ held row.standings
entry-there low [] at row h e = cc
entry-there low (one ∷ rows) zero row h e = grind (arith, nat_tests)
entry-there low (one ∷ rows) (suc at) row h e =
    grind (arith, nat_tests, above-low one.stream rows at row h.1 e, entry-there one.stream rows at row h.1 e)

-- ---- a stream without a row

least-row : (low : ℕ) (rows : List Row) → AreRisingFrom low rows → (i : ℕ) (d : Row) → i < length rows
    → low < (get_or rows i d).stream
least-row low [] h i d l = absurd (omega arith)
least-row low (row ∷ rows) h zero d l = h.0
least-row low (row ∷ rows) h (suc i) d l = omega (arith, least-row row.stream rows h.1 i d (omega arith), h.0)

rows-rise : (low : ℕ) (rows : List Row) → AreRisingFrom low rows → (i j : ℕ) (d : Row) → i ≤ j → j < length rows
    → (get_or rows i d).stream ≤ (get_or rows j d).stream
rows-rise low [] h i j d le l = absurd (omega arith)
rows-rise low (row ∷ rows) h zero zero d le l = omega arith
rows-rise low (row ∷ rows) h zero (suc j) d le l = omega (arith, least-row row.stream rows h.1 j d (omega arith))
rows-rise low (row ∷ rows) h (suc i) zero d le l = absurd (omega arith)
rows-rise low (row ∷ rows) h (suc i) (suc j) d le l = rows-rise row.stream rows h.1 i j d (omega arith) (omega arith)

entry-missed : (rows : List Row) (stream : ℕ) → AllByRecursion (λ (row : Row). row.stream ≢ stream) rows
    → entry_in rows stream ≡ idle_stream
entry-missed [] stream h = refl
entry-missed (row ∷ rows) stream h = rw (ne_eqb row.stream stream h.0) (entry-missed rows stream h.1)

pub missed-idle : (rows : List Row) (stream : ℕ)
    → (IsNonDecreasingBy (λ (row : Row). row.stream) rows → All (λ (row : Row). row.stream ≢ stream) rows)
    → AreRising rows → entry_in rows stream ≡ idle_stream
missed-idle rows stream missed rising =
    entry-missed rows stream
    (recursion_from_All (λ (row : Row). row.stream ≢ stream) rows (missed (rows-rise 0 rows rising)))

-- ---- rows of odd or of even streams

parity-set : (remainder : ℕ) (rows : List Row) (at : ℕ) (next : Row) → IsRowOfParity remainder next
    → AreOfParity remainder rows → AreOfParity remainder (slice_set rows at next)
parity-set remainder [] at next is all k row there = all k row there
parity-set remainder (one ∷ rows) zero next is all zero row there =
    subst (λ (row : Row). IsRowOfParity remainder row) (same_Some next row there) is
parity-set remainder (one ∷ rows) zero next is all (suc k) row there = all (suc k) row there
parity-set remainder (one ∷ rows) (suc at) next is all zero row there = all zero row there
parity-set remainder (one ∷ rows) (suc at) next is all (suc k) row there =
    parity-set remainder rows at next is (λ k row there. all (suc k) row there) k row there

parity-push : (remainder : ℕ) (rows : List Row) (next : Row) → IsRowOfParity remainder next
    → AreOfParity remainder rows → AreOfParity remainder (rows ++ next ∷ [])
parity-push remainder [] next is all zero row there =
    subst (λ (row : Row). IsRowOfParity remainder row) (same_Some next row there) is
parity-push remainder [] next is all (suc k) row there = cc
parity-push remainder (one ∷ rows) next is all zero row there = all zero row there
parity-push remainder (one ∷ rows) next is all (suc k) row there =
    parity-push remainder rows next is (λ k row there. all (suc k) row there) k row there

-- of rows that stand in the place of others, each of the same stream
pub parity-zip : (R : Row → Row → Type 0) → ((one two : Row) → R one two → two.stream ≡ one.stream)
    → (remainder : ℕ) (old new : List Row) → AllZip R old new → AreOfParity remainder old → AreOfParity remainder new
parity-zip R same remainder [] [] zip all k row there = all k row there
parity-zip R same remainder [] (two ∷ new) zip all k row there = absurd zip
parity-zip R same remainder (one ∷ old) [] zip all k row there = absurd zip
parity-zip R same remainder (one ∷ old) (two ∷ new) zip all zero row there =
    subst (λ (stream : ℕ). IsOfParity remainder stream)
    (sym (same one two zip.0) ∙ ap (λ (row : Row). row.stream) (same_Some two row there)) (all zero one refl)
parity-zip R same remainder (one ∷ old) (two ∷ new) zip all (suc k) row there =
    parity-zip R same remainder old new zip.1 (λ k row there. all (suc k) row there) k row there

pub each-of : (P : Row → Type 0) (rows : List Row) → ((at : ℕ) (row : Row) → slice_get rows at ≡ Some row → P row)
    → AllByRecursion P rows
each-of P [] each = tt
each-of P (row ∷ rows) each = (each zero row refl, each-of P rows (λ at one there. each (suc at) one there))

-- ---- one row replaced

module _ (row next : Row) (same : next.stream ≡ row.stream) where
  set-there : (rows : List Row) (at : ℕ) → slice_get rows at ≡ Some row
      → slice_get (slice_set rows at next) at ≡ Some next
  set-there [] at e = cc
  set-there (one ∷ rows) zero e = refl
  set-there (one ∷ rows) (suc at) e = set-there rows at e

  set-others : (rows : List Row) (at other : ℕ) → slice_get rows at ≡ Some row → other ≢ row.stream
      → entry_in (slice_set rows at next) other ≡ entry_in rows other
  set-others [] at other e differ = refl
  set-others (one ∷ rows) zero other e differ = grind (arith, nat_tests)
  set-others (one ∷ rows) (suc at) other e differ = rw (set-others rows at other e differ) refl

  set-rising : (low : ℕ) (rows : List Row) (at : ℕ) → slice_get rows at ≡ Some row → AreRisingFrom low rows
      → AreRisingFrom low (slice_set rows at next)
  set-rising low [] at e h = tt
  set-rising low (one ∷ rows) zero e h = let is : next.stream ≡ one.stream = cc in rw is h
  set-rising low (one ∷ rows) (suc at) e h = (h.0, set-rising one.stream rows at e h.1)

-- how the stream of a row stands
pub row-stands : (rows : List Row) (stream at : ℕ) (of : IsRowOf rows stream at) → AreRising rows
    → entry_in rows stream ≡ held of.row.standings
row-stands rows stream at of rising = rw of.same at (entry-there 0 rows at of.row rising of.there)

pub row-put : (rows : List Row) (stream at : ℕ) (next : Row) (of : IsRowOf rows stream at) → next.stream ≡ of.row.stream
    → AreRising rows → IsPut stream (held next.standings) rows (slice_set rows at next)
row-put rows stream at next of same rising =
    let risen = set-rising of.row next same 0 rows at of.there rising in record {
      own = rw (← of.same, ← same)
          (entry-there 0 (slice_set rows at next) at next risen (set-there of.row next same rows at of.there));
      others = λ other differ. set-others of.row next same rows at other of.there (rw of.same differ);
      rising = risen;
      parity = λ remainder is all. parity-set remainder rows at next (rw (same ∙ of.same) is) all;
    }

-- a row that is met quietly keeps its opening frame, so that it is marked after that as before
opened-same : (one other : ℕ) → opened_of one ≡ opened_of other → one ≡ other
opened-same one other e = elim (cases_eq one 0) [
  | inl p ↦ elim (cases_eq other 0) [
    | inl q ↦ p ∙ sym q
    | inr q ↦ absurd (none-some other (rw (p, ne_eqb other 0 q) at e))
  ]
  | inr p ↦ elim (cases_eq other 0) [
    | inl q ↦ absurd (none-some one (sym (rw (ne_eqb one 0 p, q) at e)))
    | inr q ↦ same_Some one other (rw (ne_eqb one 0 p, ne_eqb other 0 q) at e)
  ]
]
  where
    none-some : (n : ℕ) → None ≡ Some n → ⊥
    none-some n e = cc

next-full : (frame : Frame) (old new : Standings) (initial : Sides ℕ) → is_low old ≡ false
    → IsNextOpened frame old new → is_low new ≡ false
next-full frame old new initial full next =
    let opened = ap (λ (entry : Stream). entry.life.opened) (next.next initial).after in
    let same = opened-same new.opened old.opened (rw next.unopened at opened) in
    rw same full

pub row-met : (rows : List Row) (at : ℕ) (frame : Frame) (next : Row) (of : IsRowOf rows frame.stream at)
    → IsRowAfter frame of.row next → AreRising rows → (initial : Sides ℕ)
    → IsMetOn frame.stream initial frame false rows (slice_set rows at next)
row-met rows at frame next of after rising initial =
    let old = row-stands rows frame.stream at of rising ∙ unlow of.row.standings after.full in
    let put = row-put rows frame.stream at next of after.same rising in
    let full = next-full frame of.row.standings next.standings initial after.full after.next in
    let own = put.own ∙ unlow next.standings full in
    record {
      opening = rw old after.next.unopened;
      said = rw old (after.next.next initial).said;
      after = rw (own, old) (after.next.next initial).after;
      others = put.others;
      rising = put.rising;
      parity = put.parity;
    }

-- ---- a row added

past-idle : (rows : List Row) (stream : ℕ) → IsAboveAll rows stream → entry_in rows stream ≡ idle_stream
past-idle [] stream h = refl
past-idle (row ∷ rows) stream h = grind (arith, nat_tests, past-idle rows stream h.1)

push-own : (rows : List Row) (row : Row) (stream : ℕ) → IsAboveAll rows stream → row.stream ≡ stream
    → entry_in (rows ++ row ∷ []) stream ≡ held row.standings
push-own [] row stream h e = grind (arith, nat_tests)
push-own (one ∷ rows) row stream h e = grind (arith, nat_tests, push-own rows row stream h.1 e)

push-others : (rows : List Row) (row : Row) (other : ℕ) → other ≢ row.stream
    → entry_in (rows ++ row ∷ []) other ≡ entry_in rows other
push-others [] row other h = grind (arith, nat_tests)
push-others (one ∷ rows) row other h = rw (push-others rows row other h) refl

push-rising : (low : ℕ) (rows : List Row) (row : Row) → AreRisingFrom low rows → IsAboveAll rows row.stream
    → low < row.stream → AreRisingFrom low (rows ++ row ∷ [])
push-rising low [] row h p below = (below, tt)
push-rising low (one ∷ rows) row h p below = (h.0, push-rising one.stream rows row h.1 p.1 p.0)

past-above : (rows : List Row) (stream : ℕ) → IsAboveAll rows stream → 0 < stream
past-above [] stream h = h
past-above (row ∷ rows) stream h = omega (arith, h.0)

pub row-opened : (rows : List Row) (stream : ℕ) (initial : Sides ℕ) (frame : Frame) (row : Row)
    → IsAboveAll rows stream → IsOpened stream initial frame row → AreRising rows
    → IsMetOn stream initial frame true rows (rows ++ row ∷ [])
row-opened rows stream initial frame row past opened rising =
    let old = past-idle rows stream past in record {
      opening = rw old opened.by.opening;
      said = rw old opened.by.said;
      after = rw (push-own rows row stream past opened.same ∙ unlow row.standings opened.full, old) opened.by.after;
      others = λ other differ. push-others rows row other (rw opened.same differ);
      rising = push-rising 0 rows row rising (rw opened.same past) (rw opened.same (past-above rows stream past));
      parity = λ remainder is all. parity-push remainder rows row (rw opened.same is) all;
    }

pub row-added : (rows : List Row) (row : Row) → IsAboveAll rows row.stream → AreRising rows
    → IsPut row.stream (held row.standings) rows (rows ++ row ∷ [])
row-added rows row past rising = record {
  own = push-own rows row row.stream past refl;
  others = λ other differ. push-others rows row other differ;
  rising = push-rising 0 rows row rising past (past-above rows row.stream past);
  parity = λ remainder is all. parity-push remainder rows row is all;
}

-- a stream past the last row of rows that rise
pub past-last : (low : ℕ) (rows : List Row) (row : Row) (stream : ℕ) → slice_get rows (length rows - 1) ≡ Some row
    → row.stream < stream → AreRisingFrom low rows → IsAboveAll rows stream
past-last low [] row stream e below h = cc
past-last low (one ∷ []) row stream e below h = grind arith
past-last low (one ∷ two ∷ rows) row stream e below h =
    let last : length (one ∷ two ∷ rows) - 1 ≡ suc (length (two ∷ rows) - 1) = omega arith in
    let rest = past-last one.stream (two ∷ rows) row stream (rw last at e) below h.1 in
    (omega (arith, h.1.0, rest.0), rest)

-- ---- all rows moved

-- a relation of each row to the one that stands in its place
module _ (R : Row → Row → Type 0) (Each : List Row → List Row → Type 0) (none : Each [] [])
    (more : (one two : Row) (old new : List Row) → R one two → Each old new → Each (one ∷ old) (two ∷ new)) where
  pub each-row : (old new : List Row) → length new ≡ length old
      → ((at : ℕ) (d : Row) → at < length old → R (get_or old at d) (get_or new at d)) → Each old new
  each-row [] [] e each = none
  each-row [] (_ ∷ _) e each = absurd (omega arith)
  each-row (_ ∷ _) [] e each = absurd (omega arith)
  each-row (one ∷ old) (two ∷ new) e each =
      more one two old new (each zero one (omega arith))
      (each-row old new (omega arith) (λ at d l. each (suc at) d (omega (arith, l))))

pub stepped-each : (initial : Sides ℕ) (step : Step) (old new : List Row) → length new ≡ length old
    → ((at : ℕ) (d : Row) → at < length old → IsRowStepped initial step (get_or old at d) (get_or new at d))
    → AreStepped initial step old new
stepped-each initial step =
    each-row (IsRowStepped initial step) (AreStepped initial step) tt (λ one two old new row rest. (row, rest))
