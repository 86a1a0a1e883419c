-- Two flows of the same sources are one.
use Rattle.tcp_streams.proofs.Words.{◌≡◌, ℕ, ◌<◌, ◌≤◌, List, [], ◌∷◌, Option, None, Some, refl, sym, ◌∙◌, arith, length}
use Rattle.tcp_streams.proofs.Words.{slice_get, ap, get_or, IfSome, IsSomeAnd, false≢true, lt-ltb, le-ltb}
use Rattle.tcp_streams.proofs.Words.{Rises, IsArrivalOf, IsFlow, IsGap, arrival_at, Source, arrival, Arrival}
use Rattle.tcp_streams.{specs.Flow.IsLongestRun, proofs.Lists.by_lt}
use Rattle.std.{proofs.lemmas.Grind.same_number_lists}
use Rattle.std.proofs.lemmas.Option.{unwrap_or-slice_get}

-- no longest run is shorter than another
not-shorter : (F : ℕ → Option Source) (n m : ℕ) → IsLongestRun F n → IsLongestRun F m → n < m → ⊥
not-shorter F n m h k lt = false≢true (rw (h.longest (omega (arith, k.within))) at (k.covered n lt))

-- one source, one byte
pub same-byte : (p : Option Source) (capture xs ys : List ℕ) (o : ℕ)
    → IsSomeAnd p (λ (s : Source). slice_get capture s.index ≡ slice_get xs o)
    → IsSomeAnd p (λ (s : Source). slice_get capture s.index ≡ slice_get ys o) → get_or xs o 0 ≡ get_or ys o 0
same-byte None capture xs ys o h k = absurd h
same-byte (Some s) capture xs ys o h k = grind (arith, unwrap_or-slice_get xs o 0, unwrap_or-slice_get ys o 0)

gap-unique : (F : ℕ → Option Source) (n : ℕ) (g k : Option ℕ) → IsGap F n g → IsGap F n k → g ≡ k
gap-unique F n None None h k = refl
gap-unique F n (Some g) (Some k) h j = ap Some (h.0 ∙ sym j.0)
gap-unique F n None (Some k) h (is, (o, past, low, some)) = absurd (false≢true (rw (h o past low) at some))
gap-unique F n (Some g) None (is, (o, past, low, some)) j = absurd (false≢true (rw (j o past low) at some))

-- entries that bear one source bear the same record and time
same-rec : (s : Option Source) (e f : Arrival) → IsArrivalOf e s → IsArrivalOf f s
    → (e.rec ≡ f.rec) × (e.nanos ≡ f.nanos)
same-rec None e f h k = absurd h
same-rec (Some x) e f h k = (h.0 ∙ sym k.0, h.1 ∙ sym k.1)

pub Rises-end : (low rec : ℕ) (l : List Arrival) (n : ℕ) → Rises low rec l n → low ≤ n
Rises-end low rec [] n h = omega (arith, h)
Rises-end low rec (e ∷ l) n h = omega (arith, h.0, Rises-end e.upto e.rec l n h.2)

-- entries have later records than the one before them
pub entry-later : (low rec : ℕ) (l : List Arrival) (n o : ℕ) → Rises low rec l n
    → IfSome (arrival_at l o) (λ (f : Arrival). rec < f.rec)
entry-later low rec [] n o h = tt
entry-later low rec (e ∷ l) n o h = grind (arith, entry-later e.upto e.rec l n o h.2, by_lt, h.1, h.2)

-- so the entry after e does not bear the source of one of its record
other-rec : (s : Option Source) (p : Option Arrival) (e f : Arrival) → IfSome p (λ (g : Arrival). e.rec < g.rec)
    → IsSomeAnd p (λ (g : Arrival). IsArrivalOf g s) → IsArrivalOf f s → e.rec ≡ f.rec → ⊥
other-rec s None e f later here there same = here
other-rec s (Some g) e f later here there same = omega (arith, later, (same-rec s g f here there).0)

-- two lists of entries of one flow, from an offset on
module _ (S : ℕ → Option Source) (n : ℕ) where
  abbrev Bear : ℕ → List Arrival → Type 0
  Bear low l = (o : ℕ) → low ≤ o → o < n → IsSomeAnd (arrival_at l o) (λ (a : Arrival). IsArrivalOf a (S o))

  module _ (low rec rec' : ℕ) (e f : Arrival) (l k : List Arrival) (h : Rises low rec (e ∷ l) n)
      (j : Rises low rec' (f ∷ k) n) (are : Bear low (e ∷ l)) (bear : Bear low (f ∷ k)) where
    first : (e.rec ≡ f.rec) × (e.nanos ≡ f.nanos)
    first = grind (arith, Rises-end, same-rec, lt-ltb)

    -- an entry does not end before the other's
    not-before : e.upto < f.upto → ⊥
    not-before lt =
        let end = Rises-end f.upto f.rec k n j.2 in
        let after : low ≤ e.upto = omega (arith, h.0) in
        let within : e.upto < n = omega arith in
        other-rec (S e.upto) (arrival_at l e.upto) e f (entry-later e.upto e.rec l n e.upto h.2)
        (rw (le-ltb e.upto e.upto (omega arith)) at (are e.upto after within))
        (rw (lt-ltb e.upto f.upto lt) at (bear e.upto after within)) first.0

  pub arrivals-unique : (low rec rec' : ℕ) (l k : List Arrival) → Rises low rec l n → Rises low rec' k n
      → Bear low l → Bear low k → l ≡ k
  arrivals-unique low rec rec' [] [] h j are bear = refl
  arrivals-unique low rec rec' [] (f ∷ k) h j are bear = absurd (omega (arith, h, j.0, Rises-end f.upto f.rec k n j.2))
  arrivals-unique low rec rec' (e ∷ l) [] h j are bear = absurd (omega (arith, j, h.0, Rises-end e.upto e.rec l n h.2))
  arrivals-unique low rec rec' (e ∷ l) (f ∷ k) h j are bear =
      let same : e.upto ≡ f.upto =
      omega (arith, not-before low rec rec' e f l k h j are bear, not-before low rec' rec f e k l j h bear are) in
      let (recs, times) = first low rec rec' e f l k h j are bear in
      let entry : e ≡ f = (λ i. record { upto = same i; rec = recs i; nanos = times i }) in
      let rest : l ≡ k = arrivals-unique e.upto e.rec f.rec l k h.2 (rw same j.2)
      (λ o p q. rw (le-ltb o e.upto p) at (are o (omega (arith, h.0)) q))
      (λ o p q. rw (le-ltb o f.upto (omega arith)) at (bear o (omega (arith, h.0)) q)) in
      (λ i. entry i ∷ rest i)

-- the flow of a source is one
pub IsFlow-unique : (capture : List ℕ) (F : ℕ → Option Source) (bytes bytes' : List ℕ)
    (arrivals arrivals' : List Arrival) (gap gap' : Option ℕ)
    → IsFlow capture F bytes arrivals gap → IsFlow capture F bytes' arrivals' gap' → (bytes ≡ bytes')
    × (arrivals ≡ arrivals') × (gap ≡ gap')
IsFlow-unique capture F bytes bytes' arrivals arrivals' gap gap' h k =
    let size : length bytes ≡ length bytes' =
    omega (arith, not-shorter F _ _ h.run k.run, not-shorter F _ _ k.run h.run) in (
      same_number_lists bytes bytes' size (λ o lt. same-byte (F o) capture bytes bytes' o (h.bytes_are o lt)
          (k.bytes_are o (omega (arith, lt, size)))),
      arrivals-unique (arrival F) (length bytes) 0 0 0 arrivals arrivals' h.rises (rw size k.rises)
          (λ o p lt. h.arrivals_are o lt) (λ o p lt. k.arrivals_are o (omega (arith, lt, size))),
      gap-unique F (length bytes) gap gap' h.gap_is (rw size k.gap_is),
    )
