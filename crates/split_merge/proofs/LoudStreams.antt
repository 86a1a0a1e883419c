-- The loud streams among all: which they are, where they stand, what they count, and what is noted of them.
use Rattle.split_merge.proofs.Terms.{AllByRecursion, AllZip, AreDistinct, ArePlaces, Bool, List, MatchOption, NotAmong}
use Rattle.split_merge.proofs.Terms.{Option, QuietStream, Some, Visited, [], arith, eq-eqb, filter, flat_map, get_or}
use Rattle.split_merge.proofs.Terms.{get_or_from_slice_get, if◌then◌else◌, length, loud_of, map, nat_tests, ne_eqb, not}
use Rattle.split_merge.proofs.Terms.{opened_in, option_to_list, places_from, quiet_in, refl, slice_get}
use Rattle.split_merge.proofs.Terms.{slice_get_within, streams_in, suc, total_of, true, zero, ℕ, ◌+◌, ◌-◌, ◌==◌, ◌∙◌}
use Rattle.split_merge.proofs.{Terms.◌∷◌, Terms.◌≡◌, Terms.◌≤◌, Visited.not_among-at}
use Rattle.stream_credit.specs.code.Standings.{opened_of}

-- ---- what holds of all holds of the loud ones

pub loud-map : {X Y : Type 0} (f : X → Y) (xs : List X) (quiets : List QuietStream)
    → map f (loud_of xs quiets) ≡ loud_of (map f xs) quiets
loud-map f (x ∷ xs) (quiet ∷ quiets) = grind (arith, loud-map f xs quiets)
loud-map f xs quiets = refl

pub loud-streams : (rows : List Visited) (quiets : List QuietStream)
    → streams_in (loud_of rows quiets) ≡ loud_of (streams_in rows) quiets
loud-streams rows quiets = loud-map (λ (row : Visited). row.stream) rows quiets

pub loud-not_among : (s : ℕ) (xs : List ℕ) (quiets : List QuietStream) → NotAmong s xs → NotAmong s (loud_of xs quiets)
loud-not_among s (x ∷ xs) (quiet ∷ quiets) n = grind (arith, loud-not_among s xs quiets n.1)
loud-not_among s xs quiets n = tt

pub loud-distinct : (xs : List ℕ) (quiets : List QuietStream) → AreDistinct xs → AreDistinct (loud_of xs quiets)
loud-distinct (x ∷ xs) (quiet ∷ quiets) h = grind (arith, loud-distinct xs quiets h.1, loud-not_among x xs quiets h.0)
loud-distinct xs quiets h = tt

pub loud-total : (rows : List Visited) (quiets : List QuietStream) → total_of (loud_of rows quiets) ≤ total_of rows
loud-total (row ∷ rows) (quiet ∷ quiets) = grind (arith, loud-total rows quiets)
loud-total rows quiets = omega arith

-- ---- which of the streams are loud

-- a value at another stream is passed over
filter-past : (other : ℕ) (b : Bool) (h : ℕ → Bool) (g : Bool → Bool) (xs : List ℕ) → NotAmong other xs →
    filter (λ s. g (if other == s then b else h s)) xs ≡ filter (λ s. g (h s)) xs
filter-past other b h g [] n = refl
filter-past other b h g (x ∷ xs) n = grind (arith, nat_tests, filter-past other b h g xs n.1)

pub loud-filter : (xs : List ℕ) (quiets : List QuietStream) → AreDistinct xs → length quiets ≡ length xs →
    loud_of xs quiets ≡ filter (λ s. not (quiet_in s xs quiets)) xs
loud-filter [] quiets h e = refl
loud-filter (x ∷ xs) [] h e = absurd (omega (arith, e))
loud-filter (x ∷ xs) (quiet ∷ quiets) h e =
    let past = filter-past x quiet.is_quiet (λ s. quiet_in s xs quiets) not xs h.0 in
    grind (arith, nat_tests, loud-filter xs quiets h.1 (omega (arith, e)))

pub opened-filter : (f : ℕ → List ℕ) (xs : List ℕ) (quiets : List QuietStream) → AreDistinct xs
    → AllZip (λ s quiet. quiet.is_quiet ≡ true → f s ≡ option_to_list (opened_of quiet.standings.opened)) xs quiets
    → opened_in quiets ≡ flat_map f (filter (λ s. quiet_in s xs quiets) xs)
opened-filter f [] [] h told = refl
opened-filter f (x ∷ xs) (quiet ∷ quiets) h told =
    let rest = opened-filter f xs quiets h.1 told.1 in
    grind (arith, nat_tests, told.0, filter-past x quiet.is_quiet (λ s. quiet_in s xs quiets) (λ b. b) xs h.0)
opened-filter f xs quiets h told = absurd told

each-past : (P : ℕ → Type 0) (other : ℕ) (b : Bool) (h : ℕ → Bool) (xs : List ℕ) → NotAmong other xs
    → AllByRecursion (λ s. h s ≡ true → P s) xs → AllByRecursion (λ s. (if other == s then b else h s) ≡ true → P s) xs
each-past P other b h [] n all = tt
each-past P other b h (x ∷ xs) n all = (rw (ne_eqb other x n.0) all.0, each-past P other b h xs n.1 all.1)

-- what holds of each quiet stream
pub each-quiet : (P : ℕ → Type 0) (xs : List ℕ) (quiets : List QuietStream) → AreDistinct xs
    → AllZip (λ s quiet. quiet.is_quiet ≡ true → P s) xs quiets
    → AllByRecursion (λ s. quiet_in s xs quiets ≡ true → P s) xs
each-quiet P [] quiets h told = tt
each-quiet P (x ∷ xs) [] h told = absurd told
each-quiet P (x ∷ xs) (quiet ∷ quiets) h told = (
  rw (eq-eqb x x refl) told.0,
  each-past P x quiet.is_quiet (λ s. quiet_in s xs quiets) xs h.0 (each-quiet P xs quiets h.1 told.1),
)

-- ---- where they stand

pub places-length : (at : ℕ) (quiets : List QuietStream) → length (places_from at quiets) ≡ length quiets
places-length at [] = refl
places-length at (quiet ∷ quiets) = grind (arith, places-length at quiets, places-length (at + 1) quiets)

places-at : (xs : List ℕ) (quiets : List QuietStream) → length quiets ≡ length xs → AreDistinct xs →
    (at r s : ℕ) (d : Option ℕ) → slice_get xs r ≡ Some s →
    MatchOption (get_or (places_from at quiets) r d) (NotAmong s (loud_of xs quiets))
    (λ k. (at ≤ k) × (slice_get (loud_of xs quiets) (k - at) ≡ Some s))
places-at [] quiets n h at r s d is = cc
places-at (x ∷ xs) [] n h at r s d is = absurd (omega (arith, n))
places-at (x ∷ xs) (quiet ∷ quiets) n h at zero s d is = grind (arith, loud-not_among x xs quiets h.0)
places-at (x ∷ xs) (quiet ∷ quiets) n h at (suc r) s d is =
    let apart = not_among-at x xs r h.0 (slice_get_within xs r s is) in
    let e = get_or_from_slice_get xs r s 0 is in
    let rest = places-at xs quiets (omega (arith, n)) h.1 in grind (arith, rest at r s d is, rest (at + 1) r s d is)

pub are-places : (xs : List ℕ) (quiets : List QuietStream) → length quiets ≡ length xs → AreDistinct xs
    → NotAmong 0 xs → ArePlaces xs (places_from 0 quiets) (loud_of xs quiets)
are-places xs quiets n h above = record {
  long = places-length 0 quiets ∙ n;
  above = loud-not_among 0 xs quiets above;
  absent = λ s out. loud-not_among s xs quiets out;
  found = λ r s d is. let at = places-at xs quiets n h 0 r s d is in grind arith;
}
