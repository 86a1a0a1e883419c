-- What the table shows after one more segment, which opens a connection, joins one, counts as one more stray of its
-- pair, or is the first stray of it; and what a segment does, by what the table shows of its pair.
use Rattle.std.proofs.lemmas.List.{Elements.filter-append, Sums.count_by-le-length}
use Rattle.std.proofs.lemmas.{List.Sums.length-filter, Option.slice_get-map}
use Rattle.std.specs.Prelude.{◌||◌}
use Rattle.tcp_streams.proofs.Lists.{by_Bool, list_any-other, map-pushed, slice_get-last, slice_get-with_if}
use Rattle.tcp_streams.proofs.Past.{first_strays-apart, first_strays-other, last_opening-kept, last_opening-other}
use Rattle.tcp_streams.proofs.Past.{last_opening-new, opening_at-kept, opening_at-opens}
use Rattle.tcp_streams.proofs.Words.{All, Option, Stray, filter, get_or, length}
use Rattle.tcp_streams.proofs.Words.{pair_of, strays}
use Rattle.tcp_streams.proofs.Words.{All-weaker, first_strays, last_opening, length-append, standing_of}
use Rattle.tcp_streams.proofs.Words.{Bool, List, None, Pair, Some, Table, arith, false, is_of, opens, refl, true, ◌++◌}
use Rattle.tcp_streams.proofs.Words.{IsUnopened, append-nil, is_request}
use Rattle.tcp_streams.proofs.Words.{IsOpened, [], length-map, map-append, opening_at, slice_get}
use Rattle.tcp_streams.proofs.Words.{IsTableOf, get_or_from_slice_get, list_any-append}
use Rattle.tcp_streams.proofs.Words.{Opened, Segment, is_none, is_pair, list_any, openings, or_right, stray_of}
use Rattle.tcp_streams.proofs.Words.{ap, inl, inr, map, not, set, sym, ℕ, ◌∙◌, ◌∷◌, ◌≡◌, ◌≤◌, ◌⊎◌}
use Rattle.tcp_streams.proofs.{Lists.map-but, Pairs.is_pair-refl, Pairs.is_pair-same}
use Rattle.tcp_streams.proofs.{Pairs.is_pair-sym, Past.AreOfTwo}
use Rattle.tcp_streams.specs.code.Table.{IsShown, IsUnknown, Stands, counted, first_stray, opener_of}
use Rattle.tcp_streams.specs.declared.standings.Standing.{Standing, TheVariants.Unopened}
use Rattle.tcp_streams.specs.declared.table.Opener.{Opener}
use Rattle.tcp_streams.specs.{code.Past.is_again, code.Standings.SetsStandingIn}

-- what was so of a pair is so still, where its last opening and whether it has strays stay
Stands-grown : (past : List Segment) (s : Segment) (p : Pair) (w : Option Standing)
    → last_opening p (s ∷ past) ≡ last_opening p past
    → list_any (is_of p) (strays (s ∷ past)) ≡ list_any (is_of p) (strays past) → Stands past p w
    → Stands (s ∷ past) p w
Stands-grown past s p None l a h = record { unopened = l ∙ h.unopened; no_stray = a ∙ h.no_stray }
Stands-grown past s p (Some (Unopened k)) l a h = record {
  unopened = l ∙ h.unopened;
  some_stray = a ∙ h.some_stray;
  first = h.first;
  at = slice_get-with_if _ (first_strays past) s k h.first h.at;
  of_pair = h.of_pair;
}
Stands-grown past s p (Some (Opened k)) l a h =
    record { last = h.last; opened = l ∙ h.opened; at = slice_get-with_if _ (openings past) s k h.last h.at }

-- no stray passes, so none is kept
filter-none : (p : Segment → Bool) (xs : List Segment) → list_any p xs ≡ false → filter p xs ≡ []
filter-none p [] h = refl
filter-none p (x ∷ xs) h = grind (arith, filter-none p xs)

module _ (past : List Segment) (s : Segment) where
  -- a segment of another pair is not counted with the strays of this one
  stray-other : (f : Segment) → is_of (pair_of f) s ≡ false → stray_of (strays past) f ≡ stray_of
      (strays past ++ s ∷ []) f
  stray-other f e = grind (arith, filter-append, append-nil)

  stray-counted : (f : Segment) → is_of (pair_of f) s ≡ true → stray_of (strays past ++ s ∷ []) f ≡ counted
      (stray_of (strays past) f)
  stray-counted f e = grind (arith, filter-append, length-append)

  -- whether a pair has a stray, where the segment is one
  strays-any : (p : Pair) → opening_at s past ≡ None
      → list_any (is_of p) (strays (s ∷ past)) ≡ (list_any (is_of p) (strays past) || list_any (is_of p) (s ∷ []))
  strays-any p none = rw none (list_any-append (is_of p) (strays past) (s ∷ []))

  module _ (standing : Pair → Option Standing) (openers : List Opener) (found : List Stray)
      (shown : IsShown past standing openers found) where
    -- the segment opens a connection
    pub shown-opens : (after : Pair → Option Standing) → opens s past ≡ true
        → SetsStandingIn (pair_of s) (Opened (length openers)) standing after
        → IsShown (s ∷ past) after (openers ++ opener_of s ∷ []) found
    shown-opens after e sets =
        let looks_here = opening_at-opens past s e in
        let none_new : is_none (opening_at s past) ≡ false = rw looks_here in
        let grown : openings (s ∷ past) ≡ openings past ++ s ∷ [] = rw e in
        record {
          openers_are = rw (grown, shown.openers_are) (sym (map-append opener_of (openings past) (s ∷ [])));
          strays_are = rw none_new shown.strays_are;
          stands = λ p. rw (sets p) (by_Bool (is_pair (pair_of s) p)
              (λ q. rw q (record {
                last = s;
                opened = last_opening-new past s e p (is_pair-sym p (pair_of s) ∙ q);
                at = rw (grown, shown.openers_are, length-map (openings past) opener_of)
                    (slice_get-last (openings past) s);
              }))
              (λ q. rw q (Stands-grown past s p (standing p)
              (last_opening-other past s p (is_pair-sym p (pair_of s) ∙ q)) (rw none_new) (shown.stands p))));
        }

    -- a segment that opens none leaves the openings as they were
    openers-kept : opens s past ≡ false → openers ≡ map opener_of (openings (s ∷ past))
    openers-kept e = rw e shown.openers_are

    -- the segment joins the connection at an index
    pub shown-joins : (k : ℕ) → opens s past ≡ false → IsOpened past (pair_of s) k
        → IsShown (s ∷ past) standing openers found
    shown-joins k e o =
        let looks_back = opening_at-kept past s e ∙ o.opened in
        let none_new : is_none (opening_at s past) ≡ false = rw looks_back in
        record {
          openers_are = openers-kept e;
          strays_are = rw none_new shown.strays_are;
          stands = λ p. Stands-grown past s p (standing p) (last_opening-kept past s e p) (rw none_new)
              (shown.stands p);
        }

    -- the segment is one more stray of its pair
    pub shown-counts : (k : ℕ) (after : List Stray) (t : Stray) → opens s past ≡ false
        → (u : IsUnopened past (pair_of s) k) → stray_of (strays past) u.first ≡ t → after ≡ set found k (counted t)
        → IsShown (s ∷ past) standing openers after
    shown-counts k after t e u here a =
        let looks_back = opening_at-kept past s e ∙ u.unopened in
        let strays_grow : strays (s ∷ past) ≡ strays past ++ s ∷ [] = rw looks_back in
        let firsts_stay : first_strays (s ∷ past) ≡ first_strays past = rw (looks_back, u.some_stray) in
        let same_pair = is_pair-same (pair_of s) (pair_of u.first) u.of_pair in
        let counts = stray-counted u.first (rw (← same_pair) (is_pair-refl (pair_of s))) in
        let other = λ (f : Segment) (apart : AreOfTwo f u.first ⊎ AreOfTwo u.first f).
        stray-other f (elim apart [
          | inl h ↦ rw same_pair h
          | inr h ↦ rw same_pair (is_pair-sym (pair_of f) (pair_of u.first) ∙ h)
        ]) in
        let but = map-but AreOfTwo (stray_of (strays past)) (stray_of (strays past ++ s ∷ [])) (first_strays past) k
        u.first (first_strays-apart past) u.at other in
        record {
          openers_are = openers-kept e;
          strays_are = rw (strays_grow, firsts_stay) cc (but, counts, here);
          stands = λ p. Stands-grown past s p (standing p) (last_opening-kept past s e p)
              (by_Bool (is_of p s)
              (λ q. rw (strays-any p looks_back, is_pair-same p (pair_of s) q, u.some_stray))
              (λ q. list_any-other _ (strays past) s (is_of p) q))
              (shown.stands p);
        }

    -- the segment is the first stray of its pair
    pub shown-begins : (after : Pair → Option Standing) → opens s past ≡ false → IsUnknown past (pair_of s)
        → SetsStandingIn (pair_of s) (Unopened (length found)) standing after
        → IsShown (s ∷ past) after openers (found ++ first_stray s ∷ [])
    shown-begins after e u sets =
        let looks_back = opening_at-kept past s e ∙ u.unopened in
        let strays_grow : strays (s ∷ past) ≡ strays past ++ s ∷ [] = rw looks_back in
        let firsts_grow : first_strays (s ∷ past) ≡ first_strays past ++ s ∷ [] = rw (looks_back, u.no_stray) in
        let alone : first_stray s ≡ stray_of (strays past ++ s ∷ []) s =
        rw (stray-counted s (is_pair-refl (pair_of s)), filter-none (is_of (pair_of s)) (strays past) u.no_stray) in
        let kept : All (λ f. stray_of (strays past) f ≡ stray_of (strays past ++ s ∷ []) f) (first_strays past) =
        All-weaker (λ f. AreOfTwo f s) _ stray-other (first_strays past) (first_strays-other past s u.no_stray) in
        record {
          openers_are = openers-kept e;
          strays_are = rw (strays_grow, firsts_grow, shown.strays_are)
              (map-pushed (stray_of (strays past)) (stray_of (strays past ++ s ∷ [])) (first_strays past) s
              (first_stray s) kept alone);
          stands = λ p. rw (sets p) (by_Bool (is_pair (pair_of s) p)
              (λ q. let same = is_pair-same (pair_of s) p q in rw q (record {
                unopened = last_opening-kept past s e p ∙ rw (← same) u.unopened;
                some_stray = rw (strays-any p looks_back, is_pair-sym p (pair_of s), q) (or_right _ true refl);
                first = s;
                at = rw (firsts_grow, shown.strays_are, length-map (first_strays past) (stray_of (strays past)))
                    (slice_get-last (first_strays past) s);
                of_pair = is_pair-sym p (pair_of s) ∙ q;
              }))
              (λ q. let other = is_pair-sym p (pair_of s) ∙ q in rw q (Stands-grown past s p (standing p)
              (last_opening-other past s p other) (list_any-other _ (strays past) s (is_of p) other)
              (shown.stands p))));
        }

strays-few : (past : List Segment) → length (strays past) ≤ length past
strays-few [] = omega arith
strays-few (s ∷ past) = grind (arith, length-append (strays past) (s ∷ []), strays-few past)

-- what stands in the table at the index of a pair's last opening, or of its first stray
module _ (past : List Segment) (t : Table) (shown : IsTableOf past t) (p : Pair) (k : ℕ) where
  pub stands-opened : (o : IsOpened past p k) (x : Opener) → x ≡ get_or t.openers.items k x → opener_of o.last ≡ x
  stands-opened o x is =
      let here : slice_get t.openers.items k ≡ Some (opener_of o.last) =
      rw (shown.openers_are, slice_get-map opener_of (openings past) k, o.at) refl in
      sym (get_or_from_slice_get t.openers.items k (opener_of o.last) x here) ∙ sym is

  pub stands-unopened : (u : IsUnopened past p k) (x : Stray) → x ≡ get_or t.strays.items k x
      → stray_of (strays past) u.first ≡ x
  stands-unopened u x is =
      grind (arith, slice_get-map (stray_of (strays past)) (first_strays past) k, get_or_from_slice_get)

  -- no stray is counted more often than there are segments
  pub counted-few : IsUnopened past p k → (x : Stray) → x ≡ get_or t.strays.items k x → x.segments ≤ length past
  counted-few u x is = omega (
    arith,
    ap (λ (y : Stray). y.segments) (stands-unopened u x is),
    length-filter (is_of (pair_of u.first)) (strays past),
    count_by-le-length (is_of (pair_of u.first)) (strays past),
    strays-few past,
  )

-- of a pair with an opening, a request opens a connection unless it says again what that opening said
module _ (past : List Segment) (t : Table) (shown : IsTableOf past t) (s : Segment) (k : ℕ)
    (at : standing_of t.standings (pair_of s) ≡ Some (Opened k)) where
  pub stands_so : IsOpened past (pair_of s) k
  stands_so = rw at at (shown.stands (pair_of s))

  pub decides : (x : Opener) → x ≡ get_or t.openers.items k x → is_request s ≡ true
      → opens s past ≡ not (is_again s x.client x.number)
  decides x is r = rw (r, stands_so.opened) (ap (λ (y : Opener). not (is_again s y.client y.number))
      (stands-opened past t shown (pair_of s) k stands_so x is))
