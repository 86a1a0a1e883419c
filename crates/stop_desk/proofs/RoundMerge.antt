-- The parts of a settled board, taken job by job, hold with what they leave out the findings of all jobs. So it gives,
-- up to the stop, what the whole jobs give: each place seen is a real error, so none lies below the least; each part
-- has everything up to the least; so the least is kept and was lowered.
use Rattle.std.proofs.lemmas.{Grind.flat_map-append, List.Elements.Contains-append_left}
use Rattle.std.specs.{Cmp.nat_cmp_is, declared.cmp.Ordering.TheVariants.Greater}
use Rattle.audit_terms.proofs.FindingOrder.{comes_after_is, in_order-alike, in_order-append_comm}
use Rattle.audit_terms.proofs.OrderedLists.{IsInOrder, NoneBefore, in_order-ordered}
use Rattle.stop_desk.proofs.{RoundMembers.count-cons, RoundMembers.count-some, Words.Contains-append_right}
use Rattle.audit_terms.proofs.LeastPlaces.{least-moves, least-some}
use Rattle.audit_terms.specs.code.Stops.{IsLeast, StopsAt}
use Rattle.stop_desk.proofs.RoundMembers.{in_order-contains}
use Rattle.stop_desk.proofs.RoundMembers.{contains-apart, contains-cases, contains-here, contains-none, some-count}
use Rattle.stop_desk.proofs.RoundMembers.{contains-flat_map, contains-in_order, contains-later, flat_map-contains}
use Rattle.stop_desk.proofs.Words.{BoardMerges, comes_after, cond_both, nat_tests, slice_get, upto_stop, ℕ_discrete}
use Rattle.stop_desk.proofs.Words.{Contains, Finding, add-zero, eqb-true, in_order, length, ne_eqb, put_by, ⊎_elim}
use Rattle.stop_desk.proofs.Words.{Contains-append_cases, IsPermutation-middle, sum_by-IsPermutation}
use Rattle.stop_desk.proofs.Words.{Contains-permutation, IsPermutation, IsPermutation-sym, append_assoc, if◌then◌else◌}
use Rattle.stop_desk.proofs.Words.{List, None, Some, [], ap, inl, inr, suc, sym, ℕ, ◌+◌, ◌<◌, ◌∙◌, ◌∷◌, ◌≡◌, ◌≤◌, ◌⊎◌}
use Rattle.stop_desk.proofs.Words.{Merges, Option, arith, eq-eqb, false, refl, stops, subst, true, zero, ◌++◌, ◌==◌}
use Rattle.stop_desk.specs.code.Board.{Board, IsGiven, IsPartOf, IsPast, Job, PartView, RoundView, stop_of}
use Rattle.stop_desk.specs.code.Board.{IsSettled, JobStopsAt, findings_of_jobs, findings_of_parts, parts_of}
use native.Mathlib.Nat.{zero-add}

-- the same findings in another order
swap-front : (xs ys zs : List Finding) → in_order (xs ++ (ys ++ zs)) ≡ in_order (ys ++ (xs ++ zs))
swap-front xs ys zs = rw (← (append_assoc xs ys zs), ← (append_assoc ys xs zs))
    (in_order-alike (xs ++ ys) (ys ++ xs) zs zs (in_order-append_comm xs ys) refl)

-- what is kept is the whole but for what may be left out
pub record Leaves (IsOut : Finding → Type 0) (kept whole : List Finding) : Type 0 where
  pub left_out : List Finding
  pub together : in_order (kept ++ left_out) ≡ in_order whole
  pub beyond : (found : Finding) → Contains left_out found → IsOut found

-- of one and of others
pub leaves-both : {IsOut : Finding → Type 0} (kept whole kept' whole' : List Finding) → Leaves IsOut kept whole →
    Leaves IsOut kept' whole' → Leaves IsOut (kept ++ kept') (whole ++ whole')
leaves-both kept whole kept' whole' h k = record {
  left_out = h.left_out ++ k.left_out;
  together =
      ap in_order (append_assoc kept kept' _) ∙ in_order-alike kept kept _ _ refl (swap-front kept' h.left_out _)
      ∙ ap in_order (sym (append_assoc kept h.left_out (kept' ++ k.left_out)))
      ∙ in_order-alike (kept ++ h.left_out) whole (kept' ++ k.left_out) whole' h.together k.together;
  beyond = λ found c. ⊎_elim (h.beyond found) (k.beyond found) (Contains-append_cases h.left_out k.left_out found c);
}

-- what a part and a job have of a connection
abbrev pub of_part : (connection : ℕ) → PartView → List Finding
of_part connection part = if part.connection == connection then part.findings else []

abbrev pub of_job : (connection : ℕ) → Job → List Finding
of_job connection job = if job.connection == connection then job.findings else []

-- a finding that may be left out lies past a place that was seen
abbrev pub IsBeyond : List (ℕ × ℕ) → ℕ → Finding → Type 0
IsBeyond seen connection found = (place : ℕ) × Contains seen (connection, place) × (place < found.place)

-- a part of the jobs that are numbered from `first` on
abbrev pub IsOneOf : List (ℕ × ℕ) → List (ℕ × ℕ) → ℕ → List Job → PartView → Type 0
IsOneOf seen lowered first jobs part =
    (at : ℕ) × (job : Job) × (part.job ≡ first + at) × (slice_get jobs at ≡ Some job) × IsPartOf seen lowered job part

module _ (seen lowered : List (ℕ × ℕ)) (connection : ℕ) where
  abbrev IsWhole : (kept whole : List Finding) → Type 0
  IsWhole = Leaves (IsBeyond seen connection)

  whole-none : IsWhole [] []
  whole-none = record { left_out = []; together = refl; beyond = λ found k. absurd (contains-none found k) }

  past-some : (upto : Option ℕ) (place : ℕ) → IsPast upto place → (stop : ℕ) × (upto ≡ Some stop) × (stop < place)
  past-some None place h = absurd h
  past-some (Some stop) place h = (stop, refl, h)

  -- of one part
  whole-part : (job : Job) (part : PartView) → IsPartOf seen lowered job part →
      IsWhole (of_part connection part) (of_job connection job)
  whole-part job part h = rw (← h.of_connection) (elim (ℕ_discrete part.connection connection) [
    | yes same ↦ rw (eq-eqb part.connection connection same) (record {
      left_out = h.cut.left_out;
      together = h.cut.together;
      beyond = λ found k. (let (stop, is, low) = past-some part.upto found.place (h.cut.past found k) in
          (stop, rw same at (h.upto_seen stop is), low));
    })
    | no other ↦ rw (ne_eqb part.connection connection other) whole-none
  ])

  abbrev own : List PartView → List Finding
  own parts = findings_of_parts connection parts

  -- of all
  pub whole-parts : (first : ℕ) (jobs : List Job) (parts : List PartView) →
      ((at : ℕ) → at < length jobs → parts_of (first + at) parts ≡ 1) →
      ((part : PartView) → Contains parts part → IsOneOf seen lowered first jobs part) →
      IsWhole (findings_of_parts connection parts) (findings_of_jobs connection jobs)
  whole-parts first [] [] one are = whole-none
  whole-parts first [] (part ∷ parts) one are = (let got = (are part (contains-here part parts)).3 in cc)
  whole-parts first (job ∷ jobs) parts one are =
      let both = leaves-both _ (of_job connection job) _ (findings_of_jobs connection jobs)
      (whole-part job taken.0 (of_first (are taken.0 taken.1)))
      (whole-parts (suc first) jobs (apart.0 ++ apart.1) one-later later) in record {
        left_out = both.left_out;
        together =
            in_order-alike (own parts) (of_part connection taken.0 ++ own (apart.0 ++ apart.1)) both.left_out
            both.left_out split refl ∙ both.together;
        beyond = both.beyond;
      } where
        -- the part of the first job, and those before and behind it
        taken : (part : PartView) × Contains parts part × ((part.job == first) ≡ true)
        taken =
            let once = rw add-zero at (one 0 (omega arith)) in
            count-some (λ (p : PartView). p.job == first) parts (omega arith)

        apart : (front : List PartView) × (back : List PartView) × (parts ≡ front ++ taken.0 ∷ back)
        apart = contains-apart parts taken.0 taken.1

        is_first : taken.0.job ≡ first
        is_first = eqb-true taken.0.job first taken.2

        of_first : IsOneOf seen lowered first (job ∷ jobs) taken.0 → IsPartOf seen lowered job taken.0
        of_first (zero, j, e, got, h) = (let same : j ≡ job = cc in rw same at h)
        of_first (suc at, j, e, got, h) = (let is = is_first in absurd (omega arith))

        moved : IsPermutation parts (taken.0 ∷ (apart.0 ++ apart.1))
        moved = subst (λ ps. IsPermutation ps (taken.0 ∷ (apart.0 ++ apart.1))) (sym apart.2)
            (IsPermutation-middle apart.0 taken.0 apart.1)

        split : in_order (own parts) ≡ in_order (of_part connection taken.0 ++ own (apart.0 ++ apart.1))
        split =
            ap (λ ps. in_order (own ps)) apart.2
            ∙ simp flat_map-append (swap-front (own apart.0) (of_part connection taken.0) (own apart.1))

        counted : (n : ℕ) → parts_of n parts ≡ (if taken.0.job == n then 1 else 0) + parts_of n (apart.0 ++ apart.1)
        counted n =
            sym (sum_by-IsPermutation (λ (p : PartView). if p.job == n then 1 else 0) _ _ moved)
            ∙ count-cons (λ (p : PartView). p.job == n) taken.0 (apart.0 ++ apart.1)

        one-later : (at : ℕ) → at < length jobs → parts_of (suc first + at) (apart.0 ++ apart.1) ≡ 1
        one-later at l =
            let next : suc first + at ≡ first + suc at = omega arith in
            rw next (grind (arith, nat_tests, is_first, counted (first + suc at), one (suc at) (omega arith)))

        later : (p : PartView) → Contains (apart.0 ++ apart.1) p → IsOneOf seen lowered (suc first) jobs p
        later p k =
            by_number (are p (Contains-permutation _ _ p (IsPermutation-sym _ _ moved) (contains-later taken.0 _ p k)))
          where
            by_number : IsOneOf seen lowered first (job ∷ jobs) p → IsOneOf seen lowered (suc first) jobs p
            by_number (zero, j, e, got, h) =
                let here = eq-eqb p.job first (omega arith) in
                let again = some-count (λ (q : PartView). q.job == first) (apart.0 ++ apart.1) p k here in
                absurd (grind (arith, nat_tests, is_first, counted first, rw add-zero at (one 0 (omega arith))))
            by_number (suc at, j, e, got, h) = (at, j, omega arith, got, h)

-- what stands at a later place comes after
after-place : (x y : Finding) → y.place < x.place → comes_after x y ≡ true
after-place x y l = rw (sym (nat_cmp_is x.place y.place Greater l)) refl

-- an element of a list does not stand before one of which none does
after-none : (x : Finding) (ys : List Finding) (y : Finding) → NoneBefore comes_after comes_after_is x ys →
    Contains ys y → comes_after x y ≡ false
after-none x [] y o h = absurd (contains-none y h)
after-none x (z ∷ ys) y o h = ⊎_elim (λ same. rw same at o.0) (λ k. after-none x ys y o.1 k) (contains-cases z ys y h)

-- what comes after a finding that stops is cut
cut-put : (x y : Finding) (zs : List Finding) → IsInOrder comes_after comes_after_is zs → Contains zs y →
    stops y ≡ true → comes_after x y ≡ true → upto_stop (put_by comes_after x zs) ≡ upto_stop zs
cut-put x y [] o h s l = absurd (contains-none y h)
cut-put x y (z ∷ zs) o h s l = elim (contains-cases z zs y h) [
  | inl same ↦ (let here = rw (← same) at l in let stopping = rw (← same) at s in simp (here, stopping))
  | inr k ↦ rw (comes_after_is.above x z y l (after-none z zs y o.0 k))
      (ap (λ us. if stops z then z ∷ [] else z ∷ us) (cut-put x y zs o.1 k s l))
]

-- so it is with all that comes after it
pub cut-all : (xs ys : List Finding) →
    ((x : Finding) → Contains xs x → (place : ℕ) × StopsAt ys place × (place < x.place)) →
    upto_stop (in_order (xs ++ ys)) ≡ upto_stop (in_order ys)
cut-all [] ys h = refl
cut-all (x ∷ xs) ys h =
    let (place, (y, among, stopping, at), low) = h x (contains-here x xs) in
    cut-put x y (in_order (xs ++ ys)) (in_order-ordered comes_after comes_after_is (xs ++ ys))
    (contains-in_order (xs ++ ys) y (Contains-append_right xs ys y among)) stopping (after-place x y (omega arith))
    ∙ cut-all xs ys (λ z k. h z (contains-later x xs z k))

stops-left : (xs ys : List Finding) (place : ℕ) → StopsAt xs place → StopsAt (xs ++ ys) place
stops-left xs ys place h = (h.0, Contains-append_left xs ys h.0 h.1, h.2, h.3)

stops-right : (xs ys : List Finding) (place : ℕ) → StopsAt ys place → StopsAt (xs ++ ys) place
stops-right xs ys place h = (h.0, Contains-append_right xs ys h.0 h.1, h.2, h.3)

-- what a job of the connection finds is among all findings of its jobs
stops-job : (round : RoundView) (connection place : ℕ) → JobStopsAt round connection place →
    StopsAt (findings_of_jobs connection round.jobs) place
stops-job round connection place (job, among, is, (found, there, stopping, at)) =
    let own : Contains (of_job connection job) found = rw (eq-eqb job.connection connection is) there in
    (found, contains-flat_map (of_job connection) round.jobs job found among own, stopping, at)

module _ (round : RoundView) (board : Board) (settled : IsSettled round board) (connection : ℕ) (earlier : List Finding)
    (opening : IsLeast (StopsAt earlier) (stop_of round.opening_stops connection)) where
  abbrev whole : List Finding
  whole = findings_of_jobs connection round.jobs

  abbrev kept : List Finding
  kept = findings_of_parts connection board.parts

  parts : Leaves (IsBeyond board.seen connection) kept whole
  parts =
      whole-parts board.seen board.lowered connection 0 round.jobs board.parts
      (λ at l. rw zero-add (settled.one_part_each at l))
      (λ part h. let p = settled.parts_of_jobs part h in (part.job, p.0, omega arith, p.1, p.2))

  -- a place given is an error
  real : (place : ℕ) → IsGiven round board.lowered connection place → StopsAt (earlier ++ whole) place
  real place (inl e) = stops-left earlier whole place (rw e at opening).0
  real place (inr k) =
      stops-right earlier whole place (stops-job round connection place (settled.lowered_real connection place k))

  -- where a part stops was lowered
  lowered_part : (part : PartView) (found : Finding) → Contains board.parts part →
      Contains (of_part connection part) found → stops found ≡ true → Contains board.lowered (connection, found.place)
  lowered_part part found among own s =
      cond_both (part.connection == connection) part.findings []
      (λ fs. Contains fs found → Contains board.lowered (connection, found.place))
      (λ is there. rw (eqb-true part.connection connection is) at
      ((settled.parts_of_jobs part among).2.stops_lowered found.place (found, there, s, refl)))
      (λ _ none. absurd (contains-none found none)) own

  -- an error of all was kept, or was left out past a place that was given
  kept_or_past : (place : ℕ) → StopsAt (earlier ++ whole) place →
      StopsAt (earlier ++ kept) place ⊎ ((seen : ℕ) × (seen < place) × IsGiven round board.lowered connection seen)
  kept_or_past place (found, among, s, at) = elim (Contains-append_cases earlier whole found among) [
    | inl k ↦ inl (stops-left earlier kept place (found, k, s, at))
    | inr k ↦ elim (Contains-append_cases kept parts.left_out found
        (in_order-contains _ found (rw (sym parts.together) at (contains-in_order whole found k)))) [
          | inl own ↦ inl (stops-right earlier kept place (found, own, s, at))
          | inr out ↦ (let (seen, there, low) = parts.beyond found out in
              inr (seen, omega arith, settled.seen_given connection seen there))
        ]
  ]

  -- so at or before each error a place was given, and at or before each that was given an error was kept
  given_before : (place : ℕ) → StopsAt (earlier ++ kept) place →
      (least : ℕ) × (least ≤ place) × IsGiven round board.lowered connection least
  given_before place (found, among, s, at) = elim (Contains-append_cases earlier kept found among) [
    | inl k ↦ (let (least, is, _, low) = least-some (StopsAt earlier) _ place opening (found, k, s, at) in
        (least, low place (found, k, s, at), inl is))
    | inr k ↦ (let (part, there, own) = flat_map-contains (of_part connection) board.parts found k in
        (place, omega arith, inr (rw at at (lowered_part part found there own s))))
  ]

  kept_before : (place : ℕ) → IsGiven round board.lowered connection place →
      (least : ℕ) × (least ≤ place) × StopsAt (earlier ++ kept) least
  kept_before place g =
      let (least, _, first, low) = least-some (IsGiven round board.lowered connection) _ place
      (settled.stops_least connection) g in
      elim (kept_or_past least (real least first)) [
        | inl k ↦ (least, low place g, k)
        | inr (seen, before, given) ↦ (let not_before = low seen given in absurd (omega arith))
      ]

  -- what is left out lies past an error that was kept
  past_kept : (found : Finding) → Contains parts.left_out found →
      (place : ℕ) × StopsAt (earlier ++ kept) place × (place < found.place)
  past_kept found k =
      let (seen, there, low) = parts.beyond found k in
      let (least, before, stopping) = kept_before seen (settled.seen_given connection seen there) in
      (least, stopping, omega arith)

  -- so the board's stop is the least error of all, and of what was kept
  merges : Merges round board connection earlier
  merges =
      let is = settled.stops_least connection in
      let stop = stop_of board.stops connection in record {
        findings =
            sym (cut-all parts.left_out (earlier ++ kept) past_kept)
            ∙ ap upto_stop (in_order-append_comm parts.left_out (earlier ++ kept)
            ∙ ap in_order (append_assoc earlier kept parts.left_out)
            ∙ in_order-alike earlier earlier (kept ++ parts.left_out) whole refl parts.together);
        stop = least-moves (IsGiven round board.lowered connection) (StopsAt (earlier ++ whole)) stop
            (λ place g. (place, omega arith, real place g)) (λ place k. elim (kept_or_past place k) [
              | inl own ↦ given_before place own
              | inr (seen, low, given) ↦ (seen, omega arith, given)
            ])
            is;
        kept_stop = least-moves (IsGiven round board.lowered connection) (StopsAt (earlier ++ kept)) stop
            kept_before given_before is;
      }

pub board_merges_lem : BoardMerges
board_merges_lem = merges
