-- The stops of a desk one by one, that the board of a closed desk is settled, and its parts in the order of their jobs.
use Rattle.std.proofs.lemmas.List.{Elements.All-map, FromFn.get_or-map-range_with_len, FromFn.length-map-range_with_len}
use Rattle.std.proofs.lemmas.List.{get_or-drop, get_or-map, get_or_past, length-drop, length-map, Elements.All-contains}
use Rattle.{std.proofs.lemmas.List.Folds.fold-map, stop_desk.specs.code.Settling.HasSettled}
use Rattle.audit_terms.{proofs.LeastPlaces.least-some, specs.code.Stops.IsLeast}
use Rattle.stop_desk.{specs.code.Board.stop_of, specs.declared.settling.Settled.Settled}
use Rattle.stop_desk.proofs.RoundMembers.{contains-cases, contains-first, contains-got, contains-here, contains-later}
use Rattle.stop_desk.proofs.RoundMembers.{contains-map, contains-none, count-cons, count-some, map-contains, some-count}
use Rattle.stop_desk.proofs.Words.{All, Bool, ClosedView, Contains, Contains-permutation, DeskId, IsAllWorked, IsAtMost}
use Rattle.stop_desk.proofs.Words.{IsConnection, IsDeskSettled, IsLeastOnDesk, IsNonDecreasingBy, IsPermutation}
use Rattle.stop_desk.proofs.Words.{IsPermutation-map, IsPermutation-sym, IsStop, List, None, Option, Part, PassView}
use Rattle.stop_desk.proofs.Words.{Some, [], ap, arith, board_with, cases_lt, closed_of, cond_both, count_by, drop}
use Rattle.stop_desk.proofs.Words.{eqb-true, final_stop, get_or, get_or_from_slice_get, if◌then◌else◌, inl, inr, length}
use Rattle.stop_desk.proofs.Words.{ltb-true, map, marks, nat_tests, opening_stop, part_of, past_places, place_at}
use Rattle.stop_desk.proofs.Words.{range_with_len, refl, slice_get, slice_get_within, stops, subst, suc, AuditRound}
use Rattle.stop_desk.proofs.Words.{sum_by-IsPermutation, sym, zero, ℕ, ⊎_elim, ◌+◌, ◌<◌, ◌==◌, ◌∙◌, ◌∷◌, ◌≡◌, ◌≤◌, ◌⊎◌}
use Rattle.stop_desk.specs.code.{Board.Board, Crew.IsDone, Crew.last_stops, Crew.last_stops_from, Crew.opening_stops}
use Rattle.stop_desk.specs.code.Board.{IsGiven, IsPartOf, IsSettled, Job, PartView, RoundView, parts_of}

-- marks counted, and marks in a list
contains-marks : (c p : ℕ) (ms : List (ℕ × ℕ)) → Contains ms (c, p) → 0 < marks c p ms
contains-marks c p [] h = absurd (contains-none (c, p) h)
contains-marks c p (m ∷ ms) h = grind (arith, nat_tests, contains-cases m ms (c, p) h, contains-marks c p ms)

marks-contains : (c p : ℕ) (ms : List (ℕ × ℕ)) → 0 < marks c p ms → Contains ms (c, p)
marks-contains c p [] h = absurd (omega arith)
marks-contains c p (m ∷ ms) h =
    grind (arith, nat_tests, contains-first m ms (c, p), contains-later m ms (c, p), marks-contains c p ms)

-- the first word is the next number, and the others are stops
opening-at : (desk : DeskId) (c : ℕ) → IsConnection desk c → stop_of (opening_stops desk) c ≡ opening_stop desk c
opening-at desk c there =
    get_or-map place_at (drop 1 desk.opened) c 0 None (omega (arith, length-drop 1 desk.opened))
    ∙ ap place_at (get_or-drop 1 desk.opened c 0 ∙ ap (λ n. get_or desk.opened n 0) (omega arith))

opening-past : (desk : DeskId) (c : ℕ) → length desk.opened ≤ c + 1 → stop_of (opening_stops desk) c ≡ None
opening-past desk c past = get_or_past _ c None
    (omega (arith, length-map (drop 1 desk.opened) place_at, length-drop 1 desk.opened))

last_from-is : (closed : ClosedView) (first : ℕ) (words : List ℕ) →
    last_stops_from closed first words ≡ map (final_stop closed) (range_with_len first (length words))
last_from-is closed first [] = refl
last_from-is closed first (w ∷ ws) = ap (λ stops. final_stop closed first ∷ stops) (last_from-is closed (first + 1) ws)

pub last_stops-is : (closed : ClosedView) (count : ℕ) → length closed.desk.opened ≡ count + 1 →
    map (final_stop closed) (range_with_len 0 count) ≡ last_stops closed
last_stops-is closed count long =
    let same : count ≡ length (drop 1 closed.desk.opened) = omega (arith, length-drop 1 closed.desk.opened) in
    rw same (sym (last_from-is closed 0 (drop 1 closed.desk.opened)))

length-last_stops : (closed : ClosedView) → length (last_stops closed) ≡ length (drop 1 closed.desk.opened)
length-last_stops closed = ap length (last_from-is closed 0 _) ∙ length-map-range_with_len (final_stop closed) 0 _

final-at : (closed : ClosedView) (c : ℕ) (d : Option ℕ) → IsConnection closed.desk c →
    get_or (last_stops closed) c d ≡ final_stop closed c
final-at closed c d there = rw (last_from-is closed 0 (drop 1 closed.desk.opened))
    (get_or-map-range_with_len (final_stop closed) 0 _ c c d (omega (arith, length-drop 1 closed.desk.opened))
    (omega arith))

final-past : (closed : ClosedView) (c : ℕ) → length closed.desk.opened ≤ c + 1 → stop_of (last_stops closed) c ≡ None
final-past closed c past = get_or_past (last_stops closed) c None
    (omega (arith, length-last_stops closed, length-drop 1 closed.desk.opened))

-- each last stop is none or a place
last_stops-places : (closed : ClosedView) → All IsStop (last_stops closed)
last_stops-places closed = rw (last_from-is closed 0 (drop 1 closed.desk.opened)) (All-map IsStop (final_stop closed) _
    (λ k d lt. cond_both _ (Some _) None IsStop (λ e. ltb-true _ past_places e) (λ e. tt)))

at_most : (q : ℕ) (stop : Option ℕ) (place : ℕ) → stop ≡ Some place → IsAtMost q stop → q ≤ place
at_most q stop place e k = rw e at k

module _ {M : Type 0} (makes : ℕ → Option ℕ → M → Type 0) (jobs : List Job) (round : AuditRound) (whole : ℕ)
    (desk : DeskId) (all : All (λ (job : Job). IsConnection desk job.connection) jobs) (parts : List (Part M))
    (last : PassView) (words : List ℕ) (h : IsAllWorked makes jobs desk round whole parts last)
    (s : IsDeskSettled (closed_of desk words last.drawn last.seen last.lowered)) where
  abbrev closed : ClosedView
  closed = closed_of desk words last.drawn last.seen last.lowered

  abbrev Given : (connection place : ℕ) → Type 0
  Given connection place =
      IsGiven (record { jobs = jobs; opening_stops = opening_stops desk }) last.lowered connection place

  -- a number past all jobs was drawn, and so were all before it
  one-each : (job : ℕ) → job < length jobs → parts_of job (map part_of parts) ≡ 1
  one-each job lt = let (n, past, some) = h.1 in grind (arith, nat_tests, s.numbers n, s.numbers job, h.0.drawn job lt)

  parts-are : (part : PartView) → Contains (map part_of parts) part →
      (job : Job) × (slice_get jobs part.job ≡ Some job) × IsPartOf last.seen last.lowered job part
  parts-are part k =
      let (laid, among, is) = map-contains part_of parts part k in
      let l = h.0.laid laid among in
      subst (λ (p : PartView). (job : Job) × (slice_get jobs p.job ≡ Some job) × IsPartOf last.seen last.lowered job p)
      is (l.job, l.is_job, l.of_job)

  given-there : (c p : ℕ) → IsConnection desk c → (opening_stop desk c ≡ Some p) ⊎ (0 < marks c p last.lowered) →
      Given c p
  given-there c p there (inl e) = inl (opening-at desk c there ∙ e)
  given-there c p there (inr k) = inr (marks-contains c p last.lowered k)

  least-there : (c : ℕ) → IsConnection desk c → (stop : Option ℕ) → IsLeastOnDesk desk last.lowered c stop →
      IsLeast (Given c) stop
  least-there c there None l =
      λ place given. grind (arith, opening-at desk c there, contains-marks c place last.lowered, l.0, l.1 place)
  least-there c there (Some q) l = (
    given-there c q there l.2,
    λ place given. ⊎_elim (λ e. at_most q (opening_stop desk c) place (sym (opening-at desk c there) ∙ e) l.0)
        (λ k. l.1 place (contains-marks c place last.lowered k)) given,
  )

  -- of no other connection is there a place
  not-past : (c : ℕ) → length desk.opened ≤ c + 1 → (place : ℕ) → Given c place → ⊥
  not-past c past place (inl e) = (let no = sym (opening-past desk c past) ∙ e in cc)
  not-past c past place (inr k) =
      let (job, among, same, stops) = h.0.lowered_real c place k in
      let there = All-contains (λ (job : Job). IsConnection desk job.connection) jobs job all among in
      absurd (omega arith)

  least : (c : ℕ) → IsLeast (Given c) (stop_of (last_stops closed) c)
  least c = elim (cases_lt (c + 1) (length desk.opened)) [
    | inl there ↦ rw (final-at closed c None there) (least-there c there (final_stop closed c) (s.stops c there))
    | inr past ↦ rw (final-past closed c past) (not-past c past)
  ]

  pub done : IsDone makes jobs desk round parts closed
  done = record {
    desk_is = refl;
    board = record {
      one_part_each = one-each;
      parts_of_jobs = parts-are;
      lowered_real = h.0.lowered_real;
      seen_given = λ c p k. given-there c p (h.0.seen_there c p k) (s.given c p (contains-marks c p last.seen k));
      stops_least = least;
    };
    made = λ part k. (let l = h.0.laid part k in (l.in_round, l.made));
  }

-- elements that do not fall by number, one for each of `count` numbers from `first` on, have these numbers in turn
module _ {X : Type 0} (number : X → ℕ) where
  abbrev has : ℕ → X → Bool
  has n x = number x == n

  in-turn : (first count : ℕ) (xs : List X) → IsNonDecreasingBy number xs →
      ((x : X) → Contains xs x → (first ≤ number x) × (number x < first + count)) →
      ((n : ℕ) → first ≤ n → n < first + count → count_by (has n) xs ≡ 1) →
      (length xs ≡ count) × ((n : ℕ) (d : X) → n < length xs → number (get_or xs n d) ≡ first + n)
  in-turn first zero [] rise among once = (refl, λ n d lt. absurd (omega arith))
  in-turn first (suc count) [] rise among once = absurd (omega (arith, once first (omega arith) (omega arith)))
  in-turn first zero (x ∷ xs) rise among once = (let b = among x (contains-here x xs) in absurd (omega arith))
  in-turn first (suc count) (x ∷ xs) rise among once =
      let rest = in-turn (first + 1) count xs
      (λ i j d le lt. rise (suc i) (suc j) d (omega arith) (omega arith)) later once-later in
      (omega (arith, rest.0), places rest.1) where
        one : count_by (has first) (x ∷ xs) ≡ 1
        one = once first (omega arith) (omega arith)

        -- the one with the least number is not before the first
        head : number x ≡ first
        head =
            let (y, (k, lt, at), is) = count-some (has first) (x ∷ xs) (omega (arith, one)) in
            let same = ap number at ∙ eqb-true (number y) first is in
            omega (arith, rise 0 k y (omega arith) lt, (among x (contains-here x xs)).0)

        later : (y : X) → Contains xs y → (first + 1 ≤ number y) × (number y < first + 1 + count)
        later y k =
            let bounds = among y (contains-later x xs y k) in
            grind (arith, nat_tests, head, one, count-cons (has first) x xs, some-count (has first) xs y k)

        once-later : (n : ℕ) → first + 1 ≤ n → n < first + 1 + count → count_by (has n) xs ≡ 1
        once-later n low high =
            grind (arith, nat_tests, head, count-cons (has n) x xs, once n (omega arith) (omega arith))

        places : ((n : ℕ) (d : X) → n < length xs → number (get_or xs n d) ≡ first + 1 + n) → (n : ℕ) (d : X) →
            n < length (x ∷ xs) → number (get_or (x ∷ xs) n d) ≡ first + n
        places rest zero d lt = omega (arith, head)
        places rest (suc n) d lt = omega (arith, rest n d (omega arith))

-- a settled board is settled with its parts in another order
settled-moves : (round : RoundView) (board : Board) (parts : List PartView) → IsPermutation board.parts parts →
    IsSettled round board → IsSettled round (board_with parts board.seen board.lowered board.stops)
settled-moves round board parts moved s = record {
  one_part_each = λ job lt.
      sum_by-IsPermutation (λ (p : PartView). if p.job == job then 1 else 0) _ _ moved ∙ s.one_part_each job lt;
  parts_of_jobs = λ part k. s.parts_of_jobs part (Contains-permutation _ _ part (IsPermutation-sym _ _ moved) k);
  lowered_real = s.lowered_real;
  seen_given = s.seen_given;
  stops_least = s.stops_least;
}

module _ {M : Type 0} (makes : ℕ → Option ℕ → M → Type 0) (jobs : List Job) (desk : DeskId)
    (round : AuditRound) (parts : List (Part M)) (closed : ClosedView)
    (done : IsDone makes jobs desk round parts closed) where
  made-in : (sorted : List (Part M)) → IsPermutation parts sorted → (part : Part M) → Contains sorted part →
      (part.round ≡ round) × makes part.job part.upto part.made
  made-in sorted same part k =
      done.made part (Contains-permutation sorted parts part (IsPermutation-sym parts sorted same) k)

  -- each part is of the round
  pub in-round : (sorted : List (Part M)) → IsPermutation parts sorted → (part : Part M) → Contains sorted part →
      part.round ≡ round
  in-round sorted same part k = (made-in sorted same part k).0

  module _ (opening : List (Option ℕ)) (settled : Settled M) (opened : opening_stops desk ≡ opening)
      (same : IsPermutation parts settled.parts.items)
      (rise : IsNonDecreasingBy (λ (part : Part M). part.job) settled.parts.items)
      (stops_are : settled.stops.items ≡ last_stops closed) where
    abbrev sorted : List (Part M)
    sorted = settled.parts.items

    board : IsSettled (record { jobs = jobs; opening_stops = opening })
        (board_with (map part_of sorted) closed.seen closed.lowered settled.stops.items)
    board = simp stops_are (settled-moves _ _ _ (IsPermutation-map part_of parts sorted same) (rw opened at done.board))

    of-job : (part : Part M) → Contains sorted part →
        (job : Job) × (slice_get jobs part.job ≡ Some job) × IsPartOf closed.seen closed.lowered job (part_of part)
    of-job part k = board.parts_of_jobs (part_of part) (contains-map part_of sorted part k)

    in-order : (length sorted ≡ length jobs)
        × ((n : ℕ) (d : Part M) → n < length sorted → (get_or sorted n d).job ≡ 0 + n)
    in-order = in-turn (λ part. part.job) 0 (length jobs) sorted rise
        (λ part k. (let (job, got, right) = of-job part k in
        let lt = slice_get_within jobs part.job job got in (omega arith, omega arith)))
        (λ n low high. sym (fold-map _ part_of 0 sorted) ∙ board.one_part_each n (omega arith))

    pub has-settled : HasSettled makes jobs opening settled
    has-settled = record {
      seen = closed.seen;
      lowered = closed.lowered;
      board = board;
      count = in-order.0;
      in_order = λ n part e. (let at = in-order.1 n part (slice_get_within sorted n part e) in
          let is : part.job ≡ n = grind (arith, rw (get_or_from_slice_get sorted n part part e) at at) in
          (is, rw is at (made-in sorted same part (contains-got sorted n part e)).1));
      connections =
          ap length stops_are ∙ length-last_stops closed ∙ sym (length-map (drop 1 closed.desk.opened) place_at)
          ∙ ap (λ d. length (opening_stops d)) done.desk_is ∙ ap length opened;
      places = rw stops_are (last_stops-places closed);
      heeded = λ part k place e.
          (let given = board.seen_given part.connection place ((of-job part k).2.upto_seen place e) in
          let (least, is, _, low) = least-some _ _ place (board.stops_least part.connection) given in
          (least, is, low place given));
    }
