-- What the machine of workers keeps true after each event, from which a finished run is settled.
use Rattle.audit_terms.{proofs.LeastPlaces.least-more, proofs.LeastPlaces.least-moves, specs.code.Stops.IsLeast}
use Rattle.audit_terms.specs.code.Stops.{lesser_place}
use Rattle.stop_desk.{proofs.RoundMembers.contains-later}
use Rattle.stop_desk.proofs.{RoundMembers.own-all, Words.get_or-set_other, Words.get_or-set_same}
use Rattle.stop_desk.proofs.RoundMembers.{contains-cases, contains-each, contains-here, contains-none, contains-pair}
use Rattle.stop_desk.proofs.RoundMembers.{contains-got, contains-own, count-cons, count-some, map-contains, some-count}
use Rattle.stop_desk.proofs.Words.{Bool, List, None, Some, [], ap, inr, sym, ℕ, ◌<◌, ◌∙◌, ◌∷◌, ◌≡◌, ◌≤◌, ◌⊎◌}
use Rattle.stop_desk.proofs.Words.{Contains, Option, arith, eq-eqb, eqb-true, length, nat_tests, stops, subst, ◌==◌}
use Rattle.stop_desk.proofs.Words.{HasConnections, RunSettles, length-set, slice_get, slice_set, ℕ_discrete}
use Rattle.stop_desk.specs.code.Board.{IsGiven, IsPartOf, Job, JobStopsAt, PartView, RoundView, parts_of, stop_of}
use Rattle.stop_desk.specs.laws.Machine.{AreAllowed, RoundState, after_event, after_events, by_worker, round_start}
use Rattle.stop_desk.specs.laws.Machine.{Draw, Event, Finish, IsAllowed, IsAtWork, Look, Lower, by_all}

-- each number was drawn by one worker, and each job has at most one part, of its drawer
record AreDrawn (next : ℕ) (drawn : List (ℕ × ℕ)) (parts : List (ℕ × PartView)) : Type 0 where
  below : (worker number : ℕ) → Contains drawn (worker, number) → number < next
  by_one : (one other number : ℕ) → Contains drawn (one, number) → Contains drawn (other, number) → one ≡ other
  parts_drawn : (worker : ℕ) (part : PartView) → Contains parts (worker, part) → Contains drawn (worker, part.job)
  parts_once : (job : ℕ) → parts_of job (by_all parts) ≤ 1

-- each place is one that may be known, and each stop the least of them
record ArePlaces (round : RoundView) (seen lowered : List (ℕ × ℕ)) (stops : List (Option ℕ)) : Type 0 where
  lowered_right : (connection place : ℕ) → Contains lowered (connection, place) → JobStopsAt round connection place
  seen_right : (connection place : ℕ) → Contains seen (connection, place) → IsGiven round lowered connection place
  stops_right : (connection : ℕ) → IsLeast (IsGiven round lowered connection) (stop_of stops connection)
  wide : length stops ≡ length round.opening_stops

-- what holds at every moment of a run
record IsKept (round : RoundView) (state : RoundState) : Type 0 where
  draws : AreDrawn state.next state.drawn state.parts
  parts : (part : PartView) → Contains (by_all state.parts) part
      → (job : Job) × (slice_get round.jobs part.job ≡ Some job)
      × IsPartOf (by_all state.seen) (by_all state.lowered) job part
  places : ArePlaces round (by_all state.seen) (by_all state.lowered) state.stops

-- more places are known
abbrev Grows : List (ℕ × ℕ) → List (ℕ × ℕ) → Type 0
Grows xs ys = (connection place : ℕ) → Contains xs (connection, place) → Contains ys (connection, place)

pub part-grows : {seen lowered seen' lowered' : List (ℕ × ℕ)} {job : Job} {part : PartView} → Grows seen seen' →
    Grows lowered lowered' → IsPartOf seen lowered job part → IsPartOf seen' lowered' job part
part-grows s l h = grind (arith, s, l, h)

-- at the start
start-least : (round : RoundView) (connection : ℕ) (stop : Option ℕ) → stop_of round.opening_stops connection ≡ stop →
    IsLeast (IsGiven round [] connection) stop
start-least round connection None e = grind arith
start-least round connection (Some least) e = grind arith

start-kept : (round : RoundView) → IsKept round (round_start round)
start-kept round = grind (arith, contains-none, start-least round)

module _ (round : RoundView) (state : RoundState) (h : IsKept round state) where
  abbrev seen : List (ℕ × ℕ)
  seen = by_all state.seen

  abbrev lowered : List (ℕ × ℕ)
  lowered = by_all state.lowered

  -- a number is drawn
  draw-kept : (worker number : ℕ) → number ≡ state.next → IsKept round (after_event state (Draw worker number))
  draw-kept worker number e =
      let cases = contains-cases (worker, number) state.drawn in
      let d = h.draws in record {
        draws = record {
          below = λ w n k. grind (arith, cases (w, n) k, d.below w n);
          by_one = λ v w n j k. grind (arith, cases (v, n) j, cases (w, n) k, d.below v n, d.below w n, d.by_one v w n);
          parts_drawn = λ w part k. contains-later _ state.drawn _ (d.parts_drawn w part k);
          parts_once = d.parts_once;
        };
        parts = h.parts;
        places = h.places;
      }

  -- a stop is seen
  look-kept : (worker connection : ℕ) (stop : Option ℕ) → stop ≡ stop_of state.stops connection →
      IsKept round (after_event state (Look worker connection stop))
  look-kept worker connection None e = h
  look-kept worker connection (Some place) e = record {
    draws = h.draws;
    parts = λ part k. (let (job, is, right) = h.parts part k in
        (job, is, part-grows (λ c q l. contains-later (connection, place) seen (c, q) l) (λ c q l. l) right));
    places = record {
      lowered_right = h.places.lowered_right;
      seen_right = contains-pair connection place seen (IsGiven round lowered)
          (rw (← e) at (h.places.stops_right connection)).0 h.places.seen_right;
      stops_right = h.places.stops_right;
      wide = h.places.wide;
    };
  }

  -- a stop is lowered
  module _ (worker connection place : ℕ) (real : JobStopsAt round connection place)
      (within : connection < length round.opening_stops) where
    abbrev now : List (ℕ × ℕ)
    now = (connection, place) ∷ lowered

    given-more : (c q : ℕ) → IsGiven round lowered c q → IsGiven round now c q
    given-more c q given = grind (arith, given, contains-later (connection, place) lowered (c, q))

    given-cases : (c q : ℕ) → IsGiven round now c q → ((connection ≡ c) × (place ≡ q)) ⊎ IsGiven round lowered c q
    given-cases c q given = grind (arith, contains-cases (connection, place) lowered (c, q))

    stops-least : (c : ℕ) → IsLeast (IsGiven round now c)
        (stop_of (slice_set state.stops connection (lesser_place (stop_of state.stops connection) (Some place))) c)
    stops-least c = elim (ℕ_discrete connection c) [
      | yes same ↦ (let wide : connection < length state.stops = omega (arith, h.places.wide) in
          rw (← same) (rw (get_or-set_same state.stops connection _ None wide)
          (least-more (IsGiven round lowered connection) _ _ place (given-more connection)
          (inr (contains-here (connection, place) lowered))
          (λ q k. grind (arith, given-cases connection q k)) (h.places.stops_right connection))))
      | no other ↦ rw (get_or-set_other state.stops connection c _ None (λ e. other (sym e)))
          (least-moves (IsGiven round lowered c) _ _ (λ q k. (q, omega arith, given-more c q k))
          (λ q k. (q, omega arith, grind (arith, given-cases c q k, other))) (h.places.stops_right c))
    ]

    lower-kept : IsKept round (after_event state (Lower worker connection place))
    lower-kept = record {
      draws = h.draws;
      parts = λ part k. (let (job, is, right) = h.parts part k in
          (job, is, part-grows (λ c q l. l) (λ c q l. contains-later (connection, place) lowered (c, q) l) right));
      places = record {
        lowered_right = contains-pair connection place lowered (JobStopsAt round) real h.places.lowered_right;
        seen_right = λ c q k. given-more c q (h.places.seen_right c q k);
        stops_right = stops-least;
        wide = length-set state.stops connection _ ∙ h.places.wide;
      };
    }

  -- a job is finished
  module _ (worker : ℕ) (part : PartView) (job : Job) (work : IsAtWork state worker part.job)
      (is_job : slice_get round.jobs part.job ≡ Some job)
      (is_part : IsPartOf (by_worker worker state.seen) (by_worker worker state.lowered) job part) where
    abbrev of_it : PartView → Bool
    of_it other = other.job == part.job

    -- nobody has finished it: who did would have drawn it, and so is its drawer, who has not
    unfinished : 0 < parts_of part.job (by_all state.parts) → ⊥
    unfinished some =
        let (found, among, is) = count-some of_it (by_all state.parts) some in
        let ((other, laid), there, same) = map-contains (λ (e : ℕ × PartView). e.1) state.parts found among in
        let number : laid.job ≡ part.job = ap (λ (p : PartView). p.job) same ∙ eqb-true found.job part.job is in
        let who : other ≡ worker = h.draws.by_one other worker part.job
        (rw number at (h.draws.parts_drawn other laid there)) work.0 in
        let own = contains-own worker state.parts laid (subst (λ w. Contains state.parts (w, laid)) who there) in
        let one = some-count of_it (by_worker worker state.parts) laid own (eq-eqb laid.job part.job number) in
        let none = work.1 in
        omega arith

    once : (number : ℕ) → parts_of number (part ∷ by_all state.parts) ≤ 1
    once number =
        let none : parts_of part.job (by_all state.parts) ≡ 0 = omega (arith, unfinished) in
        let old = h.draws.parts_once number in
        grind (arith, nat_tests, count-cons (λ (p : PartView). p.job == number) part (by_all state.parts))

    finish-kept : IsKept round (after_event state (Finish worker part))
    finish-kept = record {
      draws = grind (arith, contains-cases (worker, part) state.parts, h.draws, work.0, once);
      parts =
          (let of_all = part-grows (λ c q. own-all worker state.seen (c, q))
          (λ c q. own-all worker state.lowered (c, q)) is_part in
          contains-each part (by_all state.parts) _ (job, is_job, of_all) h.parts);
      places = h.places;
    }

event-kept : (round : RoundView) → HasConnections round → (state : RoundState) (event : Event) →
    IsAllowed round state event → IsKept round state → IsKept round (after_event state event)
event-kept round has state (Draw worker number) a h = draw-kept round state h worker number a
event-kept round has state (Look worker connection stop) a h = look-kept round state h worker connection stop a
event-kept round has state (Lower worker connection place) (number, job, work, is, of_it, stops) h =
    let among = contains-got round.jobs number job is in
    lower-kept round state h worker connection place (job, among, of_it, stops) (rw of_it at (has job among))
event-kept round has state (Finish worker part) a h = finish-kept round state h worker part a.0 a.1 a.2 a.3

events-kept : (round : RoundView) → HasConnections round → (state : RoundState) (events : List Event) →
    AreAllowed round state events → IsKept round state → IsKept round (after_events state events)
events-kept round has state [] a h = h
events-kept round has state (event ∷ events) a h =
    events-kept round has (after_event state event) events a.1 (event-kept round has state event a.0 h)

pub run_settles_lem : RunSettles
run_settles_lem round has events allowed finished =
    let h = events-kept round has (round_start round) events allowed (start-kept round) in record {
      one_part_each = λ job l. omega (arith, finished job l, h.draws.parts_once job);
      parts_of_jobs = h.parts;
      lowered_real = h.places.lowered_right;
      seen_given = h.places.seen_right;
      stops_least = h.places.stops_right;
    }
