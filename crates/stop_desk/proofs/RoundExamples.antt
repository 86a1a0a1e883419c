-- The worked examples of a round of two workers.
use Rattle.std.proofs.lemmas.List.Elements.{All-contains, All-from_recursion}
use Rattle.stop_desk.proofs.{RoundMembers.in_order-contains, RoundMembers.pair, RoundSteps.run_settles_lem}
use Rattle.stop_desk.proofs.RoundCuts.{front_is_cut_lem, whole_is_cut_lem}
use Rattle.stop_desk.proofs.RoundMembers.{contains-cases, contains-here, contains-in_order, contains-none, contains-one}
use Rattle.stop_desk.proofs.Words.{AllByRecursion, Contains, Finding, HasConnections, List, None, Some, [], ap, arith}
use Rattle.stop_desk.proofs.Words.{false, in_order, refl, stops, suc, sym, zero, ℕ, ⊎_elim, ◌<◌, ◌∙◌, ◌∷◌, ◌≡◌}
use Rattle.audit_terms.specs.code.Stops.{StopsAt}
use Rattle.stop_desk.specs.code.Board.{IsCut, IsPartOf, Job}
use Rattle.stop_desk.specs.examples.Rounds.{AllSkipped, CutUnseen, DrawnTwice, ErrorNotLowered, LookInvents}
use Rattle.stop_desk.specs.examples.Rounds.{OverrunLowered, TwoWorkersFinish, TwoWorkersSettle, error, example}
use Rattle.stop_desk.specs.examples.Rounds.{example_events, job, overrun, part}
use Rattle.stop_desk.specs.laws.Machine.{AreAllowed, IsFinished, after_events, round_start}

abbrev job_0 : Job
job_0 = job 0 (overrun 6 1 ∷ overrun 9 1 ∷ [])

abbrev job_1 : Job
job_1 = job 0 (error 7 3 ∷ overrun 8 3 ∷ [])

abbrev job_2 : Job
job_2 = job 1 (overrun 10 1 ∷ [])

-- the place of the error, seen and lowered
abbrev the_place : List (ℕ × ℕ)
the_place = (0, (error 7 3).place) ∷ []

-- no stop among these
none_stops : (xs : List Finding) (place : ℕ) → AllByRecursion (λ (x : Finding). stops x ≡ false) xs →
    StopsAt xs place → ⊥
none_stops xs place none (found, among, s, at) =
    let all = All-from_recursion (λ (x : Finding). stops x ≡ false) xs none in
    let off = All-contains (λ (x : Finding). stops x ≡ false) xs found all among in cc

-- of job 0, what lies past the error is left out
part_0 : IsPartOf the_place [] job_0 (part 0 0 (Some (error 7 3).place) (overrun 6 1 ∷ []))
part_0 = record {
  of_connection = refl;
  cut = front_is_cut_lem job_0.findings (error 7 3).place refl;
  upto_seen = λ place e. (let is : (error 7 3).place ≡ place = cc in (0, omega arith, ap (pair 0) is));
  stops_lowered = λ place h. absurd (none_stops (overrun 6 1 ∷ []) place (refl, tt) h);
}

-- of the other jobs all is kept, and an error was lowered
all-kept : (seen lowered : List (ℕ × ℕ)) (number : ℕ) (j : Job) → in_order j.findings ≡ j.findings →
    ((place : ℕ) → StopsAt j.findings place → Contains lowered (j.connection, place)) →
    IsPartOf seen lowered j (part number j.connection None j.findings)
all-kept seen lowered number j ordered stops_lowered =
    grind (arith, whole_is_cut_lem j.findings None ordered, stops_lowered)

part_1 : IsPartOf [] the_place job_1 (part 1 0 None job_1.findings)
part_1 = all-kept [] the_place 1 job_1 refl
    (λ place h. ⊎_elim (λ e. (0, omega arith, ap (pair 0) (ap (λ (x : Finding). x.place) e ∙ h.3)))
    (λ k. absurd (none_stops (overrun 8 3 ∷ []) place (refl, tt) (h.0, k, h.2, h.3)))
    (contains-cases (error 7 3) (overrun 8 3 ∷ []) h.0 h.1))

part_2 : IsPartOf the_place [] job_2 (part 2 1 None job_2.findings)
part_2 = all-kept the_place [] 2 job_2 refl (λ place h. absurd (none_stops job_2.findings place (refl, tt) h))

allowed : AreAllowed example (round_start example) example_events
allowed =
    pair refl (pair refl (pair refl (
      (1, job_1, ((0, omega arith, refl), refl), refl, refl, (error 7 3, (0, omega arith, refl), refl, refl)),
      pair refl (
        (job_0, ((1, omega arith, refl), refl), refl, part_0),
        pair refl (
          (job_1, ((1, omega arith, refl), refl), refl, part_1),
          pair refl ((job_2, ((1, omega arith, refl), refl), refl, part_2), pair refl tt),
        ),
      ),
    )))

finished : IsFinished example (after_events (round_start example) example_events)
finished zero l e = cc
finished (suc zero) l e = cc
finished (suc (suc zero)) l e = cc
finished (suc (suc (suc number))) l e = absurd (omega arith)

pub two_workers_finish : TwoWorkersFinish
two_workers_finish = record { allowed = allowed; finished = finished; left = refl }

connections : HasConnections example
connections = λ j h. All-contains (λ (k : Job). k.connection < 2) example.jobs j (All-from_recursion
    (λ (k : Job). k.connection < 2) example.jobs (pair (omega arith) (pair (omega arith) (pair (omega arith) tt)))) h

pub two_workers_settle : TwoWorkersSettle
two_workers_settle = run_settles_lem example connections example_events allowed finished

pub drawn_twice : DrawnTwice
drawn_twice h = let e = h.1.0 in absurd (omega arith)

pub look_invents : LookInvents
look_invents h = let e = h.1.0 in cc

pub cut_unseen : CutUnseen
cut_unseen (drawn, (drawn', (lowered, (finish, rest)))) =
    absurd (contains-none (pair 0 (error 7 3).place) (finish.3.upto_seen (error 7 3).place refl))

pub error_not_lowered : ErrorNotLowered
error_not_lowered (drawn, (drawn', (finish, rest))) =
    let lowered = finish.3.stops_lowered (error 7 3).place (error 7 3, (0, omega arith, refl), refl, refl) in
    absurd (contains-none (pair 0 (error 7 3).place) lowered)

-- what is left out of a part that is empty, and goes up to the error, lies past the error
skipped : (cut : IsCut job_0.findings (Some (error 7 3).place) []) → ⊥
skipped cut =
    let among = contains-in_order job_0.findings (overrun 6 1) (contains-here (overrun 6 1) (overrun 9 1 ∷ [])) in
    let past : (error 7 3).place < (overrun 6 1).place
    = cut.past (overrun 6 1) (in_order-contains cut.left_out (overrun 6 1) (rw cut.together among)) in
    absurd (omega arith)

pub all_skipped : AllSkipped
all_skipped (drawn, (drawn', (lowered, (seen, ((j, at_work, is, right), rest))))) =
    let same : j ≡ job_0 = cc in skipped (rw same at right.cut)

pub overrun_lowered : OverrunLowered
overrun_lowered (drawn, ((number, j, at_work, got, of_it, stopping), rest)) =
    let zeroth : number ≡ 0 = ap (λ (x : ℕ × ℕ). x.1) (sym (contains-one (pair 0 0) (pair 0 number) at_work.0)) in
    let first = rw zeroth at got in
    let same : j ≡ job_0 = cc in
    none_stops job_0.findings (overrun 6 1).place (pair refl (pair refl tt)) (rw same at stopping)

pub ruleset two_workers = (two_workers_finish, two_workers_settle)

pub ruleset refused = (drawn_twice, look_invents, cut_unseen, all_skipped, overrun_lowered, error_not_lowered)
