-- A job that is done, and what a worker has done after one draw more, and when no job is left.
use Rattle.std.proofs.Common.{Err, Global, IfOk, MatchResult, Ok, Result, Vec}
use Rattle.std.proofs.lemmas.List.{map-append, Elements.Contains-append_left, Elements.Contains-push_cases}
use Rattle.stop_desk.proofs.{RoundSteps.part-grows, Weights.weigh-append, Weights.weigh-snoc}
use Rattle.stop_desk.proofs.RoundMembers.{contains-filter, contains-flat_map, contains-got, contains-here}
use Rattle.stop_desk.proofs.RoundMembers.{contains-in_order, contains-map, contains-none, contains-one, count-cons}
use Rattle.stop_desk.proofs.RoundMembers.{filter-contains, flat_map-contains, in_order-contains, map-contains, pair}
use Rattle.stop_desk.proofs.Words.{All, Asked, Contains, Contains-append_cases, Contains-append_right, DeskId, DoesJob}
use Rattle.stop_desk.proofs.Words.{Draws, DrewJobs, Finding, IsAllWorked, IsClaim, IsConnection, IsLaid, IsLook}
use Rattle.stop_desk.proofs.Words.{IsWorked, List, Looked, None, Option, Part, PassView, Some, [], ap, append-nil}
use Rattle.stop_desk.proofs.Words.{append_assoc, arith, filter, flat_map, get_or, if◌then◌else◌, inl, inr, is_number}
use Rattle.stop_desk.proofs.Words.{joined, length, length-append, map, nat_tests, not, part_of, pass_draws, pass_of}
use Rattle.stop_desk.proofs.Words.{refl, slice_get, slice_get-get_or, stops, stops_on, subst, suc, sum_by-append, sym}
use Rattle.stop_desk.proofs.Words.{times, zero, ℕ, ⊎_elim, ◌++◌, ◌+◌, ◌<◌, ◌==◌, ◌∙◌, ◌∷◌, ◌≡◌, ◌≤◌, AuditRound}
use Rattle.audit_terms.specs.code.Stops.{StopsAt}
use Rattle.stop_desk.specs.code.Board.{IsCut, Job, PartView, parts_of}
use Rattle.stop_desk.specs.declared.claims.Claim.{Claim, TheVariants.Done, TheVariants.Job as Drawn, TheVariants.Spent}
use Rattle.stop_desk.specs.declared.desk_looks.DeskLook.{DeskLook}

-- an error of the connection is one of the places, and each of the places is one
contains-stops_on : (connection : ℕ) (findings : List Finding) (place : ℕ) → StopsAt findings place →
    Contains (stops_on connection findings) (connection, place)
contains-stops_on connection findings place (found, among, s, at) = rw at at
    (contains-map (λ (f : Finding). pair connection f.place) _ found (contains-filter stops findings found among s))

stops_on-contains : (connection : ℕ) (findings : List Finding) (c p : ℕ) →
    Contains (stops_on connection findings) (c, p) → (connection ≡ c) × StopsAt findings p
stops_on-contains connection findings c p h =
    let (found, among, at) = map-contains (λ (f : Finding). pair connection f.place) (filter stops findings) (c, p) h in
    let (there, stopping) = filter-contains stops findings found among in
    (ap (λ (x : ℕ × ℕ). x.0) at, (found, there, stopping, ap (λ (x : ℕ × ℕ). x.1) at))

-- what is kept of a job stops only where the job does
cut-stops : (whole : List Finding) (upto : Option ℕ) (kept : List Finding) (place : ℕ) → IsCut whole upto kept →
    StopsAt kept place → StopsAt whole place
cut-stops whole upto kept place cut (found, among, s, at) =
    let both = contains-in_order _ found (Contains-append_left kept cut.left_out found among) in
    (found, in_order-contains whole found (rw cut.together at both), s, at)

-- the places that looks at a connection answered
abbrev answer_on : ℕ → Option ℕ → List (ℕ × ℕ)
answer_on c None = []
answer_on c (Some place) = (c, place) ∷ []

abbrev pub answers_on : ℕ → List Asked → List (ℕ × ℕ)
answers_on c asked = flat_map (λ (one : Asked). answer_on c one.answer) asked

answer-on : (c d p : ℕ) (answer : Option ℕ) → Contains (answer_on c answer) (d, p) → c ≡ d
answer-on c d p None h = absurd (contains-none _ h)
answer-on c d p (Some place) h = ap (λ (x : ℕ × ℕ). x.0) (contains-one (pair c place) (pair d p) h)

-- the pass after these places were seen
abbrev pub saw_more : PassView → List (ℕ × ℕ) → PassView
saw_more pass more = pass_of pass.desk pass.allowance pass.drawn (pass.seen ++ more) pass.lowered

one-look : (c : ℕ) (before between : PassView) (answer : Option ℕ) (more : List (ℕ × ℕ)) →
    IsLook c before answer between → saw_more between more ≡ saw_more before (answer_on c answer ++ more)
one-look c before between None more look = rw look.0
one-look c before between (Some place) more look = rw (look.3, append_assoc before.seen)

-- what a look at a desk says
abbrev LooksAt : DeskLook → List Finding → Option ℕ → DeskLook → Type 0
LooksAt before found answer after = (after.connection ≡ before.connection) × (after.desk.now ≡ before.desk.now)
    × IsLook before.connection before.pass answer after.pass

pub watched : (before : DeskLook) (asked : List Asked) (after : DeskLook) → Looked LooksAt before asked after →
    after.pass ≡ saw_more before.pass (answers_on before.connection asked)
watched before [] after h = rw (append-nil before.pass.seen) (ap (λ (l : DeskLook). l.pass) (sym h))
watched before (first ∷ rest) after (between, (on, _, look), others) =
    rw on at (watched between rest after others)
    ∙ one-look before.connection before.pass between.pass first.answer (answers_on before.connection rest) look

pub no_job : Job
no_job = record { connection = 0; findings = [] }

abbrev pub job_at : List Job → ℕ → Job
job_at jobs n = get_or jobs n no_job

pub at-job : (jobs : List Job) (n : ℕ) → n < length jobs → slice_get jobs n ≡ Some (job_at jobs n)
at-job jobs n lt = slice_get-get_or jobs n no_job lt

pub job-there : (desk : DeskId) (jobs : List Job) (n connection : ℕ) → n < length jobs →
    All (λ (job : Job). IsConnection desk job.connection) jobs → connection ≡ (job_at jobs n).connection →
    IsConnection desk connection
job-there desk jobs n connection lt all e = subst (IsConnection desk) (sym e) (all n no_job lt)

module _ {M : Type 0} (makes : ℕ → Option ℕ → M → Type 0) (jobs : List Job) (round : AuditRound) (part : Part M)
    (lt : part.job < length jobs) (before : PassView)
    (all : All (λ (job : Job). IsConnection before.desk job.connection) jobs)
    (connection_is : part.connection ≡ (job_at jobs part.job).connection)
    (cut : IsCut (job_at jobs part.job).findings part.upto part.findings.items)
    (made : makes part.job part.upto part.made) (in_round : part.round ≡ round) (asked : List Asked)
    (answered : (place : ℕ) → part.upto ≡ Some place → (one : Asked) × Contains asked one × (one.answer ≡ Some place))
  where
    abbrev answers : List (ℕ × ℕ)
    answers = answers_on part.connection asked

    abbrev errors : List (ℕ × ℕ)
    errors = stops_on part.connection part.findings.items

    -- the pass after the looks, with the places lowered
    abbrev done : PassView
    done = pass_of before.desk before.allowance before.drawn (before.seen ++ answers) (before.lowered ++ errors)

    pub job-done : DoesJob makes jobs round part.job before part done
    job-done = (
      refl,
      record {
        kept = refl;
        seen_kept = λ c p. Contains-append_left before.seen answers (c, p);
        lowered_kept = λ c p. Contains-append_left before.lowered errors (c, p);
        seen_there = λ c p k. ⊎_elim inl (λ new. (let (one, among, is) = flat_map-contains _ asked (c, p) new in
            inr (job-there before.desk jobs part.job c lt all
            (sym (answer-on part.connection c p one.answer is) ∙ connection_is))))
            (Contains-append_cases before.seen answers (c, p) k);
        lowered_real = λ c p k. ⊎_elim inl (λ new. (let job = job_at jobs part.job in
            let (is, stopping) = stops_on-contains part.connection part.findings.items c p new in
            let among = contains-got jobs part.job job (at-job jobs part.job lt) in
            let whole = cut-stops job.findings part.upto part.findings.items p cut stopping in
            inr (job, among, sym connection_is ∙ is, whole))) (Contains-append_cases before.lowered errors (c, p) k);
      },
      record {
        in_round = in_round;
        made = made;
        job = job_at jobs part.job;
        is_job = at-job jobs part.job lt;
        of_job = record {
          of_connection = connection_is;
          cut = cut;
          upto_seen = λ place e. (let (one, among, is) = answered place e in
              Contains-append_right before.seen answers _
              (contains-flat_map _ asked one _ among (rw is (contains-here (pair part.connection place) []))));
          stops_lowered = λ place stops. Contains-append_right before.lowered errors _
              (contains-stops_on part.connection part.findings.items place stops);
        };
      },
    )

-- a list without a number
without : (n x : ℕ) (xs : List ℕ) → times x (filter (λ y. not (y == n)) xs) ≡ (if x == n then 0 else times x xs)
without n x [] = grind (arith, nat_tests)
without n x (y ∷ ys) = grind (arith, nat_tests, without n x ys)

length-without : (n : ℕ) (xs : List ℕ) → length (filter (λ y. not (y == n)) xs) + times n xs ≡ length xs
length-without n [] = omega arith
length-without n (y ∷ ys) = grind (arith, nat_tests, length-without n ys)

-- different numbers below a bound are at most so many
few-distinct : (n : ℕ) (xs : List ℕ) → ((x : ℕ) → n ≤ x → times x xs ≡ 0) → ((x : ℕ) → times x xs ≤ 1) → length xs ≤ n
few-distinct zero [] none once = omega arith
few-distinct zero (x ∷ xs) none once = absurd (grind (arith, nat_tests, none x))
few-distinct (suc n) xs none once =
    let rest = few-distinct n (filter (λ y. not (y == n)) xs)
    (λ x past. grind (arith, nat_tests, without n x xs, none x))
    (λ x. grind (arith, nat_tests, without n x xs, once x)) in
    omega (arith, once n, length-without n xs)

module _ {M : Type 0} (makes : ℕ → Option ℕ → M → Type 0) (jobs : List Job) (round : AuditRound) where
  -- a part stays one where more was seen and lowered
  laid-grows : {seen lowered seen' lowered' : List (ℕ × ℕ)} {part : Part M} →
      ((c p : ℕ) → Contains seen (c, p) → Contains seen' (c, p)) →
      ((c p : ℕ) → Contains lowered (c, p) → Contains lowered' (c, p)) →
      IsLaid makes jobs round seen lowered part → IsLaid makes jobs round seen' lowered' part
  laid-grows more less h = grind (arith, h, part-grows more less h.of_job)

  parts_of-append : (job : ℕ) (parts more : List (Part M)) →
      parts_of job (map part_of (parts ++ more)) ≡ parts_of job (map part_of parts) + parts_of job (map part_of more)
  parts_of-append job parts more = rw (map-append part_of parts more)
      (sum_by-append (λ (p : PartView). if p.job == job then 1 else 0) (map part_of parts) (map part_of more))

  -- one number more was drawn
  module _ (desk : DeskId) (whole : ℕ) (parts : List (Part M)) (before claimed : PassView) (n : ℕ)
      (h : IsWorked makes jobs desk round whole parts before) (draws : Draws before n claimed) where
    more-times : (x : ℕ) → times x claimed.drawn ≡ times x before.drawn + is_number x n
    more-times x = ap (λ (v : PassView). times x v.drawn) draws.added ∙ weigh-snoc (is_number x) before.drawn n

    same-whole : pass_draws claimed ≡ whole
    same-whole =
        let more = ap (λ (v : PassView). length v.drawn) draws.added in
        omega (arith, length-append before.drawn (n ∷ []), h.whole_is, draws.paid)

    -- a number past all jobs
    worked-past : length jobs ≤ n → IsAllWorked makes jobs desk round whole parts claimed
    worked-past past = (
      record {
        desk_is = rw draws.added h.desk_is;
        whole_is = same-whole;
        drawn = λ job lt. grind (arith, nat_tests, more-times job, h.drawn job lt);
        laid = rw draws.added h.laid;
        seen_there = rw draws.added h.seen_there;
        lowered_real = rw draws.added h.lowered_real;
      },
      (n, past, grind (arith, nat_tests, more-times n)),
    )

    -- a job, which is done
    pub worked-job : (part : Part M) (after : PassView) → n < length jobs →
        DoesJob makes jobs round n claimed part after → DrewJobs jobs before →
        IsWorked makes jobs desk round whole (parts ++ part ∷ []) after × DrewJobs jobs after
    worked-job part after lt (number, goes, laid) drew =
        let after-times : (x : ℕ) → times x after.drawn ≡ times x before.drawn + is_number x n
        = λ x. ap (λ (v : PassView). times x v.drawn) goes.kept ∙ more-times x in (
          record {
            desk_is = ap (λ (v : PassView). v.desk) goes.kept ∙ ap (λ (v : PassView). v.desk) draws.added ∙ h.desk_is;
            whole_is = ap pass_draws goes.kept ∙ same-whole;
            drawn = λ job l. (let more = parts_of-append job parts (part ∷ []) in
                let one = count-cons (λ (p : PartView). p.job == job) (part_of part) [] in
                grind (arith, nat_tests, after-times job, h.drawn job l, number));
            laid = λ other k. ⊎_elim (λ old. laid-grows goes.seen_kept goes.lowered_kept
                (rw draws.added (h.laid other old))) (λ new. rw new at laid) (Contains-push_cases parts part other k);
            seen_there = λ c p k. ⊎_elim (λ old. h.seen_there c p (rw draws.added at old))
                (λ there. rw (draws.added, h.desk_is) at there) (goes.seen_there c p k);
            lowered_real = λ c p k. ⊎_elim (λ old. h.lowered_real c p (rw draws.added at old)) (λ real. real)
                (goes.lowered_real c p k);
          },
          (grind (arith, nat_tests, after-times, drew.0), grind (arith, nat_tests, after-times, drew.1, draws.fresh)),
        )

  -- before the first draw
  pub worked-none : (desk : DeskId) (whole : ℕ) → IsWorked makes jobs desk round whole [] (pass_of desk whole [] [] [])
      × DrewJobs jobs (pass_of desk whole [] [] [])
  worked-none desk whole = grind (arith, contains-none)

  -- no job is left: a worker whose allowance is one more than the jobs never runs out of it
  pub worked-ends : (desk : DeskId) (count : ℕ) (parts : List (Part M)) (before after : PassView) (claim : Claim) →
      count ≡ length jobs → IsWorked makes jobs desk round (count + 1) parts before → DrewJobs jobs before →
      IsClaim count before claim after → ((n : ℕ) → claim ≡ Drawn n → ⊥) →
      IsAllWorked makes jobs desk round (count + 1) parts after
  worked-ends desk count parts before after Spent counted h drew is no_job =
      absurd (omega (arith, few-distinct (length jobs) before.drawn drew.0 drew.1, h.whole_is, is.0))
  worked-ends desk count parts before after (Drawn n) counted h drew is no_job = absurd (no_job n refl)
  worked-ends desk count parts before after Done counted h drew (n, past, draws) no_job =
      worked-past desk (count + 1) parts before after n h draws (omega arith)

  -- two groups of workers, taken together
  pub worked-both : (desk : DeskId) (one other : ℕ) (parts more : List (Part M)) (mine theirs joined : PassView) →
      IsAllWorked makes jobs desk round one parts mine → IsAllWorked makes jobs desk round other more theirs →
      joined ≡ pass_of mine.desk (mine.allowance + theirs.allowance) (mine.drawn ++ theirs.drawn)
      (mine.seen ++ theirs.seen) (mine.lowered ++ theirs.lowered) →
      IsAllWorked makes jobs desk round (one + other) (parts ++ more) joined
  worked-both desk one other parts more mine theirs joined (w, (n, past, some)) (v, _) is =
      rw is (
        record {
          desk_is = w.desk_is;
          whole_is = omega (arith, w.whole_is, v.whole_is, length-append mine.drawn theirs.drawn);
          drawn = λ job lt. (let both = parts_of-append job parts more in
              omega (arith, w.drawn job lt, v.drawn job lt, weigh-append (is_number job) mine.drawn theirs.drawn));
          laid = λ part l. elim (Contains-append_cases parts more part l) [
            | inl k ↦ laid-grows (λ c p. Contains-append_left mine.seen theirs.seen (c, p))
                (λ c p. Contains-append_left mine.lowered theirs.lowered (c, p)) (w.laid part k)
            | inr k ↦ laid-grows (λ c p. Contains-append_right mine.seen theirs.seen (c, p))
                (λ c p. Contains-append_right mine.lowered theirs.lowered (c, p)) (v.laid part k)
          ];
          seen_there = λ c p l. ⊎_elim (w.seen_there c p) (v.seen_there c p) (Contains-append_cases _ _ (c, p) l);
          lowered_real = λ c p l. ⊎_elim (w.lowered_real c p) (v.lowered_real c p) (Contains-append_cases _ _ (c, p) l);
        },
        (n, past, omega (arith, weigh-append (is_number n) mine.drawn theirs.drawn)),
      )

  -- the same of two groups, of which each may lack memory
  pub worked-together : {E : Type 0} (desk : DeskId) (first second whole : ℕ)
      (one other both : Result (Vec (Part M) Global × PassView) E) → first + second ≡ whole
      → IfOk one (λ m. IsAllWorked makes jobs desk round first m.0.items m.1)
      → IfOk other (λ t. IsAllWorked makes jobs desk round second t.0.items t.1)
      → IfOk both (λ r. MatchResult one (λ m. MatchResult other (λ t. (r.0.items ≡ m.0.items ++ t.0.items)
      × (r.1 ≡ pass_of m.1.desk (m.1.allowance + t.1.allowance) (m.1.drawn ++ t.1.drawn)
      (m.1.seen ++ t.1.seen) (m.1.lowered ++ t.1.lowered))) (λ _. ⊥)) (λ _. ⊥))
      → IfOk both (λ r. IsAllWorked makes jobs desk round whole r.0.items r.1)
  worked-together desk first second whole one other (Err e) sum w v is = tt
  worked-together desk first second whole (Ok m) (Ok t) (Ok r) sum w v is =
      rw (is.0, ← sum) (worked-both desk first second m.0.items t.0.items m.1 t.1 r.1 w v is.1)
  worked-together desk first second whole (Ok m) (Err e) (Ok r) sum w v is = absurd is
  worked-together desk first second whole (Err e) other (Ok r) sum w v is = absurd is
