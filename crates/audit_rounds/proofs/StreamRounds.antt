-- The round over streams: what it begins from, its plan, what is said of the jobs of a connection, and what it leaves.
use Rattle.audit_rounds.proofs.Words.{◌≡◌, ℕ, zero, suc, ◌+◌, ◌*◌, ◌-◌, ◌^◌, ◌<◌, ◌≤◌, ◌==◌, Bool, not, if◌then◌else◌}
use Rattle.audit_rounds.proofs.Words.{List, [], ◌∷◌, ◌++◌, length, map, flat_map, get_or, slice_get, All, Option, Some}
use Rattle.audit_rounds.proofs.Words.{None, refl, sym, ap, ◌∙◌, arith, append-nil, Vec, Global, AllByRecursion}
use Rattle.audit_rounds.proofs.Words.{flat_map-append, nat_tests, All-map, All-filter, All-contains, slice_get_within}
use Rattle.audit_rounds.proofs.Words.{Frame, Finding, initial_in_force, settings_run, no_previous, local_run}
use Rattle.audit_rounds.proofs.Words.{streams_of, length-orderly, StreamRow, groups, IsStop, Prepared, Streams}
use Rattle.audit_rounds.proofs.Words.{StreamJob, IsPrepared, found_before, IsReady, IsJobOf, job_at, plan_from}
use Rattle.audit_rounds.proofs.Words.{IsFirstStop, IsRow, true, filter, subst, list_any, length-map, get_or-map}
use Rattle.audit_rounds.proofs.Words.{slice_get-get_or, get_or_from_slice_get, list_any-IsPermutation, All-head}
use Rattle.audit_rounds.proofs.Words.{All-tail, Change, shown, changes_of, frames_of, stream_run, stream_at_end}
use Rattle.audit_rounds.proofs.Words.{option_to_list, frames_at, Job, StopsAt, IsLeast, findings_of_jobs}
use Rattle.audit_rounds.proofs.Words.{findings_of_parts, board_merges_lem, Part, Settled, part_of, openings_of}
use Rattle.audit_rounds.proofs.Words.{streams_shown, Reaches, AgreeWithin, IsAfterStreams, numbers_told, IsInOrder}
use Rattle.audit_rounds.proofs.Words.{HasTaken, IsClosed, job_of, of_rows, rows_opened, findings_in, PerConnection}
use Rattle.audit_rounds.proofs.Words.{BeginsRounds, AreStreamsOf}
use Rattle.std.proofs.lemmas.List.{map-id}
use Rattle.std.proofs.lemmas.List.Elements.{All-from_recursion}
use Rattle.std.specs.List.{between}
use Rattle.std.proofs.lemmas.List.Folds.{flat_map-map}
use Rattle.audit_terms.proofs.FindingLists.{each-append}
use Rattle.audit_terms.proofs.SaidPlaces.{AreWithin, at-local, at-settings}
use Rattle.audit_core.proofs.PassOrder.{streams-streams_of}
use Rattle.split_merge.specs.code.Groups.{AreConsecutive}
use Rattle.split_merge.proofs.GroupRanges.{groups-consecutive, groups-joined}
use Rattle.stop_desk.specs.code.Stop.{IsPlace}
use Rattle.split_merge.specs.code.Split.{opening_of, row_positions}
use Rattle.stop_desk.specs.code.Board.{stop_of}
use Rattle.stop_desk.specs.code.Laid.{board_with}
use Rattle.audit_rounds.specs.code.Gathered.{AreClosed, AreGathered}
use Rattle.audit_rounds.specs.code.StreamRound.{AreThroughStreams, StreamsHaveSettled}
use Rattle.audit_rounds.specs.code.Streams.{row_frames, shown_of}
use Rattle.audit_rounds.proofs.Lists.{all-alike, as-many, maps-each, some_of, stop_in}
use Rattle.audit_rounds.proofs.Batches.{length-rows}
use Rattle.audit_rounds.proofs.Rounds.{local-each, settings-each}
use Rattle.split_merge.proofs.Ahead.{orderly-of, acknowledged-of}
use Rattle.audit_rounds.proofs.Jobs.{job-is}
use Rattle.audit_rounds.proofs.Openings.{agree-append, agree-parted, agree-reached}

-- ---- the plan

-- the groups of the rows of a connection
abbrev pub groups_of : (count : ℕ) → Streams → List (ℕ × ℕ)
groups_of count streams = groups (length streams.of.now.split.rows.items) count

module _ (count : ℕ) (some : 1 ≤ count) (all : List Streams) where
  -- the ranges of a connection lie within its rows
  ranges-planned : (at : ℕ) (one : Streams) → slice_get all at ≡ Some one → (from : ℕ) (ranges : List (ℕ × ℕ))
      → AreConsecutive from (length one.of.now.split.rows.items) ranges
      → (from ≤ length one.of.now.split.rows.items) × AllByRecursion (IsJobOf all) (map (job_at at) ranges)
  ranges-planned at one here from [] h = (omega arith, tt)
  ranges-planned at one here from (range ∷ ranges) (first, rising, later) =
      let rest = ranges-planned at one here range.1 ranges later in
      let own : IsJobOf all (job_at at range) = record {
        connection = slice_get_within all at one here;
        rising = rising;
        within = λ streams there. let same : one ≡ streams = cc in rw (← same) rest.0;
      } in
      (omega arith, (own, rest.1))

  planned-from : (at : ℕ) (rest : List Streams) → ((n k : ℕ) → n ≡ at + k → slice_get all n ≡ slice_get rest k)
      → AllByRecursion (IsJobOf all) (plan_from count at rest)
  planned-from at [] e = tt
  planned-from at (one ∷ rest) e =
      let number = length one.of.now.split.rows.items in
      each-append (IsJobOf all) (map (job_at at) (groups number count)) _
      (ranges-planned at one (e at 0 (omega arith)) 0 (groups number count) (groups-consecutive number count some)).1
      (planned-from (at + 1) rest (λ n k l. e n (suc k) (omega arith)))

  -- each job is a range of rows that are there
  pub planned : All (IsJobOf all) (plan_from count 0 all)
  planned = All-from_recursion (IsJobOf all) (plan_from count 0 all)
      (planned-from 0 all (λ n k l. ap (slice_get all) (let same : n ≡ k = omega arith in same)))

-- and is of one of so many connections
pub jobs-inside : (count : ℕ) → 1 ≤ count → (frames_shown : Bool) (all : List Streams) (bound : ℕ) → length all ≡ bound
    → All (λ (job : Job). job.connection < bound) (map (job_of frames_shown all) (plan_from count 0 all))
jobs-inside count some frames_shown all bound e =
    All-map (λ (job : Job). job.connection < bound) (job_of frames_shown all) (plan_from count 0 all)
    (λ n d l. let own = (planned count some all n d l).connection in omega (arith, own, e))

-- what is said of a job, where it is of this connection
abbrev pub of_connection : {X : Type 0} → (StreamJob → List X) → (connection : ℕ) → StreamJob → List X
of_connection said connection job = if job.connection == connection then said job else []

module _ {X : Type 0} (said : StreamJob → List X) (n count : ℕ) where
  -- what is said of the jobs of connection n
  abbrev all_said : List StreamJob → List X
  all_said jobs = flat_map (of_connection said n) jobs

  of-jobs : (at : ℕ) (ranges : List (ℕ × ℕ)) → all_said (map (job_at at) ranges)
      ≡ (if at == n then flat_map (λ (range : ℕ × ℕ). said (job_at at range)) ranges else [])
  of-jobs at [] = grind arith
  of-jobs at (range ∷ ranges) = grind (arith, of-jobs at ranges)

  -- the jobs of the first connection, and those of the later ones
  of-more : (at : ℕ) (one : Streams) (rest : List Streams) → all_said (plan_from count at (one ∷ rest))
      ≡ (if at == n then flat_map (λ (range : ℕ × ℕ). said (job_at at range)) (groups_of count one) else [])
      ++ all_said (plan_from count (at + 1) rest)
  of-more at one rest =
      flat_map-append (of_connection said n) (map (job_at at) (groups_of count one)) (plan_from count (at + 1) rest)
      ∙ ap (λ l. l ++ all_said (plan_from count (at + 1) rest)) (of-jobs at (groups_of count one))

  -- later connections have no job of an earlier one
  none-later : (at : ℕ) (rest : List Streams) → n < at → all_said (plan_from count at rest) ≡ []
  none-later at [] h = refl
  none-later at (one ∷ rest) h = grind (arith, nat_tests, of-more at one rest, none-later (at + 1) rest (omega arith))

  -- what is said of the jobs of one connection is said of its groups
  pub of-plan : (at k : ℕ) (rest : List Streams) (one : Streams) → slice_get rest k ≡ Some one → at + k ≡ n
      → all_said (plan_from count at rest)
      ≡ flat_map (λ (range : ℕ × ℕ). said (job_at n range)) (groups_of count one)
  of-plan at k [] one e l = cc
  of-plan at zero (first ∷ rest) one e l =
      let same : at ≡ n = omega arith in
      let is : first ≡ one = cc in
      let own = flat_map (λ (range : ℕ × ℕ). said (job_at n range)) (groups_of count one) in
      let none = none-later (at + 1) rest (omega arith) in
      let alone = append-nil own in
      rw (of-more at first rest, none, is, same) (grind (arith, nat_tests, alone))
  of-plan at (suc k) (first ∷ rest) one e l =
      let later = of-plan (at + 1) k rest one e (omega arith) in
      grind (arith, nat_tests, of-more at first rest, later)

-- ---- the streams of connections that are prepared are ready

-- the rows of a split, and at most two for each frame
module _ (frames_shown : Bool) (streams : Streams) (p : IsPrepared frames_shown streams.of.now)
    (same : streams.changes ≡ streams.of.now.changes.items) where
  abbrev rows_of : List StreamRow
  rows_of = streams.of.now.split.rows.items

  rows-are : All (IsRow streams) rows_of
  rows-are k d l =
      let row = get_or rows_of k d in
      let own = p.split.each k d l in
      let frames = streams.of.now.frames.now in
      let IsSmall = λ (stream : ℕ). stream < 2 ^ 31 in
      record {
        range = p.split.ranges k d l;
        in_range = all-alike (λ (row : StreamRow). row.stream) (λ stream. stream) IsSmall rows_of _
            (p.split.streams ∙ sym (map-id _)) (All-filter (λ stream. not (p.split.is_quiet stream)) IsSmall
            (streams_of frames)
            (All-from_recursion IsSmall (streams_of frames) (streams-streams_of 0 frames p.orderly))) k d l;
        within = own.within;
        orderly = rw own.frames (orderly-of row.stream frames p.orderly);
        acknowledged = rw (own.frames, same) (acknowledged-of row.stream frames streams.of.now.changes.items
            p.acknowledged);
      }

  few-rows : length rows_of < 2 ^ 32
  few-rows =
      let of = streams.of.now in
      let rows = length-rows frames_shown of.changes.items of.frames.now of.split p.split in
      let frames = length-orderly 0 of.frames.now (omega arith) p.orderly in
      omega (arith, rows, frames)

  ready-one : IsReady streams
  ready-one = record { changes = rw same p.changes_orderly; rows = rows-are; counted = few-rows }

module _ (frames_shown : Bool) (connections : List PerConnection) (streams : List Streams)
    (begins : All (BeginsRounds frames_shown) connections) (are : AreStreamsOf connections streams) where
  prepared-each : All (λ (streams : Streams). IsPrepared frames_shown streams.of.now) streams
  prepared-each = all-alike (λ (streams : Streams). streams.of.now) (λ (one : PerConnection). one.prepared)
      (IsPrepared frames_shown) streams connections are.of (λ n d l. (begins n d l).prepared)

  pub ready-each : All IsReady streams
  ready-each n d l = ready-one frames_shown (get_or streams n d) (prepared-each n d l) (are.changes n d l)

-- ---- the stops that connections begin with are places

abbrev IsBelow : Finding → Type 0
IsBelow found = IsPlace found.place

at-below : (number : ℕ) (found : List Finding) → number < 2 ^ 28 - 1
    → AreWithin (number * 2 ^ 36) (number * 2 ^ 36 + 2 ^ 36) found → AllByRecursion IsBelow found
at-below number [] l h = tt
at-below number (one ∷ found) l h = (omega arith, at-below number found l h.2)

before-below : (frames_shown : Bool) (connection : Prepared) → IsPrepared frames_shown connection
    → All IsBelow (found_before connection)
before-below frames_shown connection p =
    let frames = connection.frames.now in
    All-from_recursion IsBelow (found_before connection)
    (each-append IsBelow (local_run frames) (settings_run frames)
    (local-each IsBelow (λ previous frame r. at-below frame.number _ r.number (at-local frame r.stream previous).within)
    no_previous 0 frames p.orderly)
    (settings-each IsBelow (λ now frame r. at-below frame.number _ r.number (at-settings frame r.stream now).within)
    initial_in_force 0 frames p.orderly))

stop-place : (found : List Finding) (stop : Option ℕ) → All IsBelow found → IsFirstStop found stop → IsStop stop
stop-place found None h is = tt
stop-place found (Some place) h ((one, there, stopping, at), least) =
    rw at at (All-contains IsBelow found one h there)

pub stops-are-places : (frames_shown : Bool) (connections : List PerConnection)
    → All (BeginsRounds frames_shown) connections → All IsStop (map stop_in connections)
stops-are-places frames_shown connections begins = All-map IsStop stop_in connections (λ n d l.
    let one = begins n d l in
    stop-place (found_before (get_or connections n d).prepared) (get_or connections n d).stop
    (before-below frames_shown (get_or connections n d).prepared one.prepared) (rw one.found at one.stop))

-- ---- joined lists

-- what is joined twice
flat_map-flat_map : {X Y Z : Type 0} (f : Y → List Z) (g : X → List Y) (xs : List X)
    → flat_map (λ x. flat_map f (g x)) xs ≡ flat_map f (flat_map g xs)
flat_map-flat_map f g [] = refl
flat_map-flat_map f g (x ∷ xs) = rw (flat_map-append f (g x) (flat_map g xs), flat_map-flat_map f g xs)

-- what is joined by a key alone
flat_map-by : {X Y Z : Type 0} (f : X → List Z) (g : Y → List Z) (key : X → Y) (xs : List X)
    → All (λ x. f x ≡ g (key x)) xs → flat_map f xs ≡ flat_map g (map key xs)
flat_map-by f g key [] h = refl
flat_map-by f g key (x ∷ xs) h =
    rw (All-head (λ x. f x ≡ g (key x)) x xs h, flat_map-by f g key xs (All-tail (λ x. f x ≡ g (key x)) x xs h))

-- where nothing is said of quiet streams they may be left out
flat_map-kept : {X : Type 0} (said : ℕ → List X) (quiet : ℕ → Bool) (streams : List ℕ)
    → All (λ stream. quiet stream ≡ true → said stream ≡ []) streams
    → flat_map said (filter (λ stream. not (quiet stream)) streams) ≡ flat_map said streams
flat_map-kept said quiet [] h = refl
flat_map-kept said quiet (stream ∷ streams) h =
    let none = All-head (λ stream. quiet stream ≡ true → said stream ≡ []) stream streams h in
    let rest = flat_map-kept said quiet streams (All-tail (λ stream. quiet stream ≡ true → said stream ≡ []) stream
    streams h) in
    grind arith

-- ---- what the parts tell of openings

-- a part tells the openings of its job, up to the stop of its connection at least
record Tells (stops : List (Option ℕ)) (openings : StreamJob → List ℕ) (part : Part (Vec ℕ Global)) (job : StreamJob)
    : Type 0 where
  connection : part.connection ≡ job.connection
  agree : AgreeWithin (stop_of stops part.connection) part.made.items (openings job)

-- so the parts of a connection tell those of its jobs
agree-parts : (stops : List (Option ℕ)) (openings : StreamJob → List ℕ) (n : ℕ) (parts : List (Part (Vec ℕ Global)))
    (plan : List StreamJob) → length parts ≡ length plan
    → ((k : ℕ) (part : Part (Vec ℕ Global)) (job : StreamJob) → slice_get parts k ≡ Some part
    → slice_get plan k ≡ Some job → Tells stops openings part job)
    → AgreeWithin (stop_of stops n) (numbers_told n parts) (flat_map (of_connection openings n) plan)
agree-parts stops openings n [] [] l h = λ number e. refl
agree-parts stops openings n [] (job ∷ plan) l h = absurd (omega arith)
agree-parts stops openings n (part ∷ parts) [] l h = absurd (omega arith)
agree-parts stops openings n (part ∷ parts) (job ∷ plan) l h =
    agree-append (stop_of stops n) (if part.connection == n then part.made.items else [])
    (of_connection openings n job) (numbers_told n parts) (flat_map (of_connection openings n) plan)
    (λ number e.
    let first = h 0 part job refl refl in
    let same = first.connection in
    let agree = first.agree number in
    grind (arith, nat_tests))
    (agree-parts stops openings n parts plan (omega arith) (λ k. h (suc k)))

-- a run that went up to a place at or past the stop reached it
reaches : (upto stop : Option ℕ) → ((place : ℕ) → upto ≡ Some place → (s : ℕ) × (stop ≡ Some s) × (s ≤ place))
    → Reaches upto stop
reaches None stop h = tt
reaches (Some place) stop h = let (s, is, low) = h place refl in rw is low

-- ---- a settled round over connections that are ready

pub stops-long : {frames_shown : Bool} {count : ℕ} {connections : List PerConnection} {settled : Settled (Vec ℕ Global)}
    → StreamsHaveSettled frames_shown count connections settled → length settled.stops.items ≡ length connections
stops-long {connections = connections} h = h.done.connections ∙ length-map connections stop_in

module _ (frames_shown : Bool) (count : ℕ) (some : 1 ≤ count) (connections : List PerConnection)
    (begins : All (BeginsRounds frames_shown) connections)
    (settled : Settled (Vec ℕ Global)) (h : StreamsHaveSettled frames_shown count connections settled) where
  abbrev streams : List Streams
  streams = h.streams

  abbrev plan : List StreamJob
  plan = plan_from count 0 streams

  abbrev jobs : List Job
  jobs = map (job_of frames_shown streams) plan

  abbrev parts : List (Part (Vec ℕ Global))
  parts = settled.parts.items

  abbrev stops : List (Option ℕ)
  stops = settled.stops.items

  as_many : length streams ≡ length connections
  as_many = as-many (λ (streams : Streams). streams.of.now) (λ (one : PerConnection). one.prepared) streams connections
      h.of.of

  part-tells : (n : ℕ) (part : Part (Vec ℕ Global)) (job : StreamJob) → slice_get parts n ≡ Some part
      → slice_get plan n ≡ Some job → Tells stops (of_rows rows_opened streams) part job
  part-tells n part job e f =
      let own = h.done.in_order n part e in
      let l : n < length parts = slice_get_within parts n part e in
      let at : get_or parts n part ≡ part = get_or_from_slice_get parts n part part e in
      let number = length-map parts part_of in
      let (laid, got, is) = h.done.board.parts_of_jobs (part_of part)
      (n, omega arith, get_or-map part_of parts n part (part_of part) l ∙ ap part_of at) in
      let job_is : laid ≡ job_of frames_shown streams job =
      job-is (job_of frames_shown streams) plan part.job laid job got
      ∙ ap (λ k. job_of frames_shown streams (get_or plan k job)) own.0
      ∙ ap (job_of frames_shown streams) (get_or_from_slice_get plan n job job f) in
      record {
        connection = is.of_connection ∙ ap (λ (job : Job). job.connection) job_is;
        agree = agree-reached part.upto (stop_of stops part.connection) part.made.items
            (of_rows rows_opened streams job)
            (reaches part.upto (stop_of stops part.connection) (h.done.heeded part (n, l, at))) (own.1 job f);
      }

  -- ---- one of the connections

  module _ (n : ℕ) (one : PerConnection) (l : n < length connections) where
    abbrev before : PerConnection
    before = get_or connections n one

    abbrev of : Prepared
    of = before.prepared

    abbrev frames : List Frame
    frames = of.frames.now

    is_prepared : IsPrepared frames_shown of
    is_prepared = (begins n one l).prepared

    -- the streams of its rows
    abbrev row_streams : List ℕ
    row_streams = map (λ (row : StreamRow). row.stream) of.split.rows.items

    -- what is said of its jobs is said of the streams of its rows, each from its frames and all changes
    of-streams : {X : Type 0} (said : ℕ → List Frame → List Change → List X)
        → flat_map (of_connection (of_rows (λ streams rows. flat_map (λ (row : StreamRow). said row.stream
        (row_frames streams row) streams.changes) rows) streams) n) plan
        ≡ flat_map (λ stream. said stream (frames_of stream frames) (changes_of frames)) row_streams
    of-streams said =
        let m : n < length streams = omega (arith, as_many) in
        let own = get_or streams n (some_of streams n m) in
        let is : own.of.now ≡ of = sym (get_or-map (λ (streams : Streams). streams.of.now) streams n
        (some_of streams n m) of m) ∙ ap (λ all. get_or all n of) h.of.of
        ∙ get_or-map (λ (one : PerConnection). one.prepared) connections n one of l in
        let of_row = λ (row : StreamRow). said row.stream (row_frames own row) own.changes in
        let rows = own.of.now.split.rows.items in
        let each = λ (streams : Streams) (rows : List StreamRow). flat_map (λ (row : StreamRow). said row.stream
        (row_frames streams row) streams.changes) rows in
        let at = slice_get-get_or streams n (some_of streams n m) m in
        let joined : flat_map (λ (range : ℕ × ℕ). of_rows each streams (job_at n range)) (groups_of count own)
        ≡ flat_map of_row rows =
        rw at (flat_map-flat_map of_row (λ (range : ℕ × ℕ). between range.0 range.1 rows) (groups_of count own)
        ∙ ap (flat_map of_row) (groups-joined rows count some)) in
        let changes : own.changes ≡ changes_of frames = h.of.changes n (some_of streams n m) m
        ∙ ap (λ (of : Prepared). of.changes.items) is ∙ is_prepared.changes in
        let streamed : flat_map of_row rows
        ≡ flat_map (λ stream. said stream (frames_of stream frames) (changes_of frames)) row_streams =
        rw (is, changes)
        (flat_map-by (λ (row : StreamRow). said row.stream (frames_at frames (row_positions of.split row))
        (changes_of frames)) (λ stream. said stream (frames_of stream frames) (changes_of frames))
        (λ (row : StreamRow). row.stream) of.split.rows.items
        (λ k d l. ap (λ met. said (get_or of.split.rows.items k d).stream met (changes_of frames))
        (is_prepared.split.each k d l).frames)) in
        of-plan (of_rows each streams) n count 0 n streams own at (omega arith) ∙ joined ∙ streamed

    -- its jobs find what its streams show
    shows : findings_of_jobs n jobs ≡ streams_shown frames_shown frames
    shows =
        let split = is_prepared.split in
        flat_map-map (λ (job : Job). if job.connection == n then job.findings else []) (job_of frames_shown streams)
        plan
        ∙ of-streams (λ stream frames changes. shown frames_shown (stream_run stream frames changes))
        ∙ ap (flat_map (shown_of frames_shown frames)) split.streams
        ∙ flat_map-kept (shown_of frames_shown frames) split.is_quiet (streams_of frames)
        (subst (λ (changes : List Change). All (λ (stream : ℕ). split.is_quiet stream ≡ true
        → shown frames_shown (stream_run stream (frames_of stream frames) changes) ≡ []) (streams_of frames))
        is_prepared.changes split.quiet)

    -- the openings that its parts and its split tell are all, up to the stop
    agree-all : AgreeWithin (stop_of stops n) (numbers_told n parts ++ of.split.opened.items)
        (openings_of frames (streams_of frames))
    agree-all number e =
        let split = is_prepared.split in
        let quiet = of.split.opened.items in
        let stop = stop_of stops n in
        let told = flat_map (of_connection (of_rows rows_opened streams) n) plan in
        let others = filter (λ stream. not (split.is_quiet stream)) (streams_of frames) in
        let loud : told ≡ openings_of frames others =
        of-streams (λ stream frames changes. option_to_list (stream_at_end stream frames changes).life.opened)
        ∙ ap (openings_of frames) split.streams in
        let rest : quiet ≡ openings_of frames (filter split.is_quiet (streams_of frames)) =
        split.opened ∙ ap (λ (changes : List Change). flat_map (opening_of frames changes)
        (filter split.is_quiet (streams_of frames))) is_prepared.changes in
        agree-append stop (numbers_told n parts) told quiet quiet
        (agree-parts stops (of_rows rows_opened streams) n parts plan
        (h.done.count ∙ length-map plan (job_of frames_shown streams)) part-tells) (λ number e. refl) number e
        ∙ ap (list_any (λ one. one == number)) (ap (λ l. l ++ quiet) loud
        ∙ ap (λ l. openings_of frames others ++ l) rest)
        ∙ agree-parted frames stop split.is_quiet (streams_of frames) number e

    -- what is left of it, as it was closed, and as it then took the parts
    is-after : (closed after : PerConnection)
        → IsClosed (stop_of stops n) (before.opened.items ++ numbers_told n parts) before closed
        → HasTaken (map part_of parts) n closed after
        → (after.prepared ≡ of) × IsAfterStreams frames_shown frames (findings_in after.found) after.stop
        after.opened.items × IsStop after.stop
    is-after closed after is taken =
        let begun = begins n one l in
        let found : findings_in after.found ≡ found_before of ++ findings_of_parts n (map part_of parts) =
        taken.found ∙ ap (λ (one : PerConnection). findings_in one.found ++ findings_of_parts n (map part_of parts))
        is.same ∙ ap (λ found. found ++ findings_of_parts n (map part_of parts)) begun.found in
        let stop : after.stop ≡ stop_of stops n =
        ap (λ (one : PerConnection). one.stop) taken.same ∙ ap (λ (one : PerConnection). one.stop) is.same in
        let opened : after.opened ≡ closed.opened = ap (λ (one : PerConnection). one.opened) taken.same in
        let told : IsInOrder (numbers_told n parts ++ of.split.opened.items) closed.opened.items =
        rw begun.none_opened at is.opened in
        let least : IsLeast (StopsAt (found_before of)) (stop_of (map stop_in connections) n) =
        rw (get_or-map stop_in connections n one None l) (rw begun.found at begun.stop) in
        let merges = board_merges_lem (record { jobs = jobs; opening_stops = map stop_in connections })
        (board_with (map part_of parts) h.done.seen h.done.lowered stops) h.done.board n (found_before of) least in (
          ap (λ (one : PerConnection). one.prepared) taken.same
              ∙ ap (λ (one : PerConnection). one.prepared) is.same,
          rw (stop, opened) (record {
            cut = rw (found, ← shows) merges.findings;
            least = rw (← shows) merges.stop;
            kept = rw found merges.kept_stop;
            opened_within = λ number e. sym (list_any-IsPermutation (λ one. one == number) _ closed.opened.items
                told.same) ∙ agree-all number e;
            rising = told.rising;
          }),
          rw stop (h.done.places n None (omega (arith, stops-long h))),
        )

  -- ---- all connections

  pub are-after : (closed all : List PerConnection) → AreClosed parts stops connections closed
      → AreGathered (map part_of parts) closed all → AreThroughStreams frames_shown connections all
  are-after closed all are taken =
      let long = are.number in
      let longer = taken.number in
      let each : (n : ℕ) (after one : PerConnection) (l : n < length connections) → _ =
      λ n after one l. is-after n one l (get_or closed n one) (get_or all n after) (are.each n one one l)
      (taken.each n one after (omega (arith, long))) in
      record {
        same = maps-each (λ (one : PerConnection). one.prepared) (λ (one : PerConnection). one.prepared) all connections
            (longer ∙ long) (λ n after one l. (each n after one l).0);
        each = λ n after l.
            let m : n < length connections = omega (arith, long, longer) in
            let is = each n after (some_of connections n m) m in
            record {
              prepared = rw is.0 (begins n (some_of connections n m) m).prepared;
              after = rw is.0 is.1;
              place = is.2;
            };
      }
