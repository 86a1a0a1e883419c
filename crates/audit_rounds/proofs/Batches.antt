-- Batches of connections, and connections made ready. A batch has few frames, and so its rounds have few jobs.
use Rattle.audit_rounds.proofs.Words.{◌≡◌, ℕ, ◌+◌, ◌*◌, ◌<◌, ◌≤◌, ◌==◌, ◌++◌, Bool, not, min, List, [], ◌∷◌, map, take}
use Rattle.audit_rounds.proofs.Words.{drop, filter, length, get_or, All, ap, arith, Bor, sum_by, length-map}
use Rattle.audit_rounds.proofs.Words.{length-append, sum_by-cons, All-take, All-drop, All-head, All-tail, Frame, Change}
use Rattle.audit_rounds.proofs.Words.{◌^◌, length-orderly, promised_by, first_of, streams_of, IsOrderly, StreamRow}
use Rattle.audit_rounds.proofs.Words.{SplitFrames, IsSplit, groups, Streams, Prepared, PerConnection, BeginsRounds}
use Rattle.audit_rounds.proofs.Words.{AreStreamsOf, AreReady, FramesAreFew, RowsAreFew, IsBatch, job_at, plan_from}
use Rattle.audit_rounds.proofs.Words.{Result, IfOk, IfOk-at_ok, Vec, Global, All-append, map-append, Findings}
use Rattle.audit_rounds.specs.code.Batch.{AreBoth, AreShown}
use Rattle.std.proofs.Math.Nat.{min-le_right}
use Rattle.std.proofs.lemmas.List.FromFn.{length-map-range_with_len}
use Rattle.std.proofs.lemmas.List.Sums.{sum_by-take-drop, length-filter, count_by-le-length}
use Rattle.split_merge.specs.code.Groups.{group_at}
use Rattle.audit_rounds.proofs.Lists.{frames_in, sums-alike}

abbrev pub lent : Bor (List Frame) → ℕ
lent = λ (frames : Bor (List Frame)). length frames.now

-- orderly frames, lent
abbrev pub IsLent : Bor (List Frame) → Type 0
IsLent frames = IsOrderly frames.now

pub lent-short : (all : List (Bor (List Frame))) → All IsLent all → (n : ℕ) (d : Bor (List Frame)) → n < length all
    → lent (get_or all n d) < 2 ^ 28
lent-short all h n d l =
    let short = length-orderly 0 (get_or all n d).now (omega arith) (h n d l) in omega arith

-- ---- parts of a batch

-- the connections before a place, and those from it on
pub batch-parts : (all : List (Bor (List Frame))) (at : ℕ) → IsBatch all → IsBatch (take at all) × IsBatch (drop at all)
batch-parts all at batch =
    let parts = sum_by-take-drop lent all at in
    let few = batch.few in (
      record { orderly = All-take IsLent at all batch.orderly; few = omega (arith, parts, few) },
      record { orderly = All-drop IsLent at all batch.orderly; few = omega (arith, parts, few) },
    )

-- what was made of a share, and of the rest, was made of all
module _ {E : Type 0} (frames_shown : Bool) (all front back : List (Bor (List Frame))) (whole : front ++ back ≡ all)
  where
    pub ready-both : (one other : Result (Vec PerConnection Global) E) (both : List PerConnection)
        → IfOk one (λ made. AreReady frames_shown front made.items)
        → IfOk other (λ made. AreReady frames_shown back made.items) → AreBoth one other both
        → AreReady frames_shown all both
    ready-both one other both h k are =
        let h = IfOk-at_ok (λ (made : Vec PerConnection Global). AreReady frames_shown front made.items) are.one_made h
        in
        let k = IfOk-at_ok (λ (made : Vec PerConnection Global). AreReady frames_shown back made.items) are.other_made k
        in
        rw (← whole, ← are.whole) (record {
          frames = simp (map-append, h.frames, k.frames);
          each = All-append (BeginsRounds frames_shown) _ _ h.each k.each;
        })

    pub shown-both : (one other : Result (Vec Findings Global) E) (both : List Findings)
        → IfOk one (λ found. AreShown frames_shown front found.items)
        → IfOk other (λ found. AreShown frames_shown back found.items) → AreBoth one other both
        → AreShown frames_shown all both
    shown-both one other both h k are =
        let h = IfOk-at_ok (λ (found : Vec Findings Global). AreShown frames_shown front found.items) are.one_made h in
        let k = IfOk-at_ok (λ (found : Vec Findings Global). AreShown frames_shown back found.items) are.other_made k in
        rw (← whole, ← are.whole) (simp (map-append, h, k))

-- connections of a batch, made ready, have no more frames
pub few-ready : (frames_shown : Bool) (connections : List (Bor (List Frame))) (ready : List PerConnection)
    → IsBatch connections → AreReady frames_shown connections ready → FramesAreFew ready
few-ready frames_shown connections ready batch are =
    let same = sums-alike (λ (one : PerConnection). one.prepared.frames.now) frames_in length ready connections
    are.frames in
    omega (arith, same, batch.few)

-- ---- rows and jobs

pub filter-shorter : {X : Type 0} (test : X → Bool) (xs : List X) → length (filter test xs) ≤ length xs
filter-shorter test xs = omega (arith, length-filter test xs, count_by-le-length test xs)

abbrev rows-in : Streams → ℕ
rows-in = λ (one : Streams). length one.of.now.split.rows.items

length-first : (stream : ℕ) (streams : List ℕ) → length (first_of stream streams) ≤ length streams + 1
length-first stream streams = grind (arith, filter-shorter (λ other. not (other == stream)) streams)

-- a connection has at most two streams for each frame
length-streams_of : (frames : List Frame) → length (streams_of frames) ≤ 2 * length frames
length-streams_of [] = omega arith
length-streams_of (frame ∷ frames) =
    let later = length-streams_of frames in
    let promised = length-first (promised_by frame) (streams_of frames) in
    let own = length-first frame.stream (first_of (promised_by frame) (streams_of frames)) in
    omega arith

-- so its split has no more rows
pub length-rows : (frames_shown : Bool) (changes : List Change) (frames : List Frame) (split : SplitFrames)
    → IsSplit frames_shown changes frames split → length split.rows.items ≤ 2 * length frames
length-rows frames_shown changes frames split is =
    let number = length-map split.rows.items (λ (row : StreamRow). row.stream) in
    let same = ap length is.streams in
    let fewer = filter-shorter (λ stream. not (is.is_quiet stream)) (streams_of frames) in
    let twice = length-streams_of frames in
    omega arith

-- nor have those of connections that are ready
rows-few : (frames_shown : Bool) (connections : List PerConnection) → All (BeginsRounds frames_shown) connections
    → sum_by (λ (one : PerConnection). length one.prepared.split.rows.items) connections
    ≤ 2 * sum_by (λ (one : PerConnection). length one.prepared.frames.now) connections
rows-few frames_shown [] h = omega arith
rows-few frames_shown (one ∷ connections) h =
    let prepared = (All-head (BeginsRounds frames_shown) one connections h).prepared in
    let twice = length-rows frames_shown one.prepared.changes.items one.prepared.frames.now one.prepared.split
    prepared.split in
    let rest = rows-few frames_shown connections (All-tail (BeginsRounds frames_shown) one connections h) in
    rw (
      sum_by-cons (λ (one : PerConnection). length one.prepared.split.rows.items) one connections,
      sum_by-cons (λ (one : PerConnection). length one.prepared.frames.now) one connections,
    ) (omega arith)

pub few-rows : (frames_shown : Bool) (connections : List PerConnection) (streams : List Streams)
    → All (BeginsRounds frames_shown) connections → AreStreamsOf connections streams
    → FramesAreFew connections → RowsAreFew streams
few-rows frames_shown connections streams h are few =
    let same = sums-alike (λ (one : Streams). one.of.now) (λ (one : PerConnection). one.prepared)
    (λ (of : Prepared). length of.split.rows.items) streams connections are.of in
    let fewer = rows-few frames_shown connections h in omega (arith, same, fewer, few)

-- no more jobs than rows
pub jobs-few : (count at : ℕ) (streams : List Streams) → length (plan_from count at streams) ≤ sum_by rows-in streams
jobs-few count at [] = omega arith
jobs-few count at (one ∷ rest) =
    let number = rows-in one in
    let ranges = groups number count in
    let together = length-append (map (job_at at) ranges) (plan_from count (at + 1) rest) in
    let jobs = length-map ranges (job_at at) in
    let many : length ranges ≡ min count number =
    length-map-range_with_len (group_at number (min count number)) 0 (min count number) in
    let most = min-le_right count number in
    let later = jobs-few count (at + 1) rest in
    let sum = sum_by-cons rows-in one rest in
    omega (arith, together, jobs, many, most, later, sum)
