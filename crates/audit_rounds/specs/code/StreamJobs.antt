-- The jobs of the round over streams: consecutive rows of a connection's split.
use Rattle.std.specs.Prelude.{◌≡◌, ℕ, ◌+◌, ◌^◌, ◌<◌, ◌≤◌, Bool, List, [], ◌∷◌, ◌++◌, All, map, length, slice_get}
use Rattle.std.specs.Prelude.{Option, Some}
use Rattle.std.specs.Option.{option_map_or}
use Rattle.std.specs.List.{between}
use Rattle.audit_terms.specs.code.runs.Look.{Asked}
use Rattle.audit_terms.specs.code.runs.Changes.{AreOrderly}
use Rattle.split_merge.specs.declared.splits.StreamRow.{StreamRow}
use Rattle.split_merge.specs.code.Groups.{groups}
use Rattle.stop_desk.specs.code.Board.{Job}
use Rattle.audit_rounds.specs.declared.connection_streams.Streams.{Streams}
use Rattle.audit_rounds.specs.declared.stream_jobs.StreamJob.{StreamJob}
use Rattle.audit_rounds.specs.code.Streams.{IsRow, AreOpenedUpTo, RowsLook, rows_shown, rows_opened}

-- the streams of a connection that may be gone through
pub record IsReady (streams : Streams) : Type 0 where
  pub changes : AreOrderly streams.changes
  pub rows : All (IsRow streams) streams.of.now.split.rows.items
  pub counted : length streams.of.now.split.rows.items < 2 ^ 32

-- a range of the rows of a connection that is there
pub record IsJobOf (connections : List Streams) (job : StreamJob) : Type 0 where
  pub connection : job.connection < length connections
  pub rising : job.from ≤ job.to
  pub within : (streams : Streams) → slice_get connections job.connection ≡ Some streams →
      job.to ≤ length streams.of.now.split.rows.items

-- what is said of the rows of a job
abbrev pub of_rows : {X : Type 0} → (Streams → List StreamRow → List X) → List Streams → StreamJob → List X
of_rows said connections job =
    option_map_or (λ (streams : Streams). said streams (between job.from job.to streams.of.now.split.rows.items))
    (slice_get connections job.connection) []

-- the job, with what its streams show
abbrev pub job_of : (frames_shown : Bool) → List Streams → StreamJob → Job
job_of frames_shown connections job = record {
  connection = job.connection;
  findings = of_rows (rows_shown frames_shown) connections job;
}

-- the numbers of the frames that open the streams of a job are made, those up to a place at least
abbrev pub Makes : List Streams → List StreamJob → (job : ℕ) → (upto : Option ℕ) → (made : List ℕ) → Type 0
Makes connections plan number upto made = (job : StreamJob) → slice_get plan number ≡ Some job →
    AreOpenedUpTo upto made (of_rows rows_opened connections job)

-- the looks that are due of a job are those of the runs of its rows
abbrev pub JobLooks : (frames_shown : Bool) → List Streams → List StreamJob → (job : ℕ) → List Asked →
    (upto : Option ℕ) → Type 0
JobLooks frames_shown connections plan number asked upto = (job : StreamJob) (streams : Streams) →
    slice_get plan number ≡ Some job → slice_get connections job.connection ≡ Some streams →
    RowsLook frames_shown streams (between job.from job.to streams.of.now.split.rows.items) asked upto

-- a job of this connection
abbrev pub job_at : (connection : ℕ) → ℕ × ℕ → StreamJob
job_at connection range = record { connection = connection; from = range.0; to = range.1 }

-- so many groups of the rows of each connection at most, one connection after the other
abbrev pub plan_from : (count : ℕ) → (connection : ℕ) → List Streams → List StreamJob
plan_from count connection [] = []
plan_from count connection (streams ∷ rest) =
    map (job_at connection) (groups (length streams.of.now.split.rows.items) count)
    ++ plan_from count (connection + 1) rest
