-- The board of a round: the parts that workers lay down, one for each job, and what makes it settled. Places are
-- numbers in the order of findings, so the least place stands first.
use Rattle.std.specs.Prelude.{◌≡◌, ℕ, ◌<◌, ◌==◌, if◌then◌else◌, ◌⊎◌, List, [], ◌++◌, length, slice_get}
use Rattle.std.specs.Prelude.{slice_index_or, flat_map, count_by, Contains, Option, Some, None}
use Rattle.audit_terms.specs.declared.findings.Finding.{Finding}
use Rattle.audit_terms.specs.Finding.{in_order}
use Rattle.audit_terms.specs.code.Stops.{IsLeast, StopsAt}

-- a job of a round: the connection that it is of, and all that it has to find, as if nothing stopped it
pub record Job : Type 0 where
  pub connection : ℕ
  pub findings : List Finding

-- a round: its jobs by number, and for each connection the place where it is known to stop as the round opens
pub record RoundView : Type 0 where
  pub jobs : List Job
  pub opening_stops : List (Option ℕ)

-- what is kept of a job: the findings up to a place, or all
pub record PartView : Type 0 where
  pub job : ℕ
  pub connection : ℕ
  pub upto : Option ℕ
  pub findings : List Finding

-- what a round leaves: the parts, the places that were seen and lowered, each with its connection, and the stops
pub record Board : Type 0 where
  pub parts : List PartView
  pub seen : List (ℕ × ℕ)
  pub lowered : List (ℕ × ℕ)
  pub stops : List (Option ℕ)

-- where a connection stops, if it does
abbrev pub stop_of : List (Option ℕ) → (connection : ℕ) → Option ℕ
stop_of stops connection = slice_index_or stops connection None

-- the place lies past the one up to which a part goes; where that is none, no place does
abbrev pub IsPast : (upto : Option ℕ) → (place : ℕ) → Type 0
IsPast None place = ⊥
IsPast (Some upto) place = upto < place

-- kept in order, each as often as the job has it, and only what lies past `upto` may be left out
pub record IsCut (whole : List Finding) (upto : Option ℕ) (kept : List Finding) : Type 0 where
  pub ordered : in_order kept ≡ kept
  pub left_out : List Finding
  pub together : in_order (kept ++ left_out) ≡ in_order whole
  pub past : (found : Finding) → Contains left_out found → IsPast upto found.place

-- the part is a cut of the job, up to a place that was seen; where it stops was lowered
pub record IsPartOf (seen lowered : List (ℕ × ℕ)) (job : Job) (part : PartView) : Type 0 where
  pub of_connection : part.connection ≡ job.connection
  pub cut : IsCut job.findings part.upto part.findings
  pub upto_seen : (place : ℕ) → part.upto ≡ Some place → Contains seen (part.connection, place)
  pub stops_lowered : (place : ℕ) → StopsAt part.findings place → Contains lowered (part.connection, place)

-- how many of the parts are of this job
abbrev pub parts_of : (job : ℕ) → List PartView → ℕ
parts_of job parts = count_by (λ (part : PartView). part.job == job) parts

-- a job of the connection has an error of the connection at this place
abbrev pub JobStopsAt : RoundView → (connection place : ℕ) → Type 0
JobStopsAt round connection place =
    (job : Job) × Contains round.jobs job × (job.connection ≡ connection) × StopsAt job.findings place

-- the place is the connection's opening stop, or was lowered for it
abbrev pub IsGiven : RoundView → (lowered : List (ℕ × ℕ)) → (connection place : ℕ) → Type 0
IsGiven round lowered connection place =
    (stop_of round.opening_stops connection ≡ Some place) ⊎ Contains lowered (connection, place)

-- the board of a round in which every job is done
pub record IsSettled (round : RoundView) (board : Board) : Type 0 where
  -- each job has one part
  pub one_part_each : (job : ℕ) → job < length round.jobs → parts_of job board.parts ≡ 1
  -- each part is one of a job
  pub parts_of_jobs : (part : PartView) → Contains board.parts part →
      (job : Job) × (slice_get round.jobs part.job ≡ Some job) × IsPartOf board.seen board.lowered job part
  -- each place lowered is an error of a job
  pub lowered_real : (connection place : ℕ) → Contains board.lowered (connection, place) →
      JobStopsAt round connection place
  -- each place seen was there at the opening, or was lowered
  pub seen_given : (connection place : ℕ) → Contains board.seen (connection, place) →
      IsGiven round board.lowered connection place
  -- each stop is the least place given
  pub stops_least : (connection : ℕ) →
      IsLeast (IsGiven round board.lowered connection) (stop_of board.stops connection)

-- all that the jobs of a connection have to find
abbrev pub findings_of_jobs : (connection : ℕ) → List Job → List Finding
findings_of_jobs connection jobs =
    flat_map (λ (job : Job). if job.connection == connection then job.findings else []) jobs

-- all that the parts of a connection keep
abbrev pub findings_of_parts : (connection : ℕ) → List PartView → List Finding
findings_of_parts connection parts =
    flat_map (λ (part : PartView). if part.connection == connection then part.findings else []) parts
