-- What a worker has drawn, seen, lowered and laid down, job by job.
use Rattle.std.specs.Prelude.{◌≡◌, ℕ, ◌+◌, ◌*◌, ◌<◌, ◌≤◌, ◌⊎◌, List, filter, map, length, slice_get, Contains, Option}
use Rattle.std.specs.Prelude.{Some}
use Rattle.audit_terms.specs.declared.findings.Finding.{Finding}
use Rattle.audit_terms.specs.Finding.{stops}
use Rattle.audit_terms.specs.code.Stops.{StopsAt}
use Rattle.stop_desk.specs.code.Counts.{times}
use Rattle.stop_desk.specs.code.Desk.{DeskId, DeskView, PassView, pass_of, pass_draws, IsConnection}
use Rattle.stop_desk.specs.code.Board.{Job, IsPartOf, parts_of}
use Rattle.stop_desk.specs.declared.audit_round.AuditRound.{AuditRound}
use Rattle.stop_desk.specs.declared.parts.Part.{Part}
use Rattle.stop_desk.specs.code.Laid.{part_of}

-- the places at which findings end a connection
abbrev pub stops_on : (connection : ℕ) → List Finding → List (ℕ × ℕ)
stops_on connection findings = map (λ (found : Finding). (connection, found.place)) (filter stops findings)

-- the part is one of a job: as it was made, kept up to a place that was seen, its stops lowered
pub record IsLaid {M : Type 0} (makes : ℕ → Option ℕ → M → Type 0) (jobs : List Job) (round : AuditRound)
    (seen lowered : List (ℕ × ℕ)) (part : Part M) : Type 0 where
  pub in_round : part.round ≡ round
  pub made : makes part.job part.upto part.made
  pub job : Job
  pub is_job : slice_get jobs part.job ≡ Some job
  pub of_job : IsPartOf seen lowered job (part_of part)

-- some job of the connection has an error of the connection at this place
abbrev pub IsReal : List Job → (connection place : ℕ) → Type 0
IsReal jobs connection place =
    (job : Job) × Contains jobs job × (job.connection ≡ connection) × StopsAt job.findings place

-- from one pass to the next: what was seen and lowered is kept, what is new is of these jobs
pub record Goes (jobs : List Job) (desk : DeskId) (before after : PassView) : Type 0 where
  pub kept : after ≡ pass_of before.desk before.allowance before.drawn after.seen after.lowered
  pub seen_kept : (c p : ℕ) → Contains before.seen (c, p) → Contains after.seen (c, p)
  pub lowered_kept : (c p : ℕ) → Contains before.lowered (c, p) → Contains after.lowered (c, p)
  pub seen_there : (c p : ℕ) → Contains after.seen (c, p) → Contains before.seen (c, p) ⊎ IsConnection desk c
  pub lowered_real : (c p : ℕ) → Contains after.lowered (c, p) → Contains before.lowered (c, p) ⊎ IsReal jobs c p

-- a job is done, and its part laid down
abbrev pub DoesJob : {M : Type 0} → (makes : ℕ → Option ℕ → M → Type 0) → (jobs : List Job) → (round : AuditRound)
    → (number : ℕ) → PassView → Part M → PassView → Type 0
DoesJob makes jobs round number before part after =
    (part.job ≡ number) × Goes jobs before.desk before after × IsLaid makes jobs round after.seen after.lowered part

-- the parts are of jobs, and the pass saw and lowered what they need, and only what is real
pub record IsWorked {M : Type 0} (makes : ℕ → Option ℕ → M → Type 0) (jobs : List Job) (desk : DeskId)
    (round : AuditRound) (whole : ℕ) (parts : List (Part M)) (pass : PassView) : Type 0 where
  pub desk_is : pass.desk ≡ desk
  pub whole_is : pass_draws pass ≡ whole
  pub drawn : (job : ℕ) → job < length jobs → times job pass.drawn ≡ parts_of job (map part_of parts)
  pub laid : (part : Part M) → Contains parts part → IsLaid makes jobs round pass.seen pass.lowered part
  pub seen_there : (c p : ℕ) → Contains pass.seen (c, p) → IsConnection desk c
  pub lowered_real : (c p : ℕ) → Contains pass.lowered (c, p) → IsReal jobs c p

-- a number past all jobs was drawn
abbrev pub DrewPast : (jobs : List Job) → PassView → Type 0
DrewPast jobs pass = (n : ℕ) × (length jobs ≤ n) × (0 < times n pass.drawn)

-- and no job is left
abbrev pub IsAllWorked : {M : Type 0} → (makes : ℕ → Option ℕ → M → Type 0) → (jobs : List Job) → (desk : DeskId)
    → (round : AuditRound) → (whole : ℕ) → List (Part M) → PassView → Type 0
IsAllWorked makes jobs desk round whole parts pass =
    IsWorked makes jobs desk round whole parts pass × DrewPast jobs pass

-- the same of so many workers of a desk, with all draws of their unused pass
abbrev pub AreAllWorked : {M : Type 0} → (makes : ℕ → Option ℕ → M → Type 0) → (jobs : List Job) → (desk : DeskView)
    → (round : AuditRound) → (workers : ℕ) → List (Part M) → PassView → Type 0
AreAllWorked makes jobs desk round workers parts pass =
    IsAllWorked makes jobs desk.id round (workers * (desk.jobs + 1)) parts pass

-- while a worker draws: only jobs were drawn, each once
abbrev pub DrewJobs : (jobs : List Job) → PassView → Type 0
DrewJobs jobs pass = ((n : ℕ) → length jobs ≤ n → times n pass.drawn ≡ 0) × ((n : ℕ) → times n pass.drawn ≤ 1)
