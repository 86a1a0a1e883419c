-- The plan of the round in which blocks are gone through.
use Rattle.std.specs.Prelude.{◌≡◌, ℕ, ◌+◌, ◌<◌, ◌==◌, Bool, if◌then◌else◌, All, List, [], ◌∷◌, ◌++◌, map, slice_get}
use Rattle.std.specs.Prelude.{Option, Some, length, ⊤}
use Rattle.audit_terms.specs.declared.connection_state.ConnectionState.{ConnectionState}
use Rattle.audit_terms.specs.declared.findings.Finding.{Finding}
use Rattle.audit_terms.specs.declared.frames.Frame.{Frame}
use Rattle.audit_terms.specs.declared.items.Item.{Item}
use Rattle.audit_terms.specs.Connection.{connection_start}
use Rattle.audit_terms.specs.code.runs.Blocks.{block_run}
use Rattle.audit_terms.specs.Finding.{shown}
use Rattle.audit_terms.specs.code.runs.Look.{Asked}
use Rattle.conn_scan.specs.code.Items.{items_in}
use Rattle.stop_desk.specs.code.Board.{Job, findings_of_jobs}
use Rattle.stop_desk.specs.code.Heeding.{RunLooks}
use Rattle.stop_desk.specs.code.Settling.{HasSettled}
use Rattle.stop_desk.specs.declared.{parts.Part.Part, settling.Settled.Settled}
use Rattle.audit_rounds.specs.declared.connection_blocks.ConnectionBlock.{ConnectionBlock}
use Rattle.audit_rounds.specs.declared.block_plans.ReadyBlock.{ReadyBlock}
use Rattle.audit_rounds.specs.declared.per_connection.PerConnection.{PerConnection}
use Rattle.audit_rounds.specs.code.Blocks.{IsReady, after_of, before_of}
use Rattle.audit_rounds.specs.code.PerConnection.{wholes}

-- to sum a block finds nothing
abbrev pub sum_job : ConnectionBlock → Job
sum_job one = record { connection = one.connection; findings = [] }

-- to go through a block finds what it shows
abbrev pub block_job : (frames_shown : Bool) → ReadyBlock → Job
block_job frames_shown one = record {
  connection = one.connection;
  findings = shown frames_shown (block_run one.before (items_in one.block));
}

-- the looks that are due of a block's job are those of its run, a step for each frame
abbrev pub BlockLooks : (frames_shown : Bool) → List ReadyBlock → (job : ℕ) → List Asked → (upto : Option ℕ) → Type 0
BlockLooks frames_shown plan job asked upto = (one : ReadyBlock) → slice_get plan job ≡ Some one →
    RunLooks (map (λ (frame : Frame). frame.number) one.block.frames.now)
    (block_job frames_shown one).findings asked upto

-- all blocks may be gone through
abbrev pub AreReady : List ReadyBlock → Type 0
AreReady plan = All (λ (one : ReadyBlock). IsReady one.before one.block) plan

-- what is shown of a connection's items
abbrev pub whole_shown : (frames_shown : Bool) → List Item → List Finding
whole_shown frames_shown items = shown frames_shown (block_run connection_start items)

-- the findings, where they are of this connection
abbrev pub where_of : (connection n : ℕ) → List Finding → List Finding
where_of connection n findings = if connection == n then findings else []

-- what is shown of connection n among consecutive ones, the first of this number
abbrev pub shown_at : (frames_shown : Bool) → (connection : ℕ) → List (List Item) → (n : ℕ) → List Finding
shown_at frames_shown connection [] n = []
shown_at frames_shown connection (items ∷ later) n =
    where_of connection n (whole_shown frames_shown items) ++ shown_at frames_shown (connection + 1) later n

-- what is shown of connection n in blocks, from the connection that the last block before them left
abbrev pub shown_from : (frames_shown : Bool) → (last : ℕ) → ConnectionState → List ConnectionBlock → (n : ℕ)
    → List Finding
shown_from frames_shown last now [] n = []
shown_from frames_shown last now (one ∷ rest) n =
    where_of one.connection n (shown frames_shown (block_run (before_of last now one) (items_in one.block)))
    ++ shown_from frames_shown one.connection (after_of last now one) rest n

-- a plan for so many connections, whose jobs find `finds n` of connection n
pub record IsPlan (frames_shown : Bool) (connections : ℕ) (finds : ℕ → List Finding) (plan : List ReadyBlock)
    : Type 0 where
  pub ready : AreReady plan
  pub within : All (λ (one : ReadyBlock). one.connection < connections) plan
  pub of_each : (n : ℕ) → findings_of_jobs n (map (block_job frames_shown) plan) ≡ finds n

-- the round over the blocks of connections, up to where each is known to stop, is settled
pub record BlocksHaveSettled (frames_shown : Bool) (connections : List PerConnection) (settled : Settled (Unit {0}))
    : Type 0
  where
    pub plan : List ReadyBlock
    pub planned : IsPlan frames_shown (length connections) (shown_at frames_shown 0 (wholes connections)) plan
    pub done : HasSettled (λ (job : ℕ) (upto : Option ℕ) (made : Unit {0}). ⊤) (map (block_job frames_shown) plan)
        (map (λ (one : PerConnection). one.stop) connections) settled
    pub inside : All (λ (part : Part (Unit {0})). part.connection < length connections) settled.parts.items
