-- Which steps a stream's run meets, at which numbers they stand, and which opening a run that went up to a place tells.
use Rattle.std.specs.Prelude.{ℕ, Bool, ◌||◌, if◌then◌else◌, List, [], ◌∷◌, Option, Some, None, is_some}
use Rattle.audit_terms.specs.declared.sides.Sides.{Sides}
use Rattle.audit_terms.specs.declared.frames.Frame.{Frame}
use Rattle.audit_terms.specs.declared.items.Change.{Change}
use Rattle.audit_terms.specs.declared.items.Step.{Step}
use Rattle.audit_terms.specs.declared.stream_state.Stream.{Stream}
use Rattle.audit_terms.specs.InForce.{initial_in_force}
use Rattle.audit_terms.specs.Stream.{idle_stream, stream_after}
use Rattle.audit_terms.specs.code.runs.Streams.{initial_after}
use Rattle.audit_terms.specs.code.runs.Streams.{steps_of}
use Rattle.audit_terms.specs.code.runs.Look.{is_past}

-- does a window of the stream live?
abbrev pub is_live : Stream → Bool
is_live entry = is_some entry.window.client || is_some entry.window.server

-- the steps of a stream's run are the stream's frames and the changes that find a live window of it (RFC 9113, 6.9.2):
-- a change that finds none costs it nothing
abbrev pub is_met : Stream → Step → Bool
is_met entry step = is_some step.frame || is_live entry

-- the numbers of the steps that it meets of some, from the initial windows in force and the stream before them
abbrev pub met_from : (stream : ℕ) → Sides ℕ → Stream → List Step → List ℕ
met_from stream initial entry [] = []
met_from stream initial entry (step ∷ steps) =
    if is_met entry step
    then step.number ∷ met_from stream (initial_after step.change initial)
    (stream_after stream initial entry step) steps
    else met_from stream (initial_after step.change initial) (stream_after stream initial entry step) steps

-- of all frames of the stream, and all changes of its connection
abbrev pub step_numbers : (stream : ℕ) → List Frame → List Change → List ℕ
step_numbers stream frames changes = met_from stream initial_in_force.initial idle_stream (steps_of frames changes)

-- the number of the opening frame, unless it lies past the place
abbrev pub opened_up_to : (upto opened : Option ℕ) → Option ℕ
opened_up_to upto None = None
opened_up_to upto (Some number) = if is_past upto number then None else Some number
