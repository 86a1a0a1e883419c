-- The steps of a stream by one forward walk over its frames and the connection's changes.
use Rattle.std.specs.Prelude.{◌≡◌, true, ◌==◌, nat_lt, if◌then◌else◌, List, [], ◌∷◌, map, Option, Some}
use Rattle.std.specs.List.{AllByRecursion}
use Rattle.audit_terms.specs.declared.frames.Frame.{Frame}
use Rattle.audit_terms.specs.declared.items.Change.{Change}
use Rattle.audit_terms.specs.declared.items.Step.{Step}
use Rattle.audit_terms.specs.Frame.{is_ack}
use Rattle.audit_terms.specs.code.runs.Streams.{frame_step, change_step}

-- a frame with the change that it brings
abbrev pub joined_step : Frame → Change → Step
joined_step frame change = record { number = frame.number; frame = Some frame; change = Some change }

-- a frame with the change that it brings, if it brings one
abbrev pub frame_with : Frame → Option Change → Step
frame_with frame change = record { number = frame.number; frame = Some frame; change = change }

-- the steps of a frame, of those after it and of some changes, where `after` gives the steps of those after it
abbrev pub merged_at : Frame → (after : List Change → List Step) → List Change → List Step
merged_at frame after [] = frame_step frame ∷ after []
merged_at frame after (change ∷ changes) =
    if frame.number == change.number then joined_step frame change ∷ after changes
    else if nat_lt change.number frame.number then change_step change ∷ merged_at frame after changes
    else frame_step frame ∷ after (change ∷ changes)

-- of the first frame and the first change the one with the lesser number is next; those of one number are one step
abbrev pub merged : List Frame → List Change → List Step
merged [] changes = map change_step changes
merged (frame ∷ frames) changes = merged_at frame (merged frames) changes

-- the change's frame, if it is this one, is an acknowledgement
abbrev pub AcknowledgesAt : Frame → Change → Type 0
AcknowledgesAt frame change = frame.number ≡ change.number → is_ack frame.body ≡ true

-- the same of each frame and each change
abbrev pub Acknowledge : List Frame → List Change → Type 0
Acknowledge frames changes = AllByRecursion (λ frame. AllByRecursion (AcknowledgesAt frame) changes) frames
