-- What the acknowledgements of a connection bring into force (RFC 9113, 6.5.3), and which of them take nothing.
use Rattle.std.specs.Prelude.{◌≡◌, ℕ, ◌+◌, ◌-◌, ◌^◌, ◌<◌, ◌≤◌, true, List, [], ◌∷◌, ◌++◌, All}
use Rattle.std.specs.Option.{option_to_list}
use Rattle.audit_terms.specs.declared.frames.Frame.{Frame}
use Rattle.audit_terms.specs.declared.items.Change.{Change}
use Rattle.audit_terms.specs.Frame.{is_ack}
use Rattle.audit_terms.specs.declared.findings.Finding.{Finding}
use Rattle.audit_terms.specs.InForce.{InForce, change_of, in_force_after, initial_in_force, settings_said}

-- the changes that a list of frames brings
abbrev pub changes_from : InForce → List Frame → List Change
changes_from now [] = []
changes_from now (frame ∷ frames) = option_to_list (change_of now frame)
    ++ changes_from (in_force_after now frame) frames

-- the changes that a connection's frames bring
abbrev pub changes_of : List Frame → List Change
changes_of frames = changes_from initial_in_force frames

-- the acknowledgements among some frames that take nothing
abbrev pub settings_run_from : InForce → List Frame → List Finding
settings_run_from now [] = []
settings_run_from now (frame ∷ frames) = settings_said now frame ++ settings_run_from (in_force_after now frame) frames

-- the acknowledgements of a connection's frames that take nothing
abbrev pub settings_run : List Frame → List Finding
settings_run frames = settings_run_from initial_in_force frames

-- each number below 2^28 - 1, the first `low` or above, each further one above the one before it
abbrev pub AreOrderlyFrom : (low : ℕ) → List Change → Type 0
AreOrderlyFrom low [] = Unit {0}
AreOrderlyFrom low (change ∷ changes) =
    (low ≤ change.number) × (change.number < 2 ^ 28 - 1) × AreOrderlyFrom (change.number + 1) changes

-- numbers strictly rising, below 2^28 - 1
abbrev pub AreOrderly : List Change → Type 0
AreOrderly changes = AreOrderlyFrom 0 changes

-- the frame of a change, where it is among the frames, is an acknowledgement
abbrev pub AreAcknowledged : List Frame → List Change → Type 0
AreAcknowledged frames changes =
    All (λ (frame : Frame).
    All (λ (change : Change). frame.number ≡ change.number → is_ack frame.body ≡ true) changes) frames
