-- The changes of orderly frames are orderly, and each is that of an acknowledgement.
use Rattle.fault_rules.proofs.Terms.{All, AllByRecursion, All-from_recursion, AreAcknowledged, AreOrderlyFrom, Change}
use Rattle.fault_rules.proofs.Terms.{Frame, InForce, IsInRange, IsOrderly, IsOrderlyFrom, List, None, Option, Settings}
use Rattle.fault_rules.proofs.Terms.{Some, [], arith, change_taking, changes_from, changes_of, in_force_after, is_ack}
use Rattle.fault_rules.proofs.Terms.{initial_in_force, option_to_list, refl, taken, true, ℕ, ◌++◌, ◌+◌, ◌∷◌, ◌≡◌, ◌≤◌}
use Rattle.std.proofs.{Common.is_some, lemmas.List.Elements.All-weaker}

orderly-lower : (low lower : ℕ) (changes : List Change) → lower ≤ low → AreOrderlyFrom low changes
    → AreOrderlyFrom lower changes
orderly-lower low lower [] below h = h
orderly-lower low lower (change ∷ changes) below h = (omega arith, h.1, h.2)

orderly-taking : (low : ℕ) (frame : Frame) (t : Option Settings) (changes : List Change) → low ≤ frame.number
    → IsInRange frame → AreOrderlyFrom (frame.number + 1) changes
    → AreOrderlyFrom low (option_to_list (change_taking frame t) ++ changes)
orderly-taking low frame None changes above fits h = orderly-lower (frame.number + 1) low changes (omega arith) h
orderly-taking low frame (Some settings) changes above fits h = (above, fits.number, h)

pub changes_from-orderly : (low : ℕ) (now : InForce) (frames : List Frame) → IsOrderlyFrom low frames
    → AreOrderlyFrom low (changes_from now frames)
changes_from-orderly low now [] h = h
changes_from-orderly low now (frame ∷ frames) h =
    orderly-taking low frame (taken now frame) (changes_from (in_force_after now frame) frames) h.0 h.1
    (changes_from-orderly (frame.number + 1) (in_force_after now frame) frames h.2)

-- ---- the frame of a change is an acknowledgement

-- the change's frame, if it is this one, is an acknowledgement
abbrev AcknowledgesAt : Frame → Change → Type 0
AcknowledgesAt frame change = frame.number ≡ change.number → is_ack frame.body ≡ true

-- the same of each frame and each change
abbrev Acknowledge : List Frame → List Change → Type 0
Acknowledge frames changes = AllByRecursion (λ frame. AllByRecursion (AcknowledgesAt frame) changes) frames

-- a frame below all changes is the frame of none
below-all : (frame : Frame) (low : ℕ) (changes : List Change) → frame.number + 1 ≤ low → AreOrderlyFrom low changes
    → AllByRecursion (AcknowledgesAt frame) changes
below-all frame low [] below h = tt
below-all frame low (change ∷ changes) below h =
    (λ e. absurd (omega (arith, h.0, e)), below-all frame (change.number + 1) changes (omega (arith, h.0)) h.2)

-- a frame that takes settings is an acknowledgement
own-change : (frame : Frame) (t : Option Settings) (changes : List Change)
    → (is_some t ≡ true → is_ack frame.body ≡ true) → AllByRecursion (AcknowledgesAt frame) changes
    → AllByRecursion (AcknowledgesAt frame) (option_to_list (change_taking frame t) ++ changes)
own-change frame None changes e h = h
own-change frame (Some settings) changes e h = (λ _. e refl, h)

-- frames above the one that takes settings
later-frames : (frame : Frame) (t : Option Settings) (low : ℕ) (frames : List Frame) (changes : List Change)
    → frame.number + 1 ≤ low → IsOrderlyFrom low frames → Acknowledge frames changes
    → Acknowledge frames (option_to_list (change_taking frame t) ++ changes)
later-frames frame None low frames changes above orderly h = h
later-frames frame (Some settings) low [] changes above orderly h = tt
later-frames frame (Some settings) low (next ∷ frames) changes above orderly h = (
  (λ e. absurd (omega (arith, orderly.0, e)), h.0),
  later-frames frame (Some settings) (next.number + 1) frames changes (omega (arith, orderly.0)) orderly.2 h.1,
)

changes_from-acknowledge : (low : ℕ) (now : InForce) (frames : List Frame) → IsOrderlyFrom low frames
    → Acknowledge frames (changes_from now frames)
changes_from-acknowledge low now [] h = tt
changes_from-acknowledge low now (frame ∷ frames) h = (
  own-change frame (taken now frame) _ (λ e. grind arith) (below-all frame (frame.number + 1) _ (omega arith)
      (changes_from-orderly (frame.number + 1) (in_force_after now frame) frames h.2)),
  later-frames frame (taken now frame) (frame.number + 1) frames (changes_from (in_force_after now frame) frames)
      (omega arith) h.2
      (changes_from-acknowledge (frame.number + 1) (in_force_after now frame) frames h.2),
)

pub changes_of-acknowledged : (frames : List Frame) → IsOrderly frames → AreAcknowledged frames (changes_of frames)
changes_of-acknowledged frames h =
    All-weaker (λ (frame : Frame). AllByRecursion (AcknowledgesAt frame) (changes_of frames))
    (λ (frame : Frame). All (AcknowledgesAt frame) (changes_of frames))
    (λ frame. All-from_recursion (AcknowledgesAt frame) (changes_of frames)) frames
    (All-from_recursion _ frames (changes_from-acknowledge 0 initial_in_force frames h))
