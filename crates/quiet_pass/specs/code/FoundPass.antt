-- What the machine stands for that says what frames show.
use Rattle.std.specs.List.{AllByRecursion, IsDistinct, list_any}
use Rattle.std.specs.Prelude.{◌≡◌, ◌≢◌, ℕ, ◌<◌, ◌==◌, true, false, List, [], ◌++◌, length, map, Some, take}
use Rattle.audit_terms.specs.Finding.{shown, stops}
use Rattle.audit_terms.specs.Frame.{meets}
use Rattle.audit_terms.specs.Pass.{PassState, full_from, pass_start}
use Rattle.audit_terms.specs.Place.{place_number}
use Rattle.audit_terms.specs.Timed.{frame_numbered}
use Rattle.audit_terms.specs.code.TimedFindings.{finding_in, timed_by}
use Rattle.audit_terms.specs.code.runs.Orderly.{IsOrderly}
use Rattle.audit_terms.specs.code.runs.States.{state_after}
use Rattle.audit_terms.specs.declared.findings.Finding.{Finding}
use Rattle.audit_terms.specs.declared.frames.Frame.{Frame}
use Rattle.audit_terms.specs.declared.timed_findings.TimedFinding.{TimedFinding}
use Rattle.quiet_pass.specs.code.QuietPass.{AreNamed, MovesLittle, StandsFor}
use Rattle.quiet_pass.specs.code.SaidFrames.{IsSaidStep}
use Rattle.quiet_pass.specs.declared.found_passes.FoundPass.{FoundPass}

-- streams other than 0, each once, and among them all that meet one of the frames
pub record HaveAllMet (frames : List Frame) (streams : List ℕ) : Type 0 where
  pub named : AreNamed streams
  pub once : IsDistinct ◌==◌ streams
  pub all : (stream : ℕ) → 0 < stream → list_any (meets stream) frames ≡ true
      → list_any (λ other. other == stream) streams ≡ true

-- the numbers of the frames are all below this one
abbrev pub AreBelow : (number : ℕ) → List Frame → Type 0
AreBelow number frames = AllByRecursion (λ (frame : Frame). frame.number < number) frames

-- the finding has the record and the time of its frame, which is among these
pub record IsTimedIn (frames : List Frame) (one : TimedFinding) : Type 0 where
  pub frame : Frame
  pub there : frame_numbered frames (place_number one.place) ≡ Some frame
  pub rec : one.rec ≡ frame.rec
  pub nanos : one.nanos ≡ frame.nanos

-- of the frames so far the machine has said all that is shown, up to where the audit stopped
pub record IsFoundAfter (frames : List Frame) (machine : FoundPass) : Type 0 where
  pub met : List Frame
  pub rest : List Frame
  pub parts : frames ≡ met ++ rest
  pub little : AllByRecursion MovesLittle met
  pub shown : (streams : List ℕ) → HaveAllMet met streams
      → shown machine.frames_shown (full_from streams pass_start met) ≡ map finding_in machine.found.items
  pub goes_on : machine.has_stopped ≡ false → (rest ≡ []) × StandsFor machine.pass (state_after met)
  pub stopped : machine.has_stopped ≡ true → list_any stops (map finding_in machine.found.items) ≡ true
  pub timed : IsOrderly frames → AllByRecursion (IsTimedIn frames) machine.found.items

-- what a frame shows was added
pub record IsAdded (frame : Frame) (said : List Finding) (old new : FoundPass) : Type 0 where
  pub found : new.found.items ≡ old.found.items ++ map (timed_by frame) said
  pub stopped : new.has_stopped ≡ list_any stops said
  pub same : new.frames_shown ≡ old.frames_shown

-- a frame was met, and what it shows was said
pub record HasSaid (frame : Frame) (old new : FoundPass) : Type 0 where
  pub said : List Finding
  pub step : (state : PassState) → StandsFor old.pass state → IsSaidStep old.frames_shown state frame said new.pass
  pub added : IsAdded frame said old new

-- of the frames so far, and of some of the later ones but not all, the machine has said what is shown: it is something
pub record HasFoundAmong (before later : List Frame) (machine : FoundPass) : Type 0 where
  pub count : ℕ
  pub left : count < length later
  pub after : IsFoundAfter (before ++ take count later) machine
  pub some : machine.found.items ≢ []
