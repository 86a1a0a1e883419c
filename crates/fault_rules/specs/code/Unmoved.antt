-- Frames and steps that leave a window as it is.
use Rattle.std.specs.Prelude.{◌≡◌, ℕ, false, None}
use Rattle.audit_terms.specs.Frame.{content_by, grant_to, grants_nothing}
use Rattle.audit_terms.specs.Life.{ends_window}
use Rattle.audit_terms.specs.Stream.{step_amount, step_test}
use Rattle.audit_terms.specs.declared.frames.Frame.{Frame}
use Rattle.audit_terms.specs.declared.items.Step.{Step}
use Rattle.audit_terms.specs.declared.sides.Side.{Side}

-- the frame leaves the connection window of side d as it is
pub record LeavesConnection (d : Side) (frame : Frame) : Type 0 where
  pub grant : grant_to d 0 frame ≡ 0
  pub nothing : grants_nothing d 0 frame ≡ false
  pub content : content_by d frame ≡ 0

-- the frame leaves a live window of side d on the stream as it is
pub record LeavesStream (d : Side) (stream : ℕ) (frame : Frame) : Type 0 where
  pub grant : grant_to d stream frame ≡ 0
  pub content : content_by d frame ≡ 0
  pub end : ends_window d frame ≡ false

-- the step leaves a live window of side d on the stream as it is
pub record LeavesWindow (d : Side) (stream : ℕ) (step : Step) : Type 0 where
  pub change : step.change ≡ None
  pub grant : step_amount (grant_to d stream) step ≡ 0
  pub content : step_amount (content_by d) step ≡ 0
  pub end : step_test (ends_window d) step ≡ false
