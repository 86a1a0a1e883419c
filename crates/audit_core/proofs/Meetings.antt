-- How a stream meets a frame: it is on the stream, or promises it, or does neither; and what the frame that opens a
-- stream is.
use Rattle.std.proofs.Common.{is_some, ◌≡◌, ℕ, Bool, true, false, if◌then◌else◌, Some, None, arith}
use Rattle.audit_core.proofs.Words.{change_of, option_map_or, Side, Body, Frame, StreamLife, Stream, is_ack, is_content}
use Rattle.audit_core.proofs.Words.{increment, content_by, grant_to, promises, meets, content_on, InForce, is_opening}
use Rattle.audit_core.proofs.Words.{step_amount, opens, life_at, step_of, nat_tests}

-- a body that no window counts and that settings do not come into force by
pub record CountsNothing (body : Body) : Type 0 where
  pub grants : increment body ≡ 0
  pub content : is_content body ≡ false
  pub ack : is_ack body ≡ false

-- a frame that promises a stream
pub promised-counts : (stream : ℕ) (frame : Frame) → promises stream frame ≡ true → CountsNothing frame.body
promised-counts stream frame e = record { grants = grind arith; content = grind arith; ack = grind arith }

-- a frame that opens a stream
pub opening-counts : (stream : ℕ) (life : StreamLife) (frame : Frame) → is_opening stream life frame ≡ true
    → CountsNothing frame.body
opening-counts stream life frame e = record { grants = grind arith; content = grind arith; ack = grind arith }

-- a frame that brings a change is an acknowledgement
pub change-ack : (now : InForce) (frame : Frame) → is_some (change_of now frame) ≡ true → is_ack frame.body ≡ true
change-ack now frame c = grind arith

-- ---- the step of a stream at a frame

module _ (stream : ℕ) (now : InForce) (frame : Frame) where
  -- what the step grants and carries is what the frame does on the stream
  pub step-grant : (d : Side) → step_amount (grant_to d stream) (step_of now frame stream) ≡ grant_to d stream frame
  step-grant d = grind (arith, nat_tests)

  pub step-content : (d : Side) → step_amount (content_by d) (step_of now frame stream) ≡ content_on d stream frame
  step-content d = grind (arith, nat_tests, promised-counts stream frame)

  -- a step that opens the stream counts nothing
  pub step-opening : (entry : Stream) → opens stream entry (step_of now frame stream) ≡ true → CountsNothing frame.body
  step-opening entry = by_test (meets stream frame) where
    by_test : (met : Bool)
        → option_map_or (is_opening stream entry.life) (if met then Some frame else None) false ≡ true
        → CountsNothing frame.body
    by_test true e = opening-counts stream entry.life frame e
    by_test false e = cc

  -- the opening is written down at the step that opens
  pub step-opened : (entry : Stream) → (life_at stream entry (step_of now frame stream)).opened
      ≡ (if opens stream entry (step_of now frame stream) then Some frame.number else entry.life.opened)
  step-opened entry = grind arith
