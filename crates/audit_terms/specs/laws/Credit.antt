-- Credit in closed form (RFC 9113, 6.9, 6.9.1, 6.9.2): where a window begins, what was granted to it, what was sent
-- through it. No state is carried from frame to frame.
use Rattle.std.specs.Prelude.{ℕ, ℤ, pos, ◌+◌, ◌-ℤ◌, ◌==◌, nat_le, if◌then◌else◌, List, filter, sum_by}
use Rattle.audit_terms.specs.declared.sides.Side.{Side}
use Rattle.audit_terms.specs.declared.frames.Frame.{Frame}
use Rattle.audit_terms.specs.Frame.{content_by, grant_to}
use Rattle.audit_terms.specs.Window.{first_window}

-- the content that side d sends on one stream with this frame
abbrev pub content_on : Side → (stream : ℕ) → Frame → ℕ
content_on d stream frame = if frame.stream == stream then content_by d frame else 0

-- a beginning, plus the grants to side d on the stream (0 for the connection), less the content of d, over some frames
abbrev pub credit_sum : (beginning stream : ℕ) → Side → List Frame → (content : Frame → ℕ) → ℤ
credit_sum beginning stream d frames content =
    pos (beginning + sum_by (grant_to d stream) frames) -ℤ pos (sum_by content frames)

-- the credit of side d's connection window after some frames: all content of d counts, on every stream
abbrev pub connection_credit_sum : Side → List Frame → ℤ
connection_credit_sum d frames = credit_sum first_window 0 d frames (content_by d)

-- the frames from a number on
abbrev pub since : (number : ℕ) → List Frame → List Frame
since number frames = filter (λ (frame : Frame). nat_le number frame.number) frames

-- the credit of side d's window on a stream that was opened at a number, where `initial` is the initial window in force
abbrev pub stream_credit_sum : (initial : ℕ) → Side → (stream opening : ℕ) → List Frame → ℤ
stream_credit_sum initial d stream opening frames = credit_sum initial stream d (since opening frames)
    (content_on d stream)
