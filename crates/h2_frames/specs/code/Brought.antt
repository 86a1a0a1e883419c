-- Frames that a record brings.
use Rattle.std.specs.Prelude.{ℕ, ◌+◌, List, [], ◌∷◌}
use Rattle.audit_terms.specs.declared.frames.Frame.{Frame}
use Rattle.h2_frames.specs.CaptureOrder.{captured}
use Rattle.h2_frames.specs.declared.side_frames.Source.{Source}
use Rattle.h2_frames.specs.declared.spelling.Spelled.{Spelled}

-- a connection's frame, of this number, that a record completes
abbrev pub frame_of : Source → (number : ℕ) → Spelled → Frame
frame_of source number s =
    (captured source.side number (record { upto = 0; rec = source.rec; nanos = source.nanos }) s).frame

-- the frames that a record completes, numbered from here on
abbrev pub frames_from : Source → (number : ℕ) → List Spelled → List Frame
frames_from source number [] = []
frames_from source number (s ∷ later) = frame_of source number s ∷ frames_from source (number + 1) later
