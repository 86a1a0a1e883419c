-- The local faults of a connection, gone through by themselves.
use Rattle.std.specs.Prelude.{List, [], ◌∷◌, ◌++◌, Option}
use Rattle.audit_terms.specs.declared.sides.Sides.{Sides}
use Rattle.audit_terms.specs.declared.frames.Frame.{Frame}
use Rattle.audit_terms.specs.declared.findings.Finding.{Finding}
use Rattle.audit_terms.specs.Sides.{side_of}
use Rattle.audit_terms.specs.Finding.{in_order}
use Rattle.audit_terms.specs.LocalFault.{local_said, no_previous, previous_after}

-- the local faults of a list of frames, from the last frame of each side before it
abbrev pub local_run_from : Sides (Option Frame) → List Frame → List Finding
local_run_from previous [] = []
local_run_from previous (frame ∷ frames) =
    in_order (local_said (side_of frame.side previous) frame) ++ local_run_from (previous_after previous frame) frames

-- the local faults of a connection's frames
abbrev pub local_run : List Frame → List Finding
local_run frames = local_run_from no_previous frames
