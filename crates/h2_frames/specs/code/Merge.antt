-- Frames of two sides, each side's in order, put in order by what stands first. No public clause cites this.
use Rattle.std.specs.Prelude.{List, [], ◌∷◌, if◌then◌else◌}
use Rattle.h2_frames.specs.declared.side_frames.SideFrame.{SideFrame}
use Rattle.h2_frames.specs.CaptureOrder.{comes_after}

-- the first frame of one side, and how its later ones go with the other's
abbrev pub merged_with : SideFrame → (later : List SideFrame → List SideFrame) → List SideFrame → List SideFrame
merged_with x later [] = x ∷ later []
merged_with x later (y ∷ ys) = if comes_after x y then y ∷ merged_with x later ys else x ∷ later (y ∷ ys)

-- the frames of both sides
abbrev pub merged : (client server : List SideFrame) → List SideFrame
merged [] ys = ys
merged (x ∷ xs) ys = merged_with x (merged xs) ys
