-- Frames that are handed to a visitor, one by one.
use Rattle.std.specs.Prelude.{◌≡◌, ℕ, ◌+◌, ◌*◌, ◌<◌, ◌^◌, List, [], ◌∷◌, ◌++◌, length}
use Rattle.audit_terms.specs.Frame.{promised_in}
use Rattle.audit_terms.specs.code.runs.Orderly.{IsInRange, IsOrderly}
use Rattle.audit_terms.specs.declared.frames.Frame.{Frame}
use Rattle.h2_frames.specs.declared.numbering.Numbering.{Numbering}
use Rattle.h2_frames.specs.declared.spelling.Spelled.{Spelled}

-- the frames have the numbers from this one on, one after the other
abbrev pub HaveNumbersFrom : (number : ℕ) → List Frame → Type 0
HaveNumbersFrom number [] = Unit {0}
HaveNumbersFrom number (frame ∷ later) = (frame.number ≡ number) × HaveNumbersFrom (number + 1) later

-- what the numbers of a frame are below, but its own
pub record Fits (s : Spelled) : Type 0 where
  pub stream : s.header.stream < 2 ^ 31
  pub promised : promised_in s.body < 2 ^ 31
  pub length : s.header.length < 2 ^ 24

-- the frame behind these: they are in range with it, their numbers rising
pub record IsNextFrame (frames : List Frame) (frame : Frame) : Type 0 where
  pub number : frame.number ≡ length frames + 1
  pub range : IsInRange frame
  pub orderly : IsOrderly (frames ++ frame ∷ [])

module _ {V : Type 0} (after : List Frame → V → Type 0) where
  -- these are the frames that a visitor was handed
  pub record HasHanded (frames : List Frame) (stage : Numbering V) : Type 0 where
    pub visited : after frames stage.visitor
    pub count : stage.taken ≡ length frames
    pub numbers : HaveNumbersFrom 1 frames
    pub orderly : IsOrderly frames

  -- so many more bytes can hold frames whose numbers fit
  abbrev pub HasRoomFor : (bytes : ℕ) → Numbering V → Type 0
  HasRoomFor bytes stage = (frames : List Frame) × HasHanded frames stage × (9 * length frames + bytes < 2 ^ 31)
