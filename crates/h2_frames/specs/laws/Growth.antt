-- Laws of growth: frames that are told as soon as their bytes are there, record by record, stand in capture order.
use Rattle.std.specs.Prelude.{◌≡◌, ℕ, ◌+◌, ◌<◌, All, List, ◌++◌, length}
use Rattle.audit_terms.specs.Order.{ordered_by}
use Rattle.h2_frames.specs.declared.side_frames.SideFrame.{SideFrame}
use Rattle.h2_frames.specs.CaptureOrder.{capture_order, comes_after, numbered}

-- each frame was there before this record
abbrev pub AreBefore : ℕ → List SideFrame → Type 0
AreBefore rec frames = All (λ (x : SideFrame). x.frame.rec < rec) frames

-- the frames that a record completes: each is there with it, and they stand in order, as those of one side do
pub record AreThereWith (rec : ℕ) (frames : List SideFrame) : Type 0 where
  pub arrive : All (λ (x : SideFrame). x.frame.rec ≡ rec) frames
  pub in_order : ordered_by comes_after frames ≡ frames

-- a record completes frames of one side, of whichever: they follow those that were there
abbrev pub CaptureOrderGrows : Type 0
CaptureOrderGrows =
    (rec : ℕ) (client server more : List SideFrame)
    → AreBefore rec client → AreBefore rec server → AreThereWith rec more
    → (capture_order (client ++ more) server
    ≡ capture_order client server ++ numbered (1 + (length client + length server)) more)
    × (capture_order client (server ++ more)
    ≡ capture_order client server ++ numbered (1 + (length client + length server)) more)
