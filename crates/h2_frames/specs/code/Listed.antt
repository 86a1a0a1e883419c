-- The frames of a connection, kept as they come, and the cut that they make.
use Rattle.std.specs.Prelude.{◌≡◌, List}
use Rattle.audit_terms.specs.declared.frames.Frame.{Frame}
use Rattle.tcp_streams.specs.declared.flows.Flow.{Flow}
use Rattle.h2_frames.specs.Cut.{IsCut}
use Rattle.h2_frames.specs.code.Orderly.{HasOrderlyFrames}
use Rattle.h2_frames.specs.declared.cuts.Cut.{Cut}
use Rattle.h2_frames.specs.declared.frame_list.FrameList.{FrameList}

-- these are the frames of the list
abbrev pub AreListed : List Frame → FrameList → Type 0
AreListed frames list = list.frames.items ≡ frames

-- the cut of two flows, its frames in order
pub record IsListedCut (client server : Flow) (cut : Cut) : Type 0 where
  pub is : IsCut client server cut
  pub orderly : HasOrderlyFrames cut
