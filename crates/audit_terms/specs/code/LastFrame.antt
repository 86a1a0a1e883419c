-- What is kept of the last frame of a side: all that `breaks_block` asks of it.
use Rattle.std.specs.Prelude.{◌==◌, ◌&&◌, not, Bool, if◌then◌else◌, Option, Some, None}
use Rattle.audit_terms.specs.declared.frames.Frame.{Frame}
use Rattle.audit_terms.specs.FrameType.{continuation_type}
use Rattle.audit_terms.specs.LocalFault.{leaves_block_open}
use Rattle.audit_terms.specs.declared.last_frames.LastFrame.{LastFrame}
use Rattle.audit_terms.specs.declared.last_frames.LastFrame.TheVariants.{Missing, Closed, Open}

-- what is kept of it
abbrev pub last_of : Option Frame → LastFrame
last_of None = Missing
last_of (Some frame) = if leaves_block_open frame then Open frame.stream else Closed

-- does the next frame break a field block, by what is kept?
abbrev pub breaks : LastFrame → Frame → Bool
breaks Missing frame = frame.code == continuation_type
breaks Closed frame = frame.code == continuation_type
breaks (Open stream) frame = not ((frame.code == continuation_type) && (frame.stream == stream))
