use Rattle.std.proofs.Common.{◌≡◌, map, take}
use Rattle.h2audit.specs.code.KeptFrames.{kept_frames}
use Rattle.h2audit.proofs.each_connection.kept_frames.Given as goal

-- those of the connections so far
abbrev pub invariant-loop-one : goal.invariant-loop-one
invariant-loop-one l =
    map (λ frames. frames.now) l.kept.items ≡ kept_frames (take l.one-index l.told)
