-- What a cut keeps beside being the cut. No definition of a report cites this.
use Rattle.audit_terms.specs.code.runs.Orderly.{IsOrderly}
use Rattle.h2_frames.specs.declared.cuts.Cut.{Cut}
use Rattle.h2_frames.specs.declared.cuts.Cut.TheVariants.{Http2}

-- the frames, where there are some, are in range and numbered upwards
abbrev pub HasOrderlyFrames : Cut → Type 0
HasOrderlyFrames (Http2 frames tails) = IsOrderly frames.items
HasOrderlyFrames _ = Unit {0}
