-- The frames that a stream meets.
use Rattle.std.specs.Prelude.{ℕ, ◌^◌, ◌<◌, List, All, length, slice_get}
use Rattle.std.specs.List.{flat_map}
use Rattle.std.specs.Option.{option_to_list}
use Rattle.audit_terms.specs.declared.frames.Frame.{Frame}
use Rattle.audit_terms.specs.code.runs.Orderly.{IsOrderly}
use Rattle.stream_credit.specs.declared.stream_parts.StreamPart.{StreamPart}

-- the frames at some positions
abbrev pub frames_at : List Frame → (positions : List ℕ) → List Frame
frames_at frames positions = flat_map (λ position. option_to_list (slice_get frames position)) positions

-- the frames that the stream meets
abbrev pub frames_met : StreamPart → List Frame
frames_met own = frames_at own.frames.now own.positions.now

-- a stream identifier, positions among the frames, and at these frames in range whose numbers strictly rise
pub record IsStreamPart (own : StreamPart) : Type 0 where
  pub in_range : own.stream < 2 ^ 31
  pub within : All (λ (position : ℕ). position < length own.frames.now) own.positions.now
  pub orderly : IsOrderly (frames_met own)
