-- The streams that a pass looks at are those that its frames meet.
use Rattle.std.specs.Prelude.{◌≡◌, ◌≢◌, ℕ, ◌==◌, ◌&&◌, not, List}
use Rattle.std.specs.List.{list_any}
use Rattle.audit_terms.specs.declared.frames.Frame.{Frame}
use Rattle.audit_terms.specs.Frame.{meets}
use Rattle.audit_terms.specs.Pass.{streams_of}
use Rattle.audit_terms.specs.laws.Pairs.{EachPair}

-- a stream is named where it is not 0 and meets one of the frames
abbrev pub StreamsAreThoseMet : Type 0
StreamsAreThoseMet = (stream : ℕ) (frames : List Frame) →
    list_any (λ other. other == stream) (streams_of frames) ≡ (not (stream == 0) && list_any (meets stream) frames)

-- no stream is named twice
abbrev pub StreamsAreNamedOnce : Type 0
StreamsAreNamedOnce = (frames : List Frame) → EachPair (λ stream other. stream ≢ other) (streams_of frames)
