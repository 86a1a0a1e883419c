-- Which frames open streams, as the streams by themselves tell (RFC 9113, 5.1).
use Rattle.std.specs.Prelude.{ℕ, List}
use Rattle.std.specs.Option.{option_to_list}
use Rattle.std.specs.List.{flat_map}
use Rattle.audit_terms.specs.declared.frames.Frame.{Frame}
use Rattle.audit_terms.specs.code.runs.Changes.{changes_of}
use Rattle.audit_terms.specs.code.runs.Streams.{frames_of, stream_at_end}

-- the number of the frame that opens the stream, if one does
abbrev pub opening_of : List Frame → (stream : ℕ) → List ℕ
opening_of frames stream =
    option_to_list (stream_at_end stream (frames_of stream frames) (changes_of frames)).life.opened

-- the numbers of the frames that open some streams
abbrev pub openings_of : List Frame → List ℕ → List ℕ
openings_of frames streams = flat_map (opening_of frames) streams
