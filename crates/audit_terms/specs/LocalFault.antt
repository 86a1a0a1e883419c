-- What a frame and the frame of its side just before it show by themselves (RFC 9113, 3.4, 4.3, 6). These rules go by
-- the type byte, the flags and the stream; only what cannot be read goes by the body.
use Rattle.std.specs.Prelude.{ℕ, pos, Bool, ◌==◌, ◌&&◌, ◌||◌, not, if◌then◌else◌, List, [], ◌∷◌, ◌++◌, Option, Some}
use Rattle.std.specs.Prelude.{None, is_none}
use Rattle.audit_terms.specs.declared.sides.Side.TheVariants.{Client}
use Rattle.audit_terms.specs.declared.sides.Sides.{Sides}
use Rattle.audit_terms.specs.declared.kinds.Kind.{Kind}
use Rattle.audit_terms.specs.declared.kinds.Kind.TheVariants.{BadPreface, BrokenBlock, WrongStream, WrongSize}
use Rattle.audit_terms.specs.declared.kinds.Kind.TheVariants.{BadPadding, BadSetting, Push, BadPriority}
use Rattle.audit_terms.specs.declared.frames.Body.{Body}
use Rattle.audit_terms.specs.declared.frames.Body.TheVariants.{Settings as SettingsBody, Unreadable}
use Rattle.audit_terms.specs.declared.frames.Frame.{Frame}
use Rattle.audit_terms.specs.declared.findings.Finding.{Finding}
use Rattle.audit_terms.specs.Side.{is_side}
use Rattle.audit_terms.specs.Sides.{side_of, each_side}
use Rattle.audit_terms.specs.FrameType.{data_type, headers_type, priority_type, rst_stream_type, settings_type}
use Rattle.audit_terms.specs.FrameType.{push_promise_type, ping_type, goaway_type, continuation_type, ack_flag}
use Rattle.audit_terms.specs.FrameType.{end_headers_flag, has_flag}
use Rattle.audit_terms.specs.Finding.{finding_at, say, say_of}

-- a SETTINGS frame that is no acknowledgement, as each side's first frame is to be (3.4)
abbrev pub is_settings : Frame → Bool
is_settings frame = (frame.code == settings_type) && not (has_flag frame.flags ack_flag)

-- a field block that further CONTINUATION frames go on with (4.3, 6.2, 6.6, 6.10)
abbrev pub leaves_block_open : Frame → Bool
leaves_block_open frame =
    ((frame.code == headers_type) || (frame.code == push_promise_type) || (frame.code == continuation_type))
    && not (has_flag frame.flags end_headers_flag)

-- an open block goes on with a CONTINUATION on its stream and nothing else, and no block goes on unless it is open
-- (4.3, 6.10)
-- //= https://www.rfc-editor.org/rfc/rfc9113#section-4.3
-- //# Field blocks MUST be transmitted as a contiguous sequence of frames, with no interleaved frames of any other
-- //# type or from any other stream.
-- //= https://www.rfc-editor.org/rfc/rfc9113#section-6.10
-- //# A recipient that observes violation of this rule MUST respond with a connection error (Section 5.4.1) of type
-- //# PROTOCOL_ERROR.
abbrev pub breaks_block : Option Frame → Frame → Bool
breaks_block None frame = frame.code == continuation_type
breaks_block (Some previous) frame =
    if leaves_block_open previous
    then not ((frame.code == continuation_type) && (frame.stream == previous.stream))
    else frame.code == continuation_type

-- frames of these types are of a stream (6.1 to 6.4, 6.6, 6.10)
abbrev pub needs_stream : (code : ℕ) → Bool
needs_stream code =
    (code == data_type) || (code == headers_type) || (code == priority_type) || (code == rst_stream_type)
    || (code == push_promise_type) || (code == continuation_type)

-- frames of these types are of the connection (6.5, 6.7, 6.8)
abbrev pub needs_connection : (code : ℕ) → Bool
needs_connection code = (code == settings_type) || (code == ping_type) || (code == goaway_type)

-- a frame of a stream on stream 0, or one of the connection on another
-- //= https://www.rfc-editor.org/rfc/rfc9113#section-6.1
-- //# DATA frames MUST be associated with a stream.
-- //= https://www.rfc-editor.org/rfc/rfc9113#section-6.5
-- //# SETTINGS frames always apply to a connection, never a single stream.
abbrev pub is_on_wrong_stream : Frame → Bool
is_on_wrong_stream frame = if frame.stream == 0 then needs_stream frame.code else needs_connection frame.code

-- a fault of the frame's sender
abbrev pub fault : Kind → Frame → ℕ → Finding
fault kind frame value = finding_at kind frame.number frame.stream frame.side (pos value)

-- the ways in which a payload cannot be read (4.2, 6)
-- //= https://www.rfc-editor.org/rfc/rfc9113#section-4.2
-- //# An endpoint MUST send an error code of FRAME_SIZE_ERROR if a frame exceeds the size defined in
-- //# SETTINGS_MAX_FRAME_SIZE, exceeds any limit defined for the frame type, or is too small to contain mandatory
-- //# frame data.
-- //= https://www.rfc-editor.org/rfc/rfc9113#section-6.3
-- //# A PRIORITY frame with a length other than 5 octets MUST be treated as a stream error (Section 5.4.2) of type
-- //# FRAME_SIZE_ERROR.
abbrev pub reading_fault : Kind → Frame → ℕ → List Finding
reading_fault WrongSize frame value = fault WrongSize frame value ∷ []
reading_fault BadPadding frame value = fault BadPadding frame value ∷ []
reading_fault BadPriority frame value = fault BadPriority frame value ∷ []
reading_fault _ frame value = []

-- what the body shows: a payload that cannot be read, or a setting out of range (6.5.2)
-- //= https://www.rfc-editor.org/rfc/rfc9113#section-6.5.2
-- //# Values outside this range MUST be treated as a connection error (Section 5.4.1) of type PROTOCOL_ERROR.
abbrev pub body_said : Frame → Body → List Finding
body_said frame (Unreadable kind value) = reading_fault kind frame value
body_said frame (SettingsBody settings) = say_of (λ identifier. fault BadSetting frame identifier ∷ []) settings.bad
body_said frame _ = []

-- the findings of a frame, given the frame of its side just before it; a client promises nothing (8.4)
-- //= https://www.rfc-editor.org/rfc/rfc9113#section-3.4
-- //# Clients and servers MUST treat an invalid connection preface as a connection error (Section 5.4.1) of type
-- //# PROTOCOL_ERROR.
-- //= https://www.rfc-editor.org/rfc/rfc9113#section-8.4
-- //# A client cannot push. Thus, servers MUST treat the receipt of a PUSH_PROMISE frame as a connection error
-- //# (Section 5.4.1) of type PROTOCOL_ERROR.
abbrev pub local_said : Option Frame → Frame → List Finding
local_said previous frame =
    say (is_none previous && not (is_settings frame)) (fault BadPreface frame frame.code)
    ++ say (breaks_block previous frame) (fault BrokenBlock frame frame.code)
    ++ say (is_on_wrong_stream frame) (fault WrongStream frame frame.code)
    ++ body_said frame frame.body
    ++ say ((frame.code == push_promise_type) && is_side Client frame.side) (fault Push frame 0)

-- the last frame of each side
abbrev pub previous_after : Sides (Option Frame) → Frame → Sides (Option Frame)
previous_after previous frame = each_side (λ d. if is_side d frame.side then Some frame else side_of d previous)

-- no frame of either side
abbrev pub no_previous : Sides (Option Frame)
no_previous = each_side (λ _. None)
