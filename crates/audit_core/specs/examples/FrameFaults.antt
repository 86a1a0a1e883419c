-- Worked examples of frames by themselves: first frames, field blocks, streams of types, lengths.
use Rattle.std.specs.Prelude.{◌≡◌, pos, ◌+◌, [], ◌∷◌}
use Rattle.audit_terms.specs.declared.sides.Side.TheVariants.{Client, Server}
use Rattle.audit_terms.specs.declared.kinds.Kind.TheVariants.{BadPreface, BrokenBlock, TooLong, WrongStream, WrongSize}
use Rattle.audit_terms.specs.declared.kinds.Kind.TheVariants.{BadPadding, BadPriority, LongFrame, ConnectionCredit}
use Rattle.audit_terms.specs.declared.kinds.Kind.TheVariants.{StreamCredit}
use Rattle.audit_terms.specs.declared.frames.Body.TheVariants.{Settings as SettingsBody, SettingsAck, PushPromise, Ping}
use Rattle.audit_terms.specs.Finding.{finding_at}
use Rattle.audit_terms.specs.FrameType.{data_type, headers_type, priority_type, rst_stream_type, settings_type}
use Rattle.audit_terms.specs.FrameType.{push_promise_type, ping_type, ack_flag, end_stream_flag, end_headers_flag}
use Rattle.audit_terms.specs.FrameType.{padded_flag}
use Rattle.audit_terms.specs.Pass.{pass}
use Rattle.audit_terms.specs.code.Settings.{no_settings}
use Rattle.audit_terms.specs.examples.Script.{scripted, data_frame, headers_frame, reset_frame, update_frame}
use Rattle.audit_terms.specs.examples.Script.{promise_frame, settings_frame, ack_frame}
use Rattle.audit_core.specs.examples.Script.{open_headers_frame, continuation_frame, open_continuation_frame}
use Rattle.audit_core.specs.examples.Script.{priority_frame, ping_frame, goaway_frame, unknown_frame}
use Rattle.audit_core.specs.examples.Script.{max_frame_size_frame, unreadable_frame, without_credits, audit_of, all_of}
use Rattle.audit_core.specs.examples.Script.{all_with_credits_of}

-- a first frame that acknowledges is no SETTINGS of its side's preface; one of wrong size is SETTINGS all the same
abbrev pub FirstFrameAcknowledges : Type 0
FirstFrameAcknowledges =
    without_credits (pass (settings_frame 1 Client ∷ ack_frame 2 Server ∷ []))
    ≡ finding_at BadPreface 2 0 Server (pos 4) ∷ []

-- the client begins with a PING
abbrev pub ClientBeginsWithPing : Type 0
ClientBeginsWithPing =
    without_credits (pass (ping_frame 1 Client ∷ [])) ≡ finding_at BadPreface 1 0 Client (pos 6) ∷ []

abbrev pub FirstFrameUnreadable : Type 0
FirstFrameUnreadable =
    without_credits (pass (unreadable_frame 1 Client settings_type 0 0 5 WrongSize 5 ∷ []))
    ≡ finding_at WrongSize 1 0 Client (pos 5) ∷ []

-- a field block goes on, whatever the other side sends
abbrev pub BlockGoesOn : Type 0
BlockGoesOn =
    audit_of (
    open_headers_frame 5 Client 1 0 ∷ ping_frame 6 Server ∷ continuation_frame 7 Client 1 0
    ∷ scripted 8 Server push_promise_type 0 1 4 (PushPromise 2) ∷ continuation_frame 9 Server 1 0 ∷ []) ≡ []

-- and also by CONTINUATION without END_HEADERS
abbrev pub BlockOfThreeFrames : Type 0
BlockOfThreeFrames =
    audit_of (
    open_headers_frame 5 Client 1 0 ∷ open_continuation_frame 6 Client 1 0 ∷ continuation_frame 7 Client 1 0 ∷ []) ≡ []

-- DATA of the block's own stream breaks it, and so does a frame of unknown type
abbrev pub BlockBrokenByData : Type 0
BlockBrokenByData =
    audit_of (open_headers_frame 5 Client 1 0 ∷ data_frame 6 Client 1 0 ∷ [])
    ≡ finding_at BrokenBlock 6 1 Client (pos 0) ∷ []

abbrev pub BlockBrokenByUnknown : Type 0
BlockBrokenByUnknown =
    audit_of (open_headers_frame 5 Client 1 0 ∷ unknown_frame 6 Client 1 0 ∷ [])
    ≡ finding_at BrokenBlock 6 1 Client (pos 10) ∷ []

-- CONTINUATION with no open block, and on another stream than the block's
abbrev pub NoBlockOpen : Type 0
NoBlockOpen =
    audit_of (headers_frame 5 Client 1 ∷ continuation_frame 6 Client 1 0 ∷ [])
    ≡ finding_at BrokenBlock 6 1 Client (pos 9) ∷ []

abbrev pub BlockOfOtherStream : Type 0
BlockOfOtherStream =
    audit_of (headers_frame 5 Client 1 ∷ open_headers_frame 6 Client 3 0 ∷ continuation_frame 7 Client 1 0 ∷ [])
    ≡ finding_at BrokenBlock 7 1 Client (pos 9) ∷ []

-- a block of the other side is none of the sender's own; a broken block does not go on
abbrev pub BlockOfOtherSide : Type 0
BlockOfOtherSide =
    audit_of (open_headers_frame 5 Client 1 0 ∷ continuation_frame 6 Server 1 0 ∷ [])
    ≡ finding_at BrokenBlock 6 1 Server (pos 9) ∷ []

abbrev pub BrokenBlockEnds : Type 0
BrokenBlockEnds =
    all_of (open_headers_frame 5 Client 1 0 ∷ ping_frame 6 Client ∷ continuation_frame 7 Client 1 0 ∷ [])
    ≡ finding_at BrokenBlock 6 0 Client (pos 6) ∷ finding_at BrokenBlock 7 1 Client (pos 9) ∷ []

-- each type of a stream on stream 0, and each of the connection on stream 1; WINDOW_UPDATE and unknown types stand on
-- both
abbrev pub WrongStreams : Type 0
WrongStreams =
    all_of (
    data_frame 5 Client 0 0 ∷ headers_frame 6 Client 0 ∷ priority_frame 7 Client 0 ∷ reset_frame 8 Client 0
    ∷ promise_frame 9 Server 0 2 ∷ continuation_frame 10 Client 0 0
    ∷ scripted 11 Server settings_type 0 1 0 (SettingsBody no_settings)
    ∷ scripted 12 Client settings_type ack_flag 1 0 SettingsAck
    ∷ scripted 13 Client ping_type 0 1 8 Ping ∷ goaway_frame 14 Server 1 8
    ∷ update_frame 15 Server 0 1 ∷ unknown_frame 16 Client 0 1 ∷ unknown_frame 17 Client 1 1 ∷ [])
    ≡ finding_at WrongStream 5 0 Client (pos 0) ∷ finding_at WrongStream 6 0 Client (pos 1)
    ∷ finding_at WrongStream 7 0 Client (pos 2) ∷ finding_at WrongStream 8 0 Client (pos 3)
    ∷ finding_at WrongStream 9 0 Server (pos 5)
    ∷ finding_at BrokenBlock 10 0 Client (pos 9) ∷ finding_at WrongStream 10 0 Client (pos 9)
    ∷ finding_at WrongStream 11 1 Server (pos 4) ∷ finding_at WrongStream 12 1 Client (pos 4)
    ∷ finding_at WrongStream 13 1 Client (pos 6) ∷ finding_at WrongStream 14 1 Server (pos 7) ∷ []

-- frames above the limit that carry a field block or settings, and those on stream 0, readable or not
abbrev pub TooLongFrames : Type 0
TooLongFrames =
    all_of (
    open_headers_frame 5 Client 1 16385 ∷ continuation_frame 6 Client 1 16385
    ∷ scripted 7 Server push_promise_type end_headers_flag 1 16385 (PushPromise 2)
    ∷ scripted 8 Client settings_type 0 0 16386 (SettingsBody no_settings)
    ∷ goaway_frame 9 Server 0 16385 ∷ unknown_frame 10 Client 0 16385
    ∷ unreadable_frame 11 Server ping_type 0 0 16385 WrongSize 16385 ∷ [])
    ≡ finding_at TooLong 5 1 Client (pos 16385) ∷ finding_at TooLong 6 1 Client (pos 16385)
    ∷ finding_at TooLong 7 1 Server (pos 16385) ∷ finding_at TooLong 8 0 Client (pos 16386)
    ∷ finding_at TooLong 9 0 Server (pos 16385) ∷ finding_at TooLong 10 0 Client (pos 16385)
    ∷ finding_at TooLong 11 0 Server (pos 16385) ∷ finding_at WrongSize 11 0 Server (pos 16385) ∷ []

-- a SETTINGS above the limit on a stream ends the audit by its length, before its stream is judged
abbrev pub TooLongSettingsOnStream : Type 0
TooLongSettingsOnStream =
    audit_of (scripted 5 Client settings_type 0 1 16386 (SettingsBody no_settings) ∷ [])
    ≡ finding_at TooLong 5 1 Client (pos 16386) ∷ []

-- frames above the limit of all other types, readable or not
abbrev pub LongFrames : Type 0
LongFrames =
    all_of (
    headers_frame 5 Client 1 ∷ data_frame 6 Client 1 16385 ∷ unknown_frame 7 Client 1 16385
    ∷ unreadable_frame 8 Client priority_type 0 1 16385 BadPriority 16385
    ∷ unreadable_frame 9 Client rst_stream_type 0 1 16385 WrongSize 16385 ∷ [])
    ≡ finding_at LongFrame 6 1 Client (pos 16385) ∷ finding_at LongFrame 7 1 Client (pos 16385)
    ∷ finding_at LongFrame 8 1 Client (pos 16385) ∷ finding_at BadPriority 8 1 Client (pos 16385)
    ∷ finding_at WrongSize 9 1 Client (pos 16385) ∷ finding_at LongFrame 9 1 Client (pos 16385) ∷ []

-- frames as long as a limit and one byte longer, before and after the limit is acknowledged, of each side by its own
abbrev pub FrameLimits : Type 0
FrameLimits =
    audit_of (
    headers_frame 5 Client 1
    ∷ max_frame_size_frame 6 Server 16400 ∷ data_frame 7 Client 1 16385 ∷ ack_frame 8 Client
    ∷ data_frame 9 Client 1 16400 ∷ data_frame 10 Client 1 16401 ∷ data_frame 11 Server 1 16385
    ∷ max_frame_size_frame 12 Client 16390 ∷ ack_frame 13 Server
    ∷ data_frame 14 Server 1 16390 ∷ data_frame 15 Server 1 16391 ∷ [])
    ≡ finding_at LongFrame 7 1 Client (pos 16385) ∷ finding_at LongFrame 10 1 Client (pos 16401)
    ∷ finding_at LongFrame 11 1 Server (pos 16385) ∷ finding_at LongFrame 15 1 Server (pos 16391) ∷ []

-- a frame that cannot be read counts in no window, opens and ends nothing
abbrev pub UnreadableFrames : Type 0
UnreadableFrames =
    all_with_credits_of (
    headers_frame 5 Client 1 ∷ unreadable_frame 6 Client data_type (padded_flag + end_stream_flag) 1 5 BadPadding 5
    ∷ data_frame 7 Client 1 5 ∷ unreadable_frame 8 Client headers_type
    (padded_flag + end_headers_flag) 3 0 WrongSize 0 ∷ [])
    ≡ finding_at StreamCredit 5 1 Client (pos 65535) ∷ finding_at StreamCredit 5 1 Server (pos 65535)
    ∷ finding_at BadPadding 6 1 Client (pos 5)
    ∷ finding_at ConnectionCredit 7 0 Client (pos 65530) ∷ finding_at StreamCredit 7 1 Client (pos 65530)
    ∷ finding_at WrongSize 8 3 Client (pos 0) ∷ []
