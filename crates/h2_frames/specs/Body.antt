-- What a frame carries, by its type, its flags and its payload (RFC 9113, 6.1 to 6.10). Where a payload has several
-- faults, the first line of its definition that applies names the one.
use Rattle.std.specs.Prelude.{ℕ, ◌+◌, ◌-◌, ◌%◌, Bool, ◌&&◌, ◌==◌, nat_lt, if◌then◌else◌, List, length, drop}
use Rattle.std.specs.Prelude.{slice_index}
use Rattle.audit_terms.specs.declared.frames.Body.{Body}
use Rattle.audit_terms.specs.declared.frames.Body.TheVariants.{Content, Headers, Priority, RstStream, Settings}
use Rattle.audit_terms.specs.declared.frames.Body.TheVariants.{SettingsAck, PushPromise, Ping, GoAway, WindowUpdate}
use Rattle.audit_terms.specs.declared.frames.Body.TheVariants.{Continuation, Unknown, Unreadable}
use Rattle.audit_terms.specs.declared.kinds.Kind.TheVariants.{WrongSize, BadPadding, BadPriority}
use Rattle.audit_terms.specs.FrameType.{has_flag, ack_flag, padded_flag, data_type, headers_type, priority_type}
use Rattle.audit_terms.specs.FrameType.{rst_stream_type, settings_type, push_promise_type, ping_type, goaway_type}
use Rattle.audit_terms.specs.FrameType.{window_update_type, continuation_type}
use Rattle.h2_frames.specs.Header.{number_of_31_bits}
use Rattle.h2_frames.specs.Settings.{settings_of}

-- the flag PRIORITY (6.2)
abbrev pub priority_flag : ℕ
priority_flag = 32

-- padding, and its length, are there
abbrev pub is_padded : ℕ → Bool
is_padded flags = has_flag flags padded_flag

-- with PADDED, the first byte of the payload is the length of the padding at its end
abbrev pub pad_length : List ℕ → ℕ
pad_length payload = slice_index payload 0

-- a payload whose length does not fit the type (4.2)
abbrev pub wrong_size : List ℕ → Body
wrong_size payload = Unreadable WrongSize (length payload)

-- a payload that has to be this long
abbrev pub of_length : ℕ → List ℕ → Body → Body
of_length n payload body = if length payload == n then body else wrong_size payload

-- what must be there stands behind the length of the padding, where there is padding, and is this long at least (DATA
-- 6.1, HEADERS 6.2, PUSH_PROMISE 6.6); padding longer than what is left is an error
-- //= https://www.rfc-editor.org/rfc/rfc9113#section-6.1
-- //# If the length of the padding is the length of the frame payload or greater, the recipient MUST treat this as a
-- //# connection error (Section 5.4.1) of type PROTOCOL_ERROR.
-- //= https://www.rfc-editor.org/rfc/rfc9113#section-6.2
-- //# If the length of the padding is the length of the frame payload or greater, the recipient MUST treat this as a
-- //# connection error (Section 5.4.1) of type PROTOCOL_ERROR.
-- //= https://www.rfc-editor.org/rfc/rfc9113#section-6.6
-- //# If the length of the padding is the length of the frame payload or greater, the recipient MUST treat this as a
-- //# connection error (Section 5.4.1) of type PROTOCOL_ERROR.
abbrev pub padded_body : ℕ → List ℕ → ℕ → Body → Body
padded_body flags payload fields body =
    let needed = (if is_padded flags then 1 else 0) + fields in
    if nat_lt (length payload) needed then wrong_size payload
    else if is_padded flags && nat_lt (length payload - needed) (pad_length payload)
    then Unreadable BadPadding (pad_length payload)
    else body

-- SETTINGS (6.5): an acknowledgement is empty, other payloads are whole pairs of six bytes
-- //= https://www.rfc-editor.org/rfc/rfc9113#section-6.5
-- //# Receipt of a SETTINGS frame with the ACK flag set and a length field value other than 0 MUST be treated as a
-- //# connection error (Section 5.4.1) of type FRAME_SIZE_ERROR.
-- //= https://www.rfc-editor.org/rfc/rfc9113#section-6.5
-- //# A SETTINGS frame with a length other than a multiple of 6 octets MUST be treated as a connection error (Section
-- //# 5.4.1) of type FRAME_SIZE_ERROR.
abbrev pub settings_body : ℕ → List ℕ → Body
settings_body flags payload =
    if has_flag flags ack_flag then of_length 0 payload SettingsAck
    else if length payload % 6 == 0 then Settings (settings_of payload)
    else wrong_size payload

-- by the type byte: DATA 6.1; HEADERS 6.2, where five bytes on the stream's priority follow with the flag PRIORITY;
-- PRIORITY 6.3; RST_STREAM 6.4; PUSH_PROMISE 6.6, which begins with the promised stream; PING 6.7; GOAWAY 6.8: a
-- stream, an error code, and debug data of any length; WINDOW_UPDATE 6.9: the increment behind a reserved bit;
-- CONTINUATION 6.10; an unknown type is no error (5.5)
-- //= https://www.rfc-editor.org/rfc/rfc9113#section-6.3
-- //# A PRIORITY frame with a length other than 5 octets MUST be treated as a stream error (Section 5.4.2) of type
-- //# FRAME_SIZE_ERROR.
-- //= https://www.rfc-editor.org/rfc/rfc9113#section-6.4
-- //# A RST_STREAM frame with a length other than 4 octets MUST be treated as a connection error (Section 5.4.1) of
-- //# type FRAME_SIZE_ERROR.
-- //= https://www.rfc-editor.org/rfc/rfc9113#section-6.7
-- //# Receipt of a PING frame with a length field value other than 8 MUST be treated as a connection error (Section
-- //# 5.4.1) of type FRAME_SIZE_ERROR.
-- //= https://www.rfc-editor.org/rfc/rfc9113#section-4.2
-- //# An endpoint MUST send an error code of FRAME_SIZE_ERROR if a frame exceeds the size defined in
-- //# SETTINGS_MAX_FRAME_SIZE, exceeds any limit defined for the frame type, or is too small to contain mandatory
-- //# frame data.
-- //= https://www.rfc-editor.org/rfc/rfc9113#section-6.9
-- //# A WINDOW_UPDATE frame with a length other than 4 octets MUST be treated as a connection error (Section 5.4.1) of
-- //# type FRAME_SIZE_ERROR.
-- //= https://www.rfc-editor.org/rfc/rfc9113#section-6.10
-- //# is used to continue a sequence of field block fragments (Section 4.3).
-- //= https://www.rfc-editor.org/rfc/rfc9113#section-5.5
-- //# Implementations MUST ignore unknown or unsupported values in all extensible protocol elements.
abbrev pub body_of : ℕ → ℕ → List ℕ → Body
body_of code flags payload =
    if code == data_type then padded_body flags payload 0 Content
    else if code == headers_type then padded_body flags payload (if has_flag flags priority_flag then 5 else 0) Headers
    else if code == priority_type
    then (if length payload == 5 then Priority else Unreadable BadPriority (length payload))
    else if code == rst_stream_type then of_length 4 payload RstStream
    else if code == settings_type then settings_body flags payload
    else if code == push_promise_type then padded_body flags payload 4
    (PushPromise (number_of_31_bits (drop (if is_padded flags then 1 else 0) payload)))
    else if code == ping_type then of_length 8 payload Ping
    else if code == goaway_type then (if nat_lt (length payload) 8 then wrong_size payload else GoAway)
    else if code == window_update_type then of_length 4 payload (WindowUpdate (number_of_31_bits payload))
    else if code == continuation_type then Continuation
    else Unknown
