-- What a frame does to windows, streams and settings (RFC 9113, 4 and 6). These rules go by the body:
-- a frame whose payload cannot be read does nothing.
use Rattle.std.specs.Prelude.{ℕ, ◌%◌, Bool, true, false, ◌==◌, ◌&&◌, ◌||◌, not, if◌then◌else◌, List, [], ◌∷◌}
use Rattle.audit_terms.specs.declared.sides.Side.{Side}
use Rattle.audit_terms.specs.declared.sides.Side.TheVariants.{Client, Server}
use Rattle.audit_terms.specs.declared.settings.Settings.{Settings}
use Rattle.audit_terms.specs.declared.frames.Body.{Body}
use Rattle.audit_terms.specs.declared.frames.Body.TheVariants.{Content, Headers, RstStream, Settings as SettingsBody}
use Rattle.audit_terms.specs.declared.frames.Body.TheVariants.{SettingsAck, PushPromise, WindowUpdate}
use Rattle.audit_terms.specs.declared.frames.Frame.{Frame}
use Rattle.audit_terms.specs.Side.{other, is_side}
use Rattle.audit_terms.specs.FrameType.{has_flag, end_stream_flag}

-- DATA (6.1)
abbrev pub is_content : Body → Bool
is_content Content = true
is_content _ = false

-- HEADERS (6.2)
abbrev pub is_headers : Body → Bool
is_headers Headers = true
is_headers _ = false

-- RST_STREAM (6.4)
abbrev pub is_reset : Body → Bool
is_reset RstStream = true
is_reset _ = false

-- SETTINGS with ACK (6.5)
abbrev pub is_ack : Body → Bool
is_ack SettingsAck = true
is_ack _ = false

-- WINDOW_UPDATE (6.9)
abbrev pub is_update : Body → Bool
is_update (WindowUpdate _) = true
is_update _ = false

-- the increment of a WINDOW_UPDATE (6.9), 0 of any other
abbrev pub increment : Body → ℕ
increment (WindowUpdate amount) = amount
increment _ = 0

-- a WINDOW_UPDATE whose increment is 0 (6.9)
abbrev pub is_zero_grant : Body → Bool
is_zero_grant body = is_update body && (increment body == 0)

-- the settings of a SETTINGS frame (6.5), none of any other
abbrev pub settings_in : Body → List Settings
settings_in (SettingsBody settings) = settings ∷ []
settings_in _ = []

-- the promised stream of a PUSH_PROMISE (6.6), 0 of any other
abbrev pub promised_in : Body → ℕ
promised_in (PushPromise stream) = stream
promised_in _ = 0

-- PUSH_PROMISE (6.6)
abbrev pub is_promise : Body → Bool
is_promise (PushPromise _) = true
is_promise _ = false

-- a promise of the server that can be read
abbrev pub is_server_promise : Frame → Bool
is_server_promise frame = is_side Server frame.side && is_promise frame.body

-- HEADERS of the client
abbrev pub is_client_headers : Frame → Bool
is_client_headers frame = is_side Client frame.side && is_headers frame.body

-- the server promises the stream, an even one, by a frame on another stream (5.1.1, 6.6)
abbrev pub promises : (stream : ℕ) → Frame → Bool
promises stream frame =
    is_server_promise frame && (promised_in frame.body == stream) && (stream % 2 == 0) && not (frame.stream == stream)

-- the stream that a frame promises, 0 where it promises none
abbrev pub promised_by : Frame → ℕ
promised_by frame = if promises (promised_in frame.body) frame then promised_in frame.body else 0

-- the stream meets the frame: it is on the stream, or promises it
-- //= https://www.rfc-editor.org/rfc/rfc9113#section-6.6
-- //# is used to notify the peer endpoint in advance of streams the sender intends to initiate.
abbrev pub meets : (stream : ℕ) → Frame → Bool
meets stream frame = (frame.stream == stream) || promises stream frame

-- the flow-controlled length that endpoint d sends with this frame (6.9.1): all of a DATA frame, padding included
-- //= https://www.rfc-editor.org/rfc/rfc9113#section-6.1
-- //# The entire DATA frame payload is included in flow control, including the Pad Length and Padding fields if
-- //# present.
-- //= https://www.rfc-editor.org/rfc/rfc9113#section-6.9.1
-- //# After sending a flow-controlled frame, the sender reduces the space available in both windows by the length of
-- //# the transmitted frame.
abbrev pub content_by : Side → Frame → ℕ
content_by d frame = if is_side d frame.side && is_content frame.body then frame.length else 0

-- what this frame grants to endpoint d on the stream, or on the connection where the stream is 0 (6.9)
abbrev pub grant_to : Side → ℕ → Frame → ℕ
grant_to d stream frame = if is_side (other d) frame.side && (frame.stream == stream) then increment frame.body else 0

-- the other endpoint grants 0 to endpoint d on the stream (6.9)
-- //= https://www.rfc-editor.org/rfc/rfc9113#section-6.9
-- //# A receiver MUST treat the receipt of a WINDOW_UPDATE frame with a flow-control window increment of 0 as a stream
-- //# error (Section 5.4.2) of type PROTOCOL_ERROR; errors on the connection flow-control window MUST be treated as a
-- //# connection error (Section 5.4.1).
abbrev pub grants_nothing : Side → ℕ → Frame → Bool
grants_nothing d stream frame = is_side (other d) frame.side && (frame.stream == stream) && is_zero_grant frame.body

-- endpoint d ends its side of the stream with this DATA or HEADERS (5.1, 6.1, 6.2)
abbrev pub sends_end : Side → Frame → Bool
sends_end d frame = is_side d frame.side && (is_content frame.body || is_headers frame.body)
    && has_flag frame.flags end_stream_flag

-- endpoint d resets the stream (6.4)
abbrev pub sends_reset : Side → Frame → Bool
sends_reset d frame = is_side d frame.side && is_reset frame.body

-- frames that only an opened stream carries (5.1)
abbrev pub needs_opening : Frame → Bool
needs_opening frame = is_content frame.body || is_headers frame.body || is_reset frame.body || is_update frame.body
