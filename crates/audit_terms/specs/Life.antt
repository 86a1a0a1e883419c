-- The life of a stream by its frames (RFC 9113, 5.1, 5.1.1, 6.6): its opening, its ends, and the frames that stand
-- outside.
use Rattle.std.specs.Prelude.{ℕ, ◌%◌, Bool, false, ◌==◌, ◌&&◌, ◌||◌, not, if◌then◌else◌, Some, None, is_some, is_none}
use Rattle.audit_terms.specs.declared.sides.Side.{Side}
use Rattle.audit_terms.specs.declared.sides.Side.TheVariants.{Client, Server}
use Rattle.audit_terms.specs.declared.frames.Frame.{Frame}
use Rattle.audit_terms.specs.declared.lives.StreamLife.{StreamLife}
use Rattle.audit_terms.specs.Side.{is_side}
use Rattle.audit_terms.specs.Sides.{side_of, each_side}
use Rattle.audit_terms.specs.Frame.{is_content, is_headers, is_reset, is_client_headers, is_server_promise, promises}
use Rattle.audit_terms.specs.Frame.{needs_opening, sends_end, sends_reset}

-- a stream that no frame has met (5.1, idle)
abbrev pub idle_life : StreamLife
idle_life = record { opened = None; ended = each_side (λ _. false) }

-- a stream is opened by the first HEADERS of the client, where its identifier is odd, or by the first promise of the
-- server, where it is even (5.1.1)
-- //= https://www.rfc-editor.org/rfc/rfc9113#section-5.1.1
-- //# Streams initiated by a client MUST use odd-numbered stream identifiers; those initiated by the server MUST use
-- //# even-numbered stream identifiers.
abbrev pub is_opening : (stream : ℕ) → StreamLife → Frame → Bool
is_opening stream life frame =
    is_none life.opened && (((stream % 2 == 1) && is_client_headers frame) || promises stream frame)

-- endpoint d sends nothing more on the stream: its END_STREAM or RST_STREAM (6.1, 6.2, 6.4), and of a promised stream
-- the client never sends (5.1, reserved)
abbrev pub is_last_of : Side → (stream : ℕ) → Frame → Bool
is_last_of d stream frame = sends_end d frame || sends_reset d frame || (is_side Client d && promises stream frame)

-- the window of endpoint d ends: its END_STREAM, or a RST_STREAM of either (5.1)
-- //= https://www.rfc-editor.org/rfc/rfc9113#section-5.1
-- //# Either endpoint can send a RST_STREAM frame from this state, causing it to transition immediately to "closed".
abbrev pub ends_window : Side → Frame → Bool
ends_window d frame = sends_end d frame || is_reset frame.body

-- the stream after a frame that it meets; only an opened stream ends
-- //= https://www.rfc-editor.org/rfc/rfc9113#section-5.1
-- //# An endpoint sending an END_STREAM flag causes the stream state to become "half-closed (local)"; an endpoint
-- //# receiving an END_STREAM flag causes the stream state to become "half-closed (remote)".
abbrev pub life_after : (stream : ℕ) → StreamLife → Frame → StreamLife
life_after stream life frame =
    let opening = is_opening stream life frame in
    record {
      opened = (if opening then Some frame.number else life.opened);
      ended = each_side (λ d. side_of d life.ended || ((opening || is_some life.opened) && is_last_of d stream frame));
    }

-- a promise of the server on a stream on which it can promise nothing: one of its own, one that is not opened, or one
-- that it has ended (6.6)
-- //= https://www.rfc-editor.org/rfc/rfc9113#section-6.6
-- //# A receiver MUST treat the receipt of a PUSH_PROMISE on a stream that is neither "open" nor "half-closed (local)"
-- //# as a connection error (Section 5.4.1) of type PROTOCOL_ERROR.
abbrev pub is_misplaced_promise : (stream : ℕ) → StreamLife → Frame → Bool
is_misplaced_promise stream life frame =
    is_server_promise frame && (frame.stream == stream)
    && ((stream % 2 == 0) || is_none life.opened || side_of Server life.ended)

-- a frame that needs an opened stream, and finds none
-- //= https://www.rfc-editor.org/rfc/rfc9113#section-5.1
-- //# Receiving any frame other than HEADERS or PRIORITY on a stream in this state MUST be treated as a connection
-- //# error (Section 5.4.1) of type PROTOCOL_ERROR.
abbrev pub is_not_opened : (stream : ℕ) → StreamLife → Frame → Bool
is_not_opened stream life frame =
    (needs_opening frame && is_none life.opened && not (is_opening stream life frame))
    || is_misplaced_promise stream life frame

-- DATA or HEADERS of an endpoint that has ended the stream (5.1)
-- //= https://www.rfc-editor.org/rfc/rfc9113#section-5.1
-- //# If an endpoint receives additional frames, other than WINDOW_UPDATE, PRIORITY, or RST_STREAM, for a stream that
-- //# is in this state, it MUST respond with a stream error (Section 5.4.2) of type STREAM_CLOSED.
abbrev pub is_after_end : StreamLife → Frame → Bool
is_after_end life frame =
    (is_content frame.body || is_headers frame.body) && is_some life.opened && side_of frame.side life.ended
