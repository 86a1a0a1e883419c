-- The connection: each side's connection window, the order of opened streams, the length of frames
-- (RFC 9113, 4.2, 5.1.1, 6.9).
use Rattle.std.specs.Prelude.{ℕ, ℤ, pos, ◌%◌, ◌+ℤ◌, ◌-ℤ◌, max, Bool, ◌==◌, ◌&&◌, ◌||◌, not, nat_lt, nat_le}
use Rattle.std.specs.Prelude.{if◌then◌else◌, List, ◌++◌}
use Rattle.std.specs.Ordering.{int_eq}
use Rattle.audit_terms.specs.declared.sides.Side.{Side}
use Rattle.audit_terms.specs.declared.sides.Side.TheVariants.{Client, Server}
use Rattle.audit_terms.specs.declared.sides.Sides.{Sides}
use Rattle.audit_terms.specs.declared.kinds.Kind.TheVariants.{TooLong, Push, IdNotGreater, ZeroConnectionGrant}
use Rattle.audit_terms.specs.declared.kinds.Kind.TheVariants.{ConnectionOverflow, LongFrame, ConnectionOverrun}
use Rattle.audit_terms.specs.declared.kinds.Kind.TheVariants.{ConnectionStallEnd, ConnectionStallBegin}
use Rattle.audit_terms.specs.declared.kinds.Kind.TheVariants.{ConnectionCredit}
use Rattle.audit_terms.specs.declared.frames.Frame.{Frame}
use Rattle.audit_terms.specs.declared.items.Item.{Item}
use Rattle.audit_terms.specs.declared.connection_state.ConnectionState.{ConnectionState}
use Rattle.audit_terms.specs.declared.findings.Finding.{Finding}
use Rattle.audit_terms.specs.Side.{other}
use Rattle.audit_terms.specs.Sides.{side_of, each_side}
use Rattle.audit_terms.specs.FrameType.{headers_type, settings_type, push_promise_type, continuation_type}
use Rattle.audit_terms.specs.Frame.{is_headers, is_server_promise, promised_in, content_by, grant_to, grants_nothing}
use Rattle.audit_terms.specs.Window.{first_window, overflows, overruns, stall_begins, stall_ends}
use Rattle.audit_terms.specs.Change.{new_limit, new_push}
use Rattle.audit_terms.specs.Finding.{finding_at, say}

-- the greatest frame length at the start (4.2, 6.5.2)
abbrev pub first_limit : ℕ
first_limit = 16384

-- the connection before any frame (5.1.1, 6.5.2, 6.9.2); a server may promise streams until the client forbids it
-- //= https://www.rfc-editor.org/rfc/rfc9113#section-6.5.2
-- //# The initial value is 2^14 (16,384) octets.
-- //= https://www.rfc-editor.org/rfc/rfc9113#section-6.9.2
-- //# The connection flow-control window is also 65,535 octets.
-- //= https://www.rfc-editor.org/rfc/rfc9113#section-6.9.2
-- //# The connection flow-control window can only be changed using WINDOW_UPDATE frames.
abbrev pub connection_start : ConnectionState
connection_start = record {
  credit = each_side (λ _. pos first_window);
  opened = 0;
  promised = 0;
  push = 1;
  limit = each_side (λ _. first_limit);
}

-- what a frame moves the connection credit of side d by: the other side's grants on stream 0, less its own content,
-- whatever the stream (6.9, 6.9.1)
-- //= https://www.rfc-editor.org/rfc/rfc9113#section-6.9
-- //# A receiver that receives a flow-controlled frame MUST always account for its contribution against the connection
-- //# flow-control window, unless the receiver treats this as a connection error (Section 5.4.1).
-- //= https://www.rfc-editor.org/rfc/rfc9113#section-6.9.1
-- //# A sender that receives a WINDOW_UPDATE frame updates the corresponding window by the amount specified in the
-- //# frame.
abbrev pub credit_moved : Side → Frame → ℤ
credit_moved d frame = pos (grant_to d 0 frame) -ℤ pos (content_by d frame)

-- connection credit of side d after a frame, also above the largest window
abbrev pub credit_after : Side → (before : ℤ) → Frame → ℤ
credit_after d before frame = before +ℤ credit_moved d frame

-- HEADERS that open their stream
abbrev pub is_opened_by_headers : Item → Bool
is_opened_by_headers item = item.opens && is_headers item.frame.body

-- a promise of the server of an even stream
abbrev pub is_even_promise : Frame → Bool
is_even_promise frame = is_server_promise frame && (promised_in frame.body % 2 == 0)

-- the connection after an item
abbrev pub connection_after : ConnectionState → Item → ConnectionState
connection_after now item = record {
  credit = each_side (λ d. credit_after d (side_of d now.credit) item.frame);
  opened = (if is_opened_by_headers item then max now.opened item.frame.stream else now.opened);
  promised = (if is_even_promise item.frame then max now.promised (promised_in item.frame.body) else now.promised);
  push = new_push item.change now.push;
  limit = each_side (λ d. new_limit item.change d (side_of d now.limit));
}

-- frames whose excess length is an error of the connection: those that carry a field block or settings, and all on
-- stream 0 (4.2)
abbrev pub is_length_fatal : Frame → Bool
is_length_fatal frame =
    (frame.code == headers_type) || (frame.code == settings_type) || (frame.code == push_promise_type)
    || (frame.code == continuation_type) || (frame.stream == 0)

-- a frame longer than its side's limit (4.2)
-- //= https://www.rfc-editor.org/rfc/rfc9113#section-4.2
-- //# An endpoint MUST send an error code of FRAME_SIZE_ERROR if a frame exceeds the size defined in
-- //# SETTINGS_MAX_FRAME_SIZE, exceeds any limit defined for the frame type, or is too small to contain mandatory
-- //# frame data.
abbrev pub length_said : (limit : ℕ) → Frame → List Finding
length_said limit frame =
    say (nat_lt limit frame.length)
    (finding_at (if is_length_fatal frame then TooLong else LongFrame) frame.number frame.stream frame.side
    (pos frame.length))

-- a stream that the client opens, not above each one that it opened before (5.1.1)
-- //= https://www.rfc-editor.org/rfc/rfc9113#section-5.1.1
-- //# The identifier of a newly established stream MUST be numerically greater than all streams that the initiating
-- //# endpoint has opened or reserved.
abbrev pub opening_order_said : (opened : ℕ) → Item → List Finding
opening_order_said opened item =
    say (is_opened_by_headers item && nat_le item.frame.stream opened)
    (finding_at IdNotGreater item.frame.number item.frame.stream item.frame.side (pos opened))

-- a promise of the server of a stream that is odd or 0, or not above each even one that it promised before (5.1.1)
-- //= https://www.rfc-editor.org/rfc/rfc9113#section-6.6
-- //# A receiver MUST treat the receipt of a PUSH_PROMISE that promises an illegal stream identifier (Section 5.1.1)
-- //# as a connection error (Section 5.4.1) of type PROTOCOL_ERROR.
abbrev pub promise_order_said : (promised : ℕ) → Frame → List Finding
promise_order_said promised frame =
    say (is_server_promise frame && ((promised_in frame.body % 2 == 1) || nat_le (promised_in frame.body) promised))
    (finding_at IdNotGreater frame.number (promised_in frame.body) frame.side (pos promised))

-- a promise of the server while the client takes none (6.5.2, 8.4)
-- //= https://www.rfc-editor.org/rfc/rfc9113#section-6.5.2
-- //# A client that has both set this parameter to 0 and had it acknowledged MUST treat the receipt of a PUSH_PROMISE
-- //# frame as a connection error (Section 5.4.1) of type PROTOCOL_ERROR.
abbrev pub push_said : (push : ℕ) → Frame → List Finding
push_said push frame =
    say (is_server_promise frame && (push == 0)) (finding_at Push frame.number frame.stream frame.side (pos 0))

-- what a frame shows of the connection window of side d, whose credit before it is `before`
abbrev pub connection_window_said : Side → (before : ℤ) → Frame → List Finding
connection_window_said d before frame =
    let after = credit_after d before frame in
    say (grants_nothing d 0 frame) (finding_at ZeroConnectionGrant frame.number 0 (other d) (pos 0))
    ++ say (overflows before after) (finding_at ConnectionOverflow frame.number 0 d after)
    ++ say (overruns before (content_by d frame)) (finding_at ConnectionOverrun frame.number 0 d after)
    ++ say (stall_ends before after) (finding_at ConnectionStallEnd frame.number 0 d after)
    ++ say (stall_begins before after) (finding_at ConnectionStallBegin frame.number 0 d after)
    ++ say (not (int_eq before after)) (finding_at ConnectionCredit frame.number 0 d after)

-- what a frame shows of both connection windows
abbrev pub connection_windows_said : Sides ℤ → Frame → List Finding
connection_windows_said credit frame =
    connection_window_said Client (side_of Client credit) frame
    ++ connection_window_said Server (side_of Server credit) frame

-- what an item shows of the connection; a frame's length is judged by the limit that its own acknowledgement brings
abbrev pub connection_said : ConnectionState → Item → List Finding
connection_said now item =
    length_said (new_limit item.change item.frame.side (side_of item.frame.side now.limit)) item.frame
    ++ push_said now.push item.frame
    ++ opening_order_said now.opened item
    ++ promise_order_said now.promised item.frame
    ++ connection_windows_said now.credit item.frame
