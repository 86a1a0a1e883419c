-- The streams that an item opens (RFC 9113, 5.1.1): odd ones by HEADERS of the client, even ones by promises.
use Rattle.std.specs.Prelude.{ℕ, Option, Some, None, if◌then◌else◌}
use Rattle.audit_terms.specs.declared.frames.Frame.{Frame}
use Rattle.audit_terms.specs.declared.items.Item.{Item}
use Rattle.audit_terms.specs.Frame.{promised_in}
use Rattle.audit_terms.specs.Connection.{is_opened_by_headers, is_even_promise}

-- the stream that the HEADERS of an item open
abbrev pub opened_id : Item → Option ℕ
opened_id item = if is_opened_by_headers item then Some item.frame.stream else None

-- the even stream that the server promises by a frame
abbrev pub promise_of : Frame → Option ℕ
promise_of frame = if is_even_promise frame then Some (promised_in frame.body) else None

-- the same by an item
abbrev pub promised_id : Item → Option ℕ
promised_id item = promise_of item.frame
