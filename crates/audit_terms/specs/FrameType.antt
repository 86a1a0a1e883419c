-- The type byte and the flags of a frame (RFC 9113, 4.1 and 6).
use Rattle.std.specs.Prelude.{ℕ, Bool, ◌==◌, not, bit_and}

abbrev pub data_type : ℕ
data_type = 0

abbrev pub headers_type : ℕ
headers_type = 1

abbrev pub priority_type : ℕ
priority_type = 2

abbrev pub rst_stream_type : ℕ
rst_stream_type = 3

abbrev pub settings_type : ℕ
settings_type = 4

abbrev pub push_promise_type : ℕ
push_promise_type = 5

abbrev pub ping_type : ℕ
ping_type = 6

abbrev pub goaway_type : ℕ
goaway_type = 7

abbrev pub window_update_type : ℕ
window_update_type = 8

abbrev pub continuation_type : ℕ
continuation_type = 9

-- END_STREAM, of DATA and HEADERS (6.1, 6.2)
abbrev pub end_stream_flag : ℕ
end_stream_flag = 1

-- ACK, of SETTINGS (6.5)
abbrev pub ack_flag : ℕ
ack_flag = 1

-- END_HEADERS, of HEADERS, PUSH_PROMISE and CONTINUATION (6.2, 6.6, 6.10)
abbrev pub end_headers_flag : ℕ
end_headers_flag = 4

-- PADDED, of DATA, HEADERS and PUSH_PROMISE (6.1, 6.2, 6.6)
abbrev pub padded_flag : ℕ
padded_flag = 8

-- is this flag, a single bit, set?
abbrev pub has_flag : (flags flag : ℕ) → Bool
has_flag flags flag = not (bit_and flags flag == 0)
