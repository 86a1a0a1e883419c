-- One flow-control window (RFC 9113, 6.9 and 6.9.1): what a frame does to its credit, by the credit before and after.
use Rattle.std.specs.Prelude.{ℕ, ℤ, pos, ◌-◌, ◌^◌, Bool, ◌&&◌, not, nat_lt, int_lt, int_le}

-- no window exceeds this credit (6.9.1)
abbrev pub largest_window : ℤ
largest_window = pos (2 ^ 31 - 1)

-- the credit with which each window begins: of the connection always, of a stream until settings change it (6.9.2)
abbrev pub first_window : ℕ
first_window = 65535

-- no credit is left, or less than none (6.9.2)
abbrev pub is_used_up : ℤ → Bool
is_used_up credit = int_le credit (pos 0)

-- credit that is used up from here on
abbrev pub stall_begins : (before after : ℤ) → Bool
stall_begins before after = not (is_used_up before) && is_used_up after

-- credit that is there again
abbrev pub stall_ends : (before after : ℤ) → Bool
stall_ends before after = is_used_up before && not (is_used_up after)

-- credit that rises above the largest window (6.9.1)
-- //= https://www.rfc-editor.org/rfc/rfc9113#section-6.9.1
-- //# A sender MUST NOT allow a flow-control window to exceed 2^31-1 octets.
abbrev pub overflows : (before after : ℤ) → Bool
overflows before after = int_lt before after && int_lt largest_window after

-- content above the credit before it (6.9); an empty frame is never above it (6.9.1)
-- //= https://www.rfc-editor.org/rfc/rfc9113#section-6.9.1
-- //# The sender MUST NOT send a flow-controlled frame with a length that exceeds the space available in either of the
-- //# flow-control windows advertised by the receiver.
abbrev pub overruns : (before : ℤ) → (content : ℕ) → Bool
overruns before content = nat_lt 0 content && int_lt before (pos content)
