-- The kinds of findings: their ranks, what each rank is, and the words that a report prints.
use Rattle.std.specs.Prelude.{ℕ, Bool, ◌==◌, ◌||◌, nat_le, List, codes}
use Rattle.audit_terms.specs.declared.kinds.Kind.{Kind}
use Rattle.audit_terms.specs.declared.kinds.Kind.TheVariants.{BadPreface, BrokenBlock, TooLong, WrongStream, WrongSize}
use Rattle.audit_terms.specs.declared.kinds.Kind.TheVariants.{BadPadding, BadSetting, Push, NotOpened, IdNotGreater}
use Rattle.audit_terms.specs.declared.kinds.Kind.TheVariants.{ZeroConnectionGrant, ConnectionOverflow, SettingOverflow}
use Rattle.audit_terms.specs.declared.kinds.Kind.TheVariants.{LongFrame, AfterEnd, ConnectionOverrun, StreamOverrun}
use Rattle.audit_terms.specs.declared.kinds.Kind.TheVariants.{ZeroStreamGrant, StreamOverflow, UnmatchedAck}
use Rattle.audit_terms.specs.declared.kinds.Kind.TheVariants.{BadPriority, ConnectionStallEnd, ConnectionStallBegin}
use Rattle.audit_terms.specs.declared.kinds.Kind.TheVariants.{StreamStallEnd, StreamStallBegin, ConnectionCredit}
use Rattle.audit_terms.specs.declared.kinds.Kind.TheVariants.{StreamCredit}

-- the rank of a kind, and the word that a report prints. Ranks 0 to 12 are connection errors (RFC 9113, 5.4.1), 13 to
-- 20 other faults, 21 to 24 stalls, 25 and 26 credits
abbrev pub row_of : Kind → ℕ × List ℕ
row_of BadPreface = (0, codes "bad-preface")
row_of BrokenBlock = (1, codes "broken-block")
row_of TooLong = (2, codes "too-long")
row_of WrongStream = (3, codes "wrong-stream")
row_of WrongSize = (4, codes "wrong-size")
row_of BadPadding = (5, codes "bad-padding")
row_of BadSetting = (6, codes "bad-setting")
row_of Push = (7, codes "push")
row_of NotOpened = (8, codes "not-opened")
row_of IdNotGreater = (9, codes "id-not-greater")
row_of ZeroConnectionGrant = (10, codes "zero-connection-grant")
row_of ConnectionOverflow = (11, codes "connection-overflow")
row_of SettingOverflow = (12, codes "setting-overflow")
row_of LongFrame = (13, codes "long-frame")
row_of AfterEnd = (14, codes "after-end")
row_of ConnectionOverrun = (15, codes "connection-overrun")
row_of StreamOverrun = (16, codes "stream-overrun")
row_of ZeroStreamGrant = (17, codes "zero-stream-grant")
row_of StreamOverflow = (18, codes "stream-overflow")
row_of UnmatchedAck = (19, codes "unmatched-ack")
row_of BadPriority = (20, codes "bad-priority")
row_of ConnectionStallEnd = (21, codes "connection-stall-end")
row_of ConnectionStallBegin = (22, codes "connection-stall-begin")
row_of StreamStallEnd = (23, codes "stream-stall-end")
row_of StreamStallBegin = (24, codes "stream-stall-begin")
row_of ConnectionCredit = (25, codes "connection-credit")
row_of StreamCredit = (26, codes "stream-credit")

abbrev pub rank_of : Kind → ℕ
rank_of kind = (row_of kind).0

abbrev pub kind_name : Kind → List ℕ
kind_name kind = (row_of kind).1

-- connection errors (RFC 9113, 5.4.1), which stop the audit of a connection
-- //= https://www.rfc-editor.org/rfc/rfc9113#section-5.4.1
-- //# A connection error is any error that prevents further processing of the frame layer or corrupts any connection
-- //# state.
abbrev pub is_connection_error : Kind → Bool
is_connection_error kind = nat_le (rank_of kind) 12

-- breaches of a rule, of the connection, of a stream or of a frame; the other kinds tell of stalls and credit
abbrev pub is_fault : Kind → Bool
is_fault kind = nat_le (rank_of kind) 20

-- credit is used up from here on
abbrev pub begins_stall : Kind → Bool
begins_stall kind = (rank_of kind == 22) || (rank_of kind == 24)

-- credit is there again
abbrev pub ends_stall : Kind → Bool
ends_stall kind = (rank_of kind == 21) || (rank_of kind == 23)

-- the credit of a window that changed
abbrev pub is_credit : Kind → Bool
is_credit kind = nat_le 25 (rank_of kind)
