-- Worked examples of windows at their ends: credit that is left or missing, stalls below 0 and of both sides, windows
-- that end.
use Rattle.std.specs.Prelude.{◌≡◌, pos, ◌-ℤ◌, List, [], ◌∷◌, ◌++◌}
use Rattle.audit_terms.specs.declared.sides.Side.TheVariants.{Client, Server}
use Rattle.audit_terms.specs.declared.kinds.Kind.TheVariants.{NotOpened, AfterEnd, ConnectionOverrun, StreamOverrun}
use Rattle.audit_terms.specs.declared.kinds.Kind.TheVariants.{ZeroStreamGrant, ConnectionStallEnd, ConnectionStallBegin}
use Rattle.audit_terms.specs.declared.kinds.Kind.TheVariants.{StreamStallEnd, StreamStallBegin, ConnectionCredit}
use Rattle.audit_terms.specs.declared.kinds.Kind.TheVariants.{StreamCredit}
use Rattle.audit_terms.specs.declared.frames.Frame.{Frame}
use Rattle.audit_terms.specs.declared.findings.Finding.{Finding}
use Rattle.audit_terms.specs.Finding.{finding_at}
use Rattle.audit_terms.specs.examples.Script.{headers_frame, last_headers_frame, data_frame, last_data_frame}
use Rattle.audit_terms.specs.examples.Script.{reset_frame, update_frame, initial_window_frame, ack_frame}
use Rattle.audit_core.specs.examples.Script.{audit_of, audit_with_credits_of, all_of, all_with_credits_of}

-- 11 bytes are sent where 10 are left, on the connection and on the stream
abbrev overrun_script : List Frame
overrun_script =
    headers_frame 5 Client 1 ∷ data_frame 6 Client 1 16384 ∷ data_frame 7 Client 1 16384 ∷ data_frame 8 Client 1 16384
    ∷ data_frame 9 Client 1 16373 ∷ data_frame 10 Client 1 11 ∷ []

abbrev overrun_findings : List Finding
overrun_findings =
    finding_at ConnectionOverrun 10 0 Client (pos 0 -ℤ pos 1) ∷ finding_at StreamOverrun 10 1 Client (pos 0 -ℤ pos 1)
    ∷ finding_at ConnectionStallBegin 10 0 Client (pos 0 -ℤ pos 1)
    ∷ finding_at StreamStallBegin 10 1 Client (pos 0 -ℤ pos 1) ∷ []

abbrev pub OverrunAboveZero : Type 0
OverrunAboveZero = audit_of overrun_script ≡ overrun_findings

-- all 10 that are left are no overrun
abbrev pub LastCredit : Type 0
LastCredit =
    audit_of (
    headers_frame 5 Client 1 ∷ data_frame 6 Client 1 16384 ∷ data_frame 7 Client 1 16384 ∷ data_frame 8 Client 1 16384
    ∷ data_frame 9 Client 1 16373 ∷ data_frame 10 Client 1 10 ∷ [])
    ≡ finding_at ConnectionStallBegin 10 0 Client (pos 0) ∷ finding_at StreamStallBegin 10 1 Client (pos 0) ∷ []

-- both stalls begin below 0; a grant up to 0 ends none, a grant above 0 ends one from below 0
abbrev pub StallBelowZero : Type 0
StallBelowZero =
    audit_of (overrun_script ++ update_frame 11 Server 1 1 ∷ update_frame 12 Server 0 2 ∷ [])
    ≡ overrun_findings ++ finding_at ConnectionStallEnd 12 0 Client (pos 1) ∷ []

-- windows of both sides open with no credit, the client's before the server's
abbrev pub StallOfBothSides : Type 0
StallOfBothSides =
    audit_of (
    initial_window_frame 5 Client 0 ∷ ack_frame 6 Server ∷ initial_window_frame 7 Server 0 ∷ ack_frame 8 Client
    ∷ headers_frame 9 Client 1 ∷ update_frame 10 Server 1 5 ∷ update_frame 11 Client 1 6 ∷ [])
    ≡ finding_at StreamStallBegin 9 1 Client (pos 0) ∷ finding_at StreamStallBegin 9 1 Server (pos 0)
    ∷ finding_at StreamStallEnd 10 1 Client (pos 5) ∷ finding_at StreamStallEnd 11 1 Server (pos 6) ∷ []

-- one side's initial window governs its own streams alone
abbrev pub OneInitialWindow : Type 0
OneInitialWindow =
    audit_with_credits_of (initial_window_frame 5 Client 7 ∷ ack_frame 6 Server ∷ headers_frame 7 Client 1 ∷ [])
    ≡ finding_at StreamCredit 7 1 Client (pos 65535) ∷ finding_at StreamCredit 7 1 Server (pos 7) ∷ []

-- DATA with END_STREAM uses up the window that it ends: of the stream no stall begins
abbrev pub EndUsesUpWindow : Type 0
EndUsesUpWindow =
    audit_with_credits_of (
    headers_frame 5 Client 1 ∷ data_frame 6 Client 1 16384 ∷ data_frame 7 Client 1 16384 ∷ data_frame 8 Client 1 16384
    ∷ last_data_frame 9 Client 1 16383 ∷ [])
    ≡ finding_at StreamCredit 5 1 Client (pos 65535) ∷ finding_at StreamCredit 5 1 Server (pos 65535)
    ∷ finding_at ConnectionCredit 6 0 Client (pos 49151) ∷ finding_at StreamCredit 6 1 Client (pos 49151)
    ∷ finding_at ConnectionCredit 7 0 Client (pos 32767) ∷ finding_at StreamCredit 7 1 Client (pos 32767)
    ∷ finding_at ConnectionCredit 8 0 Client (pos 16383) ∷ finding_at StreamCredit 8 1 Client (pos 16383)
    ∷ finding_at ConnectionStallBegin 9 0 Client (pos 0)
    ∷ finding_at ConnectionCredit 9 0 Client (pos 0) ∷ finding_at StreamCredit 9 1 Client (pos 0) ∷ []

-- END_STREAM on the opening HEADERS: the client has no window on the stream
abbrev pub OpenedAndEnded : Type 0
OpenedAndEnded =
    audit_with_credits_of (last_headers_frame 5 Client 1 ∷ update_frame 6 Server 1 1 ∷ [])
    ≡ finding_at StreamCredit 5 1 Server (pos 65535) ∷ []

-- HEADERS after the sender's own end, and after its reset
abbrev pub HeadersAfterEnd : Type 0
HeadersAfterEnd =
    audit_of (last_headers_frame 5 Client 1 ∷ headers_frame 6 Client 1 ∷ [])
    ≡ finding_at AfterEnd 6 1 Client (pos 1) ∷ []

abbrev pub HeadersAfterReset : Type 0
HeadersAfterReset =
    audit_of (headers_frame 5 Client 1 ∷ reset_frame 6 Client 1 ∷ headers_frame 7 Client 1 ∷ [])
    ≡ finding_at AfterEnd 7 1 Client (pos 1) ∷ []

-- the other side's end is none of the sender's own
abbrev pub HeadersAfterPeerEnd : Type 0
HeadersAfterPeerEnd =
    audit_of (last_headers_frame 5 Client 1 ∷ headers_frame 6 Server 1 ∷ last_data_frame 7 Server 1 1
    ∷ data_frame 8 Server 1 1 ∷ [])
    ≡ finding_at AfterEnd 8 1 Server (pos 0) ∷ []

-- RST_STREAM on a stream that is not opened
abbrev pub ResetOnIdle : Type 0
ResetOnIdle = audit_of (reset_frame 5 Client 1 ∷ []) ≡ finding_at NotOpened 5 1 Client (pos 3) ∷ []

-- HEADERS of the server open nothing, nor do HEADERS on an even stream
abbrev pub ServerHeaders : Type 0
ServerHeaders =
    all_with_credits_of (headers_frame 5 Server 1 ∷ headers_frame 6 Client 1 ∷ [])
    ≡ finding_at NotOpened 5 1 Server (pos 1)
    ∷ finding_at StreamCredit 6 1 Client (pos 65535) ∷ finding_at StreamCredit 6 1 Server (pos 65535) ∷ []

abbrev pub EvenHeaders : Type 0
EvenHeaders = all_of (headers_frame 5 Client 2 ∷ data_frame 6 Client 2 0 ∷ [])
    ≡ finding_at NotOpened 5 2 Client (pos 1) ∷ finding_at NotOpened 6 2 Client (pos 0) ∷ []

-- grants of 0 on a stream that has ended, and on one that is not opened
abbrev pub ZeroGrantAfterEnd : Type 0
ZeroGrantAfterEnd =
    all_of (last_headers_frame 5 Client 1 ∷ update_frame 6 Server 1 0 ∷ update_frame 7 Server 3 0 ∷ [])
    ≡ finding_at ZeroStreamGrant 6 1 Server (pos 0) ∷ finding_at NotOpened 7 3 Server (pos 8) ∷ []
