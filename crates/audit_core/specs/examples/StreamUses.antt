-- Worked examples of streams: use before the opening and after the end, the order of openings, unmatched
-- acknowledgements.
use Rattle.std.specs.Prelude.{◌≡◌, pos, ◌-ℤ◌, [], ◌∷◌, ◌++◌}
use Rattle.audit_terms.specs.declared.sides.Side.TheVariants.{Client, Server}
use Rattle.audit_terms.specs.declared.kinds.Kind.TheVariants.{ConnectionStallBegin, ConnectionStallEnd}
use Rattle.audit_terms.specs.declared.kinds.Kind.TheVariants.{StreamStallBegin, StreamStallEnd, StreamCredit}
use Rattle.audit_terms.specs.declared.kinds.Kind.TheVariants.{ConnectionOverrun, StreamOverrun, NotOpened, AfterEnd}
use Rattle.audit_terms.specs.declared.kinds.Kind.TheVariants.{IdNotGreater, UnmatchedAck}
use Rattle.audit_terms.specs.Finding.{finding_at}
use Rattle.audit_terms.specs.examples.Script.{headers_frame, data_frame, last_data_frame, reset_frame, update_frame}
use Rattle.audit_terms.specs.examples.Script.{ack_frame, opening_frames}
use Rattle.audit_core.specs.examples.Script.{ping_frame, without_credits, audit_of, audit_with_credits_of}
use Rattle.audit_terms.specs.Pass.{full}
use Rattle.audit_core.specs.examples.Stalls.{padded_stall_script, padded_stall_findings}

-- a stream is used that was never opened: what later frames show is withdrawn
abbrev pub WithdrawnFindings : Type 0
WithdrawnFindings =
    audit_of (padded_stall_script ++ data_frame 10 Client 7 5 ∷ update_frame 11 Server 0 10 ∷ data_frame 12 Client 1 1
    ∷ [])
    ≡ padded_stall_findings ++ finding_at NotOpened 10 7 Client (pos 0) ∷ []

-- with no stop they are there: the content of the stream that was not opened counts for the connection
abbrev pub FindingsPastTheStop : Type 0
FindingsPastTheStop =
    without_credits (full (opening_frames ++ padded_stall_script
    ++ data_frame 10 Client 7 5 ∷ update_frame 11 Server 0 10 ∷ data_frame 12 Client 1 1 ∷ []))
    ≡ padded_stall_findings
    ++ finding_at NotOpened 10 7 Client (pos 0)
    ∷ finding_at ConnectionOverrun 10 0 Client (pos 0 -ℤ pos 5)
    ∷ finding_at ConnectionStallEnd 11 0 Client (pos 5)
    ∷ finding_at StreamOverrun 12 1 Client (pos 0 -ℤ pos 1) ∷ []

-- a grant on a stream that was not opened stands below a connection overflow
abbrev pub FirstErrorBelowOverflow : Type 0
FirstErrorBelowOverflow =
    audit_of (
    headers_frame 5 Client 1 ∷ headers_frame 6 Client 3 ∷ update_frame 7 Server 9 1
    ∷ update_frame 8 Server 0 2147418113 ∷ data_frame 9 Client 11 0 ∷ [])
    ≡ finding_at NotOpened 7 9 Server (pos 8) ∷ []

-- content after the sender's own end, and after a reset by the other side: all of it counts for the connection
abbrev pub AfterEndAndReset : Type 0
AfterEndAndReset =
    audit_of (
    headers_frame 5 Client 1 ∷ headers_frame 6 Client 3
    ∷ data_frame 7 Client 1 16384 ∷ data_frame 8 Client 1 16384 ∷ data_frame 9 Client 1 16384
    ∷ data_frame 10 Client 1 16383 ∷ last_data_frame 11 Client 1 0 ∷ data_frame 12 Client 1 1
    ∷ reset_frame 13 Server 3 ∷ data_frame 14 Client 3 1 ∷ [])
    ≡ finding_at ConnectionStallBegin 10 0 Client (pos 0)
    ∷ finding_at StreamStallBegin 10 1 Client (pos 0)
    ∷ finding_at StreamStallEnd 11 1 Client (pos 0)
    ∷ finding_at AfterEnd 12 1 Client (pos 0)
    ∷ finding_at ConnectionOverrun 12 0 Client (pos 0 -ℤ pos 1)
    ∷ finding_at ConnectionOverrun 14 0 Client (pos 0 -ℤ pos 2) ∷ []

-- streams are opened in falling order
abbrev pub IdentifierOrder : Type 0
IdentifierOrder =
    audit_of (headers_frame 5 Client 5 ∷ headers_frame 6 Client 3 ∷ []) ≡ finding_at IdNotGreater 6 3 Client (pos 5)
    ∷ []

-- an acknowledgement of nothing
abbrev pub UnmatchedAcknowledgement : Type 0
UnmatchedAcknowledgement = audit_of (ack_frame 5 Server ∷ []) ≡ finding_at UnmatchedAck 5 0 Server (pos 0) ∷ []

-- two streams are opened around a PING
abbrev pub TwoOpenings : Type 0
TwoOpenings =
    audit_with_credits_of (headers_frame 5 Client 1 ∷ ping_frame 6 Client ∷ headers_frame 7 Client 3 ∷ [])
    ≡ finding_at StreamCredit 5 1 Client (pos 65535) ∷ finding_at StreamCredit 5 1 Server (pos 65535)
    ∷ finding_at StreamCredit 7 3 Client (pos 65535) ∷ finding_at StreamCredit 7 3 Server (pos 65535) ∷ []
