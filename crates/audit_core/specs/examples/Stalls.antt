-- Worked examples of windows: stalls, overruns, overflows, grants of 0.
use Rattle.std.specs.Prelude.{◌≡◌, pos, ◌-ℤ◌, List, [], ◌∷◌, ◌++◌, map, Some}
use Rattle.audit_terms.specs.declared.sides.Side.TheVariants.{Client, Server}
use Rattle.audit_terms.specs.declared.frames.Frame.{Frame}
use Rattle.audit_terms.specs.declared.findings.Finding.{Finding}
use Rattle.audit_terms.specs.declared.kinds.Kind.TheVariants.{ConnectionStallBegin, ConnectionStallEnd}
use Rattle.audit_terms.specs.declared.kinds.Kind.TheVariants.{StreamStallBegin, StreamStallEnd, ConnectionCredit}
use Rattle.audit_terms.specs.declared.kinds.Kind.TheVariants.{StreamCredit, StreamOverrun, ConnectionOverflow}
use Rattle.audit_terms.specs.declared.kinds.Kind.TheVariants.{SettingOverflow, ZeroStreamGrant, ZeroConnectionGrant}
use Rattle.audit_terms.specs.declared.kinds.Kind.TheVariants.{WrongSize}
use Rattle.audit_terms.specs.Finding.{finding_at}
use Rattle.audit_terms.specs.code.Settings.{no_settings}
use Rattle.audit_terms.specs.examples.Script.{headers_frame, data_frame, update_frame, initial_window_frame, ack_frame}
use Rattle.audit_terms.specs.examples.Script.{opening_frames}
use Rattle.audit_core.specs.examples.Script.{padded_data_frame, unreadable_frame, audit_of, audit_with_credits_of}
use Rattle.audit_terms.specs.FrameType.{window_update_type}
use Rattle.audit_terms.specs.Change.{change_by}
use Rattle.audit_terms.specs.code.runs.Changes.{changes_of}

-- all of the first 65,535 bytes of credit, padding included, are sent
abbrev pub padded_stall_script : List Frame
padded_stall_script =
    headers_frame 5 Client 1
    ∷ data_frame 6 Client 1 16384 ∷ data_frame 7 Client 1 16384 ∷ data_frame 8 Client 1 16384
    ∷ padded_data_frame 9 Client 1 16383 ∷ []

-- the client has no credit left, on the connection and on the stream
abbrev pub padded_stall_findings : List Finding
padded_stall_findings =
    finding_at ConnectionStallBegin 9 0 Client (pos 0) ∷ finding_at StreamStallBegin 9 1 Client (pos 0) ∷ []

abbrev pub PaddedStall : Type 0
PaddedStall = audit_of padded_stall_script ≡ padded_stall_findings

-- where they stand: frame 9, ranks 22 and 24, the connection and stream 1
abbrev pub StallPlaces : Type 0
StallPlaces = map (λ (found : Finding). found.place) padded_stall_findings ≡ 0x0000_009b_0000_0000
    ∷ 0x0000_009c_0000_0001 ∷ []

-- the same with the credit lines
abbrev pub PaddedStallCredits : Type 0
PaddedStallCredits = audit_with_credits_of padded_stall_script ≡ (
    finding_at StreamCredit 5 1 Client (pos 65535) ∷ finding_at StreamCredit 5 1 Server (pos 65535)
    ∷ finding_at ConnectionCredit 6 0 Client (pos 49151) ∷ finding_at StreamCredit 6 1 Client (pos 49151)
    ∷ finding_at ConnectionCredit 7 0 Client (pos 32767) ∷ finding_at StreamCredit 7 1 Client (pos 32767)
    ∷ finding_at ConnectionCredit 8 0 Client (pos 16383) ∷ finding_at StreamCredit 8 1 Client (pos 16383)
    ∷ finding_at ConnectionStallBegin 9 0 Client (pos 0) ∷ finding_at StreamStallBegin 9 1 Client (pos 0)
    ∷ finding_at ConnectionCredit 9 0 Client (pos 0) ∷ finding_at StreamCredit 9 1 Client (pos 0) ∷ [])

-- a wrong credit is refused: had the padding not counted, 11 bytes would be left
abbrev pub PaddingCounts : Type 0
PaddingCounts = ¬ (audit_of padded_stall_script ≡
    (finding_at ConnectionStallBegin 9 0 Client (pos 11) ∷ finding_at StreamStallBegin 9 1 Client (pos 11) ∷ []))

-- one byte is granted to the connection alone, and one byte is sent
abbrev pub StallEndsThenOverrun : Type 0
StallEndsThenOverrun =
    audit_of (padded_stall_script ++ update_frame 10 Server 0 1 ∷ data_frame 11 Client 1 1 ∷ [])
    ≡ padded_stall_findings
    ++ finding_at ConnectionStallEnd 10 0 Client (pos 1)
    ∷ finding_at StreamOverrun 11 1 Client (pos 0 -ℤ pos 1)
    ∷ finding_at ConnectionStallBegin 11 0 Client (pos 0) ∷ []

-- the connection window rises to the largest, and one above it
abbrev pub ConnectionAtLargest : Type 0
ConnectionAtLargest = audit_of (update_frame 5 Server 0 2147418112 ∷ []) ≡ []

abbrev pub ConnectionOverflows : Type 0
ConnectionOverflows =
    audit_of (update_frame 5 Server 0 2147418113 ∷ []) ≡ finding_at ConnectionOverflow 5 0 Client (pos 2147483648) ∷ []

-- the initial window falls to 0 after 100 bytes were sent
abbrev pub negative_window_script : List Frame
negative_window_script =
    headers_frame 5 Client 1 ∷ data_frame 6 Client 1 100
    ∷ initial_window_frame 7 Server 0 ∷ ack_frame 8 Client
    ∷ update_frame 9 Server 1 100 ∷ update_frame 10 Server 1 1 ∷ []

abbrev pub NegativeWindow : Type 0
NegativeWindow =
    audit_of negative_window_script
    ≡ finding_at StreamStallBegin 8 1 Client (pos 0 -ℤ pos 100) ∷ finding_at StreamStallEnd 10 1 Client (pos 1) ∷ []

-- the changes that its acknowledgements bring: the last one brings the initial window 0
abbrev pub NegativeWindowChanges : Type 0
NegativeWindowChanges =
    changes_of (opening_frames ++ negative_window_script)
    ≡ change_by (ack_frame 3 Client) no_settings
    ∷ change_by (ack_frame 4 Server) no_settings
    ∷ change_by (ack_frame 8 Client) (record no_settings { initial = Some 0 }) ∷ []

-- both streams stand at the largest window when the initial window rises by one: the first stands
abbrev pub SettingOverflows : Type 0
SettingOverflows =
    audit_of (
    headers_frame 5 Client 1 ∷ headers_frame 6 Client 3
    ∷ update_frame 7 Server 3 2147418112 ∷ update_frame 8 Server 1 2147418112
    ∷ initial_window_frame 9 Server 65536 ∷ ack_frame 10 Client ∷ [])
    ≡ finding_at SettingOverflow 10 1 Client (pos 2147483648) ∷ []

-- increments of 0: on a stream, then on the connection
abbrev pub ZeroGrants : Type 0
ZeroGrants =
    audit_of (headers_frame 5 Client 1 ∷ update_frame 6 Server 1 0 ∷ update_frame 7 Server 0 0 ∷ [])
    ≡ finding_at ZeroStreamGrant 6 1 Server (pos 0) ∷ finding_at ZeroConnectionGrant 7 0 Server (pos 0) ∷ []

-- the same where the second frame is too short to be read
abbrev pub ShortGrant : Type 0
ShortGrant =
    audit_of (
    headers_frame 5 Client 1 ∷ update_frame 6 Server 1 0
    ∷ unreadable_frame 7 Server window_update_type 0 0 3 WrongSize 3 ∷ [])
    ≡ finding_at ZeroStreamGrant 6 1 Server (pos 0) ∷ finding_at WrongSize 7 0 Server (pos 3) ∷ []
