-- Worked examples of one fault each, and of what is none.
use Rattle.std.specs.Prelude.{◌≡◌, pos, [], ◌∷◌, ◌++◌, Some}
use Rattle.audit_terms.specs.declared.sides.Side.TheVariants.{Client, Server}
use Rattle.audit_terms.specs.declared.kinds.Kind.TheVariants.{BadPreface, BrokenBlock, BadPadding, BadSetting}
use Rattle.audit_terms.specs.declared.kinds.Kind.TheVariants.{LongFrame, TooLong, StreamOverflow, StreamCredit}
use Rattle.audit_terms.specs.declared.kinds.Kind.TheVariants.{WrongStream, BadPriority}
use Rattle.audit_terms.specs.Finding.{finding_at}
use Rattle.audit_terms.specs.code.Settings.{no_settings}
use Rattle.audit_terms.specs.examples.Script.{scripted, headers_frame, data_frame, reset_frame, update_frame}
use Rattle.audit_terms.specs.examples.Script.{settings_frame}
use Rattle.audit_core.specs.examples.Script.{padded_data_frame, ping_frame, unreadable_frame, without_credits, audit_of}
use Rattle.audit_core.specs.examples.Script.{audit_with_credits_of}
use Rattle.audit_terms.specs.FrameType.{data_type, headers_type, priority_type, settings_type, end_headers_flag}
use Rattle.audit_terms.specs.FrameType.{padded_flag}
use Rattle.audit_terms.specs.declared.frames.Body.TheVariants.{Headers, Settings as SettingsBody}
use Rattle.audit_terms.specs.Pass.{pass}
use Rattle.audit_core.specs.examples.Stalls.{padded_stall_script, padded_stall_findings}

-- the server begins with a PING
abbrev pub BadPrefaceFound : Type 0
BadPrefaceFound =
    without_credits (pass (settings_frame 1 Client ∷ ping_frame 2 Server ∷ []))
    ≡ finding_at BadPreface 2 0 Server (pos 6) ∷ []

-- a PING within a field block
abbrev pub BrokenBlockFound : Type 0
BrokenBlockFound =
    audit_of (scripted 5 Client headers_type 0 1 0 Headers ∷ ping_frame 6 Client ∷ [])
    ≡ finding_at BrokenBlock 6 0 Client (pos 6) ∷ []

-- DATA whose padding is as long as the frame, and one byte shorter
abbrev pub BadPaddingFound : Type 0
BadPaddingFound =
    audit_of (headers_frame 5 Client 1 ∷ unreadable_frame 6 Client data_type padded_flag 1 5 BadPadding 5 ∷ [])
    ≡ finding_at BadPadding 6 1 Client (pos 5) ∷ []

abbrev pub GoodPadding : Type 0
GoodPadding = audit_of (headers_frame 5 Client 1 ∷ padded_data_frame 6 Client 1 5 ∷ []) ≡ []

-- an initial window above the largest
abbrev pub BadSettingFound : Type 0
BadSettingFound =
    audit_of (scripted 5 Server settings_type 0 0 6
    (SettingsBody (record no_settings { bad = Some 4 })) ∷ [])
    ≡ finding_at BadSetting 5 0 Server (pos 4) ∷ []

-- DATA and HEADERS one byte longer than the limit
abbrev pub LongFrameFound : Type 0
LongFrameFound =
    audit_of (headers_frame 5 Client 1 ∷ data_frame 6 Client 1 16385 ∷ [])
    ≡ finding_at LongFrame 6 1 Client (pos 16385) ∷ []

abbrev pub TooLongFound : Type 0
TooLongFound =
    audit_of (scripted 5 Client headers_type end_headers_flag 1 16385 Headers ∷ [])
    ≡ finding_at TooLong 5 1 Client (pos 16385) ∷ []

-- a grant above the largest window ends the stream's window: the next grant is not for a live one
abbrev pub StreamOverflowFound : Type 0
StreamOverflowFound =
    audit_with_credits_of (headers_frame 5 Client 1 ∷ update_frame 6 Server 1 2147418113 ∷ update_frame 7 Server 1 1
    ∷ [])
    ≡ finding_at StreamCredit 5 1 Client (pos 65535) ∷ finding_at StreamCredit 5 1 Server (pos 65535)
    ∷ finding_at StreamOverflow 6 1 Client (pos 2147483648) ∷ []

-- DATA on stream 0
abbrev pub WrongStreamFound : Type 0
WrongStreamFound = audit_of (data_frame 5 Client 0 0 ∷ []) ≡ finding_at WrongStream 5 0 Client (pos 0) ∷ []

-- a PRIORITY that is too short
abbrev pub BadPriorityFound : Type 0
BadPriorityFound =
    audit_of (headers_frame 5 Client 1 ∷ unreadable_frame 6 Client priority_type 0 1 4 BadPriority 4 ∷ [])
    ≡ finding_at BadPriority 6 1 Client (pos 4) ∷ []

-- DATA of the server after the client's RST_STREAM is no finding
abbrev pub DataAfterPeerReset : Type 0
DataAfterPeerReset =
    audit_of (headers_frame 5 Client 1 ∷ reset_frame 6 Client 1 ∷ data_frame 7 Server 1 1 ∷ []) ≡ []

-- nor is empty DATA with no credit left
abbrev pub EmptyDataAtZero : Type 0
EmptyDataAtZero = audit_of (padded_stall_script ++ data_frame 10 Client 1 0 ∷ []) ≡ padded_stall_findings
