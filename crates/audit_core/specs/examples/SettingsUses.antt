-- Worked examples of settings in force: what a SETTINGS frame without a value leaves, what acknowledgements take, and
-- whose values are judged.
use Rattle.std.specs.Prelude.{◌≡◌, pos, ◌-ℤ◌, [], ◌∷◌, Some}
use Rattle.audit_terms.specs.declared.sides.Side.TheVariants.{Client, Server}
use Rattle.audit_terms.specs.declared.kinds.Kind.TheVariants.{BadSetting, Push, LongFrame, StreamOverrun, UnmatchedAck}
use Rattle.audit_terms.specs.declared.kinds.Kind.TheVariants.{StreamStallBegin}
use Rattle.audit_terms.specs.declared.frames.Body.TheVariants.{Settings as SettingsBody}
use Rattle.audit_terms.specs.FrameType.{settings_type}
use Rattle.audit_terms.specs.Finding.{finding_at}
use Rattle.audit_terms.specs.code.Settings.{no_settings}
use Rattle.audit_terms.specs.examples.Script.{scripted, headers_frame, data_frame, promise_frame, settings_frame}
use Rattle.audit_terms.specs.examples.Script.{initial_window_frame, ack_frame}
use Rattle.audit_core.specs.examples.Script.{max_frame_size_frame, enable_push_frame, audit_of}

-- an empty SETTINGS leaves the initial window of 10 bytes in force
abbrev pub InitialWindowStays : Type 0
InitialWindowStays =
    audit_of (
    initial_window_frame 5 Server 10 ∷ ack_frame 6 Client ∷ settings_frame 7 Server ∷ ack_frame 8 Client
    ∷ headers_frame 9 Client 1 ∷ data_frame 10 Client 1 11 ∷ [])
    ≡ finding_at StreamOverrun 10 1 Client (pos 0 -ℤ pos 1) ∷ finding_at StreamStallBegin 10 1 Client (pos 0 -ℤ pos 1)
    ∷ []

-- and the limit of 20,000 bytes
abbrev pub FrameLimitStays : Type 0
FrameLimitStays =
    audit_of (
    max_frame_size_frame 5 Server 20000 ∷ ack_frame 6 Client ∷ settings_frame 7 Server ∷ ack_frame 8 Client
    ∷ headers_frame 9 Client 1 ∷ data_frame 10 Client 1 20000 ∷ data_frame 11 Client 1 20001 ∷ [])
    ≡ finding_at LongFrame 11 1 Client (pos 20001) ∷ []

-- and that the client takes no promise
abbrev pub PushStaysForbidden : Type 0
PushStaysForbidden =
    audit_of (
    enable_push_frame 5 Client 0 ∷ ack_frame 6 Server ∷ settings_frame 7 Client ∷ ack_frame 8 Server
    ∷ headers_frame 9 Client 1 ∷ promise_frame 10 Server 1 2 ∷ [])
    ≡ finding_at Push 10 1 Server (pos 0) ∷ []

-- an acknowledgement that finds no SETTINGS takes none later: the next one brings them into force
abbrev pub UnmatchedTakesNothing : Type 0
UnmatchedTakesNothing =
    audit_of (
    ack_frame 5 Server ∷ initial_window_frame 6 Client 0 ∷ ack_frame 7 Server ∷ headers_frame 8 Client 1 ∷ [])
    ≡ finding_at UnmatchedAck 5 0 Server (pos 0) ∷ finding_at StreamStallBegin 8 1 Server (pos 0) ∷ []

-- an initial window of 2 ^ 31 of the client
abbrev pub BadSettingOfClient : Type 0
BadSettingOfClient =
    audit_of (
    scripted 5 Client settings_type 0 0 6
    (SettingsBody (record no_settings { initial = Some 2147483648; bad = Some 4 })) ∷ [])
    ≡ finding_at BadSetting 5 0 Client (pos 4) ∷ []

-- the server's ENABLE_PUSH is judged by its range alone: 1 is no fault
abbrev pub ServerEnablesPush : Type 0
ServerEnablesPush = audit_of (enable_push_frame 5 Server 1 ∷ []) ≡ []
