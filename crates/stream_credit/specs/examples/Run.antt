-- Worked examples: what one stream shows of its frames and the connection's changes (RFC 9113, 5.1, 6.6, 6.9).
use Rattle.std.specs.Prelude.{◌≡◌, ℕ, pos, ◌-ℤ◌, List, [], ◌∷◌, false, Some, None}
use Rattle.audit_terms.specs.declared.sides.Side.TheVariants.{Client, Server}
use Rattle.audit_terms.specs.declared.kinds.Kind.TheVariants.{NotOpened, SettingOverflow, AfterEnd, StreamOverrun}
use Rattle.audit_terms.specs.declared.kinds.Kind.TheVariants.{StreamOverflow, StreamStallEnd, StreamStallBegin}
use Rattle.audit_terms.specs.declared.kinds.Kind.TheVariants.{StreamCredit}
use Rattle.audit_terms.specs.declared.frames.Frame.{Frame}
use Rattle.audit_terms.specs.declared.items.Change.{Change}
use Rattle.audit_terms.specs.declared.findings.Finding.{Finding}
use Rattle.audit_terms.specs.FrameType.{window_update_type}
use Rattle.audit_terms.specs.Finding.{finding_at, shown}
use Rattle.audit_terms.specs.Kind.{rank_of}
use Rattle.audit_terms.specs.Place.{place_of}
use Rattle.audit_terms.specs.code.runs.Look.{found_before, up_to, upto_of}
use Rattle.audit_terms.specs.code.runs.Streams.{frames_of, stream_run}
use Rattle.stream_credit.specs.code.Looks.{step_numbers, opened_up_to}
use Rattle.stream_credit.specs.code.StreamPart.{frames_at}
use Rattle.audit_terms.specs.examples.Script.{data_frame, headers_frame, reset_frame, update_frame, promise_frame}
use Rattle.audit_terms.specs.examples.Script.{window_change}

-- the credits at the opening, of the client and of the server
abbrev pub opened_with : (number stream client server : ℕ) → List Finding → List Finding
opened_with number stream client server rest =
    finding_at StreamCredit number stream Client (pos client)
    ∷ finding_at StreamCredit number stream Server (pos server) ∷ rest

-- a lower initial window makes the credit negative; it rises by grants (6.9.2)
abbrev pub NegativeWindow : Type 0
NegativeWindow =
    stream_run 1 (
    headers_frame 5 Client 1 ∷ data_frame 6 Client 1 100 ∷ update_frame 9 Server 1 100 ∷ update_frame 10 Server 1 1
    ∷ [])
    (window_change 8 Client 0 ∷ [])
    ≡ opened_with 5 1 65535 65535 (
    finding_at StreamCredit 6 1 Client (pos 65435)
    ∷ finding_at StreamStallBegin 8 1 Client (pos 0 -ℤ pos 100) ∷ finding_at StreamCredit 8 1 Client (pos 0 -ℤ pos 100)
    ∷ finding_at StreamCredit 9 1 Client (pos 0)
    ∷ finding_at StreamStallEnd 10 1 Client (pos 1) ∷ finding_at StreamCredit 10 1 Client (pos 1) ∷ [])

-- the same, where credits are not shown
abbrev pub NegativeWindowUnshown : Type 0
NegativeWindowUnshown =
    shown false (stream_run 1 (
    headers_frame 5 Client 1 ∷ data_frame 6 Client 1 100 ∷ update_frame 9 Server 1 100 ∷ update_frame 10 Server 1 1
    ∷ [])
    (window_change 8 Client 0 ∷ []))
    ≡ finding_at StreamStallBegin 8 1 Client (pos 0 -ℤ pos 100) ∷ finding_at StreamStallEnd 10 1 Client (pos 1) ∷ []

-- a change reaches the stream that is open and the one that opens later, on its own side alone (6.9.2)
abbrev pub SettingsReachEachStream : Type 0
SettingsReachEachStream =
    (stream_run 1 (headers_frame 5 Client 1 ∷ []) (window_change 8 Client 10 ∷ [])
    ≡ opened_with 5 1 65535 65535 (finding_at StreamCredit 8 1 Client (pos 10) ∷ []))
    × (stream_run 3 (headers_frame 9 Client 3 ∷ []) (window_change 8 Client 10 ∷ []) ≡ opened_with 9 3 10 65535 [])
    × (stream_run 2 (promise_frame 9 Server 1 2 ∷ []) (window_change 8 Server 10 ∷ [])
    ≡ finding_at StreamCredit 9 2 Server (pos 10) ∷ [])

-- changes before the opening count by the last on each side, those after both windows are gone not at all, and a
-- stream that is never opened has no window for any (6.9.2)
abbrev pub many_changes : List Change
many_changes =
    window_change 3 Client 5 ∷ window_change 4 Server 6 ∷ window_change 6 Client 7 ∷ window_change 10 Server 8
    ∷ window_change 13 Client 9 ∷ window_change 15 Server 3 ∷ []

abbrev pub ChangesPassedOver : Type 0
ChangesPassedOver =
    (stream_run 1 (headers_frame 9 Client 1 ∷ reset_frame 12 Server 1 ∷ data_frame 14 Server 1 4 ∷ []) many_changes
    ≡ opened_with 9 1 7 6 (finding_at StreamCredit 10 1 Server (pos 8) ∷ finding_at AfterEnd 14 1 Server (pos 0) ∷ []))
    × (stream_run 3 (update_frame 9 Server 3 4 ∷ []) many_changes
    ≡ finding_at NotOpened 9 3 Server (pos window_update_type) ∷ [])

-- a window that opens at 0 stalls at its opening, and empty DATA overruns nothing (6.9.1)
abbrev pub OpensAtZero : Type 0
OpensAtZero =
    stream_run 1 (headers_frame 5 Client 1 ∷ data_frame 6 Client 1 0 ∷ []) (window_change 3 Client 0 ∷ [])
    ≡ finding_at StreamStallBegin 5 1 Client (pos 0) ∷ opened_with 5 1 0 65535 []

-- more content than credit, where credit is left (6.9)
abbrev pub OverrunsAboveZero : Type 0
OverrunsAboveZero =
    stream_run 1 (headers_frame 5 Client 1 ∷ data_frame 6 Client 1 11 ∷ []) (window_change 3 Client 10 ∷ [])
    ≡ opened_with 5 1 10 65535 (
    finding_at StreamOverrun 6 1 Client (pos 0 -ℤ pos 1) ∷ finding_at StreamStallBegin 6 1 Client (pos 0 -ℤ pos 1)
    ∷ finding_at StreamCredit 6 1 Client (pos 0 -ℤ pos 1) ∷ [])

-- a grant above the largest window is not added, and the window is gone (6.9.1)
abbrev pub OverflowingGrant : Type 0
OverflowingGrant =
    stream_run 1 (
    headers_frame 5 Client 1 ∷ update_frame 6 Server 1 2147418113 ∷ update_frame 7 Server 1 1
    ∷ data_frame 8 Client 1 1 ∷ [])
    (window_change 9 Client 10 ∷ [])
    ≡ opened_with 5 1 65535 65535 (finding_at StreamOverflow 6 1 Client (pos 2147483648) ∷ [])

-- a change that brings a window above the largest is added (6.9.2)
abbrev pub SettingOverflows : Type 0
SettingOverflows =
    stream_run 1 (headers_frame 5 Client 1 ∷ update_frame 8 Server 1 2147418112 ∷ [])
    (window_change 10 Client 65536 ∷ [])
    ≡ opened_with 5 1 65535 65535 (
    finding_at StreamCredit 8 1 Client (pos 2147483647)
    ∷ finding_at SettingOverflow 10 1 Client (pos 2147483648)
    ∷ finding_at StreamCredit 10 1 Client (pos 2147483648) ∷ [])

-- a promised stream has the server's window alone; the client's DATA on it comes after its end, its RST_STREAM ends the
-- window and the stall (5.1, 6.6)
abbrev pub promised_script : List Frame
promised_script =
    headers_frame 5 Client 1 ∷ promise_frame 6 Server 1 2 ∷ headers_frame 7 Server 2
    ∷ data_frame 8 Server 2 16384 ∷ data_frame 9 Server 2 16384 ∷ data_frame 10 Server 2 16384
    ∷ data_frame 11 Server 2 16383 ∷ data_frame 12 Client 2 1 ∷ reset_frame 13 Client 2 ∷ []

abbrev pub PromisedStall : Type 0
PromisedStall =
    (stream_run 2 (frames_of 2 promised_script) []
    ≡ finding_at StreamCredit 6 2 Server (pos 65535)
    ∷ finding_at StreamCredit 8 2 Server (pos 49151) ∷ finding_at StreamCredit 9 2 Server (pos 32767)
    ∷ finding_at StreamCredit 10 2 Server (pos 16383)
    ∷ finding_at StreamStallBegin 11 2 Server (pos 0) ∷ finding_at StreamCredit 11 2 Server (pos 0)
    ∷ finding_at AfterEnd 12 2 Client (pos 0) ∷ finding_at StreamStallEnd 13 2 Server (pos 0) ∷ [])
    × (stream_run 1 (frames_of 1 promised_script) [] ≡ opened_with 5 1 65535 65535 [])

-- the frames at the positions of a promised stream
abbrev pub PositionsOfPromised : Type 0
PositionsOfPromised = frames_at promised_script (1 ∷ 2 ∷ 3 ∷ 4 ∷ 5 ∷ 6 ∷ 7 ∷ 8 ∷ []) ≡ frames_of 2 promised_script

-- the findings of `NegativeWindow` up to frame 9
abbrev pub negative_found : List Finding
negative_found =
    opened_with 5 1 65535 65535 (
    finding_at StreamCredit 6 1 Client (pos 65435)
    ∷ finding_at StreamStallBegin 8 1 Client (pos 0 -ℤ pos 100) ∷ finding_at StreamCredit 8 1 Client (pos 0 -ℤ pos 100)
    ∷ finding_at StreamCredit 9 1 Client (pos 0) ∷ [])

-- a run hands its look what was found at frames before its next step; one that stopped keeps what lies at or before its
-- last answer, of the answer's own frame too, and the opening only up to there
abbrev pub KeptUpToStop : Type 0
KeptUpToStop =
    (found_before 8 negative_found
    ≡ opened_with 5 1 65535 65535 (finding_at StreamCredit 6 1 Client (pos 65435) ∷ []))
    × (up_to (Some (place_of 8 (rank_of StreamStallBegin) 1)) negative_found
    ≡ opened_with 5 1 65535 65535 (
    finding_at StreamCredit 6 1 Client (pos 65435) ∷ finding_at StreamStallBegin 8 1 Client (pos 0 -ℤ pos 100) ∷ []))
    × (up_to None negative_found ≡ negative_found)
    × (upto_of (5 ∷ 6 ∷ 8 ∷ 9 ∷ []) (Some (place_of 8 12 3)) ≡ Some (place_of 8 12 3))
    × (upto_of (5 ∷ 6 ∷ 8 ∷ []) (Some (place_of 8 12 3)) ≡ None)
    × (opened_up_to (Some (place_of 5 0 0)) (Some 5) ≡ Some 5)
    × (opened_up_to (Some (place_of 4 26 7)) (Some 5) ≡ None)

-- the steps of a run are its frames, and the changes between the opening and the end of both windows; a change with a
-- frame's number is no step of its own
abbrev pub StepNumbers : Type 0
StepNumbers =
    (step_numbers 1 (headers_frame 5 Client 1 ∷ data_frame 8 Client 1 100 ∷ [])
    (window_change 3 Client 0 ∷ window_change 8 Server 1 ∷ [])
    ≡ 5 ∷ 8 ∷ [])
    × (step_numbers 1 (headers_frame 9 Client 1 ∷ reset_frame 12 Server 1 ∷ data_frame 14 Server 1 4 ∷ []) many_changes
    ≡ 9 ∷ 10 ∷ 12 ∷ 14 ∷ [])
    × (step_numbers 3 (update_frame 9 Server 3 4 ∷ []) many_changes ≡ 9 ∷ [])
    × (step_numbers 5 [] many_changes ≡ [])
