-- What further frames the scripts of these worked examples have, and what the definitions give for a script.
use Rattle.std.specs.Prelude.{ℕ, nat_le, List, ◌++◌, filter, Some}
use Rattle.audit_terms.specs.declared.sides.Side.{Side}
use Rattle.audit_terms.specs.declared.frames.Body.TheVariants.{Content, Headers, Priority, Ping, GoAway, Continuation}
use Rattle.audit_terms.specs.declared.frames.Body.TheVariants.{Unknown, Unreadable}
use Rattle.audit_terms.specs.declared.frames.Frame.{Frame}
use Rattle.audit_terms.specs.declared.kinds.Kind.{Kind}
use Rattle.audit_terms.specs.declared.findings.Finding.{Finding}
use Rattle.audit_terms.specs.code.Settings.{no_settings}
use Rattle.audit_terms.specs.Kind.{rank_of}
use Rattle.audit_terms.specs.FrameType.{data_type, headers_type, priority_type, ping_type, goaway_type}
use Rattle.audit_terms.specs.FrameType.{continuation_type, end_headers_flag, padded_flag}
use Rattle.audit_terms.specs.Pass.{full, pass}
use Rattle.audit_terms.specs.examples.Script.{scripted, setting_frame, opening_frames}

-- DATA with PADDED, whose length holds the padding
abbrev pub padded_data_frame : ℕ → Side → (stream length : ℕ) → Frame
padded_data_frame number side stream length = scripted number side data_type padded_flag stream length Content

-- HEADERS without END_HEADERS, which leaves its field block open
abbrev pub open_headers_frame : ℕ → Side → (stream length : ℕ) → Frame
open_headers_frame number side stream length = scripted number side headers_type 0 stream length Headers

-- CONTINUATION with END_HEADERS
abbrev pub continuation_frame : ℕ → Side → (stream length : ℕ) → Frame
continuation_frame number side stream length =
    scripted number side continuation_type end_headers_flag stream length Continuation

-- CONTINUATION without END_HEADERS, which leaves its field block open
abbrev pub open_continuation_frame : ℕ → Side → (stream length : ℕ) → Frame
open_continuation_frame number side stream length = scripted number side continuation_type 0 stream length Continuation

-- PRIORITY
abbrev pub priority_frame : ℕ → Side → (stream : ℕ) → Frame
priority_frame number side stream = scripted number side priority_type 0 stream 5 Priority

-- GOAWAY
abbrev pub goaway_frame : ℕ → Side → (stream length : ℕ) → Frame
goaway_frame number side stream length = scripted number side goaway_type 0 stream length GoAway

-- a frame of a type that RFC 9113 does not define
abbrev pub unknown_frame : ℕ → Side → (stream length : ℕ) → Frame
unknown_frame number side stream length = scripted number side 10 0 stream length Unknown

-- PING
abbrev pub ping_frame : ℕ → Side → Frame
ping_frame number side = scripted number side ping_type 0 0 8 Ping

-- the pair is the greatest length of a frame
abbrev pub max_frame_size_frame : ℕ → Side → (size : ℕ) → Frame
max_frame_size_frame number side size = setting_frame number side (record no_settings { max_frame = Some size })

-- the pair says whether the server may promise streams
abbrev pub enable_push_frame : ℕ → Side → (enabled : ℕ) → Frame
enable_push_frame number side enabled = setting_frame number side (record no_settings { push = Some enabled })

-- a frame whose payload cannot be read
abbrev pub unreadable_frame : ℕ → Side → (code flags stream length : ℕ) → Kind → (value : ℕ) → Frame
unreadable_frame number side code flags stream length kind value =
    scripted number side code flags stream length (Unreadable kind value)

-- the findings without the credit lines
abbrev pub without_credits : List Finding → List Finding
without_credits found = filter (λ (one : Finding). nat_le (rank_of one.kind) 24) found

-- what a report prints of the opening and then this script, without credit lines
abbrev pub audit_of : List Frame → List Finding
audit_of script = without_credits (pass (opening_frames ++ script))

-- the same with credit lines
abbrev pub audit_with_credits_of : List Frame → List Finding
audit_with_credits_of script = pass (opening_frames ++ script)

-- all that the opening and then this script show, past each stop, without credit lines
abbrev pub all_of : List Frame → List Finding
all_of script = without_credits (full (opening_frames ++ script))

-- the same with credit lines
abbrev pub all_with_credits_of : List Frame → List Finding
all_with_credits_of script = full (opening_frames ++ script)
