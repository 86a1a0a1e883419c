-- Words for short scripts of a connection, for the worked examples of this crate and of those above it: each frame is
-- spelled by its number, its side and its type, each change by the frame that brings it.
use Rattle.std.specs.Prelude.{ℕ, ◌+◌, ◌*◌, List, [], ◌∷◌, Some, None}
use Rattle.audit_terms.specs.declared.sides.Side.{Side}
use Rattle.audit_terms.specs.declared.sides.Side.TheVariants.{Client, Server}
use Rattle.audit_terms.specs.declared.settings.Settings.{Settings}
use Rattle.audit_terms.specs.declared.frames.Body.{Body}
use Rattle.audit_terms.specs.declared.frames.Body.TheVariants.{Content, Headers, RstStream, PushPromise, WindowUpdate}
use Rattle.audit_terms.specs.declared.frames.Body.TheVariants.{Settings as SettingsBody, SettingsAck}
use Rattle.audit_terms.specs.declared.frames.Frame.{Frame}
use Rattle.audit_terms.specs.declared.items.Change.{Change}
use Rattle.audit_terms.specs.code.Settings.{no_settings}
use Rattle.audit_terms.specs.FrameType.{data_type, headers_type, rst_stream_type, settings_type, push_promise_type}
use Rattle.audit_terms.specs.FrameType.{window_update_type, end_stream_flag, ack_flag, end_headers_flag}

-- a frame, captured in the record two after its number, at a thousand nanoseconds a record
abbrev pub scripted : ℕ → Side → (code flags stream length : ℕ) → Body → Frame
scripted number side code flags stream length body = record {
  number = number;
  side = side;
  rec = number + 2;
  nanos = (number + 2) * 1000;
  code = code;
  flags = flags;
  stream = stream;
  length = length;
  body = body;
}

-- DATA of some zero bytes
abbrev pub data_frame : ℕ → Side → (stream length : ℕ) → Frame
data_frame number side stream length = scripted number side data_type 0 stream length Content

-- DATA with END_STREAM
abbrev pub last_data_frame : ℕ → Side → (stream length : ℕ) → Frame
last_data_frame number side stream length = scripted number side data_type end_stream_flag stream length Content

-- HEADERS without payload, with END_HEADERS
abbrev pub headers_frame : ℕ → Side → (stream : ℕ) → Frame
headers_frame number side stream = scripted number side headers_type end_headers_flag stream 0 Headers

-- HEADERS without payload, with END_HEADERS and END_STREAM
abbrev pub last_headers_frame : ℕ → Side → (stream : ℕ) → Frame
last_headers_frame number side stream =
    scripted number side headers_type (end_headers_flag + end_stream_flag) stream 0 Headers

-- RST_STREAM
abbrev pub reset_frame : ℕ → Side → (stream : ℕ) → Frame
reset_frame number side stream = scripted number side rst_stream_type 0 stream 4 RstStream

-- WINDOW_UPDATE with an increment
abbrev pub update_frame : ℕ → Side → (stream amount : ℕ) → Frame
update_frame number side stream amount = scripted number side window_update_type 0 stream 4 (WindowUpdate amount)

-- PUSH_PROMISE, with END_HEADERS
abbrev pub promise_frame : ℕ → Side → (stream promised : ℕ) → Frame
promise_frame number side stream promised =
    scripted number side push_promise_type end_headers_flag stream 4 (PushPromise promised)

-- an empty SETTINGS
abbrev pub settings_frame : ℕ → Side → Frame
settings_frame number side = scripted number side settings_type 0 0 0 (SettingsBody no_settings)

-- SETTINGS of one pair
abbrev pub setting_frame : ℕ → Side → Settings → Frame
setting_frame number side settings = scripted number side settings_type 0 0 6 (SettingsBody settings)

-- the pair is an initial window
abbrev pub initial_window_frame : ℕ → Side → (initial : ℕ) → Frame
initial_window_frame number side initial = setting_frame number side (record no_settings { initial = Some initial })

-- an acknowledgement of SETTINGS
abbrev pub ack_frame : ℕ → Side → Frame
ack_frame number side = scripted number side settings_type ack_flag 0 0 SettingsAck

-- how each script begins: both sides send empty settings and acknowledge them
abbrev pub opening_frames : List Frame
opening_frames =
    settings_frame 1 Client ∷ settings_frame 2 Server ∷ ack_frame 3 Client ∷ ack_frame 4 Server ∷ []

-- the change that an acknowledgement of empty SETTINGS brings
abbrev pub empty_change : ℕ → Side → Change
empty_change number side = record { number = number; side = side; initial = None; max_frame = None; push = None }

-- the change that brings an initial window
abbrev pub window_change : ℕ → Side → (initial : ℕ) → Change
window_change number side initial = record (empty_change number side) { initial = Some initial }
