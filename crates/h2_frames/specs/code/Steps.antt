-- What single steps of the code leave. Public clauses cite these only through Cutter.
use Rattle.std.specs.Prelude.{ℕ, Bool, List, [], ◌∷◌, nat_lt, ◌&&◌, not, ◌==◌, if◌then◌else◌, Some, is_none, min}
use Rattle.tcp_streams.specs.declared.flows.Arrival.{Arrival}
use Rattle.h2_frames.specs.declared.side_frames.SideFrame.{SideFrame}
use Rattle.audit_terms.specs.declared.settings.Settings.{Settings}
use Rattle.audit_terms.specs.code.runs.Orderly.{IsInRange}
use Rattle.h2_frames.specs.declared.settings.Setting.{Setting}
use Rattle.audit_terms.specs.FrameType.{data_type, settings_type}
use Rattle.h2_frames.specs.Body.{is_padded}
use Rattle.h2_frames.specs.Settings.{is_in_range}

-- the content of DATA without padding, which nobody reads
abbrev pub is_unread : (code flags : ℕ) → Bool
is_unread code flags = (code == data_type) && not (is_padded flags)

-- how many bytes at the front of a payload of this size its body is read from: all settings, else no more than the
-- length of padding and a number of four bytes
abbrev pub needed : (code flags size : ℕ) → ℕ
needed code flags size =
    if is_unread code flags then 0 else if code == settings_type then size else min size 5

-- the settings with one more pair, which comes after those that they hold
abbrev pub with_setting : Settings → Setting → Settings
with_setting settings s = record {
  push = (if s.identifier == 2 then Some s.value else settings.push);
  initial = (if s.identifier == 4 then Some s.value else settings.initial);
  max_frame = (if s.identifier == 5 then Some s.value else settings.max_frame);
  bad = (if is_none settings.bad && not (is_in_range s) then Some s.identifier else settings.bad);
}

-- the arrivals from the one on at which the byte at this offset arrives
abbrev pub arrivals_from : (offset : ℕ) → List Arrival → List Arrival
arrivals_from offset [] = []
arrivals_from offset (a ∷ later) = if nat_lt offset a.upto then a ∷ later else arrivals_from offset later

-- a frame that is in range in the connection, whatever its number is there
abbrev pub IsReadable : SideFrame → Type 0
IsReadable x = IsInRange (record x.frame { number = 0 })
