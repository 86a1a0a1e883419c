-- What a row holds of a stream. No public clause cites this.
use Rattle.std.specs.Prelude.{◌≡◌, ℕ, ℤ, pos, ◌-◌, ◌-ℤ◌, ◌^◌, Bool, false, if◌then◌else◌, nat_le, nat_lt, Option, Some}
use Rattle.std.specs.Prelude.{option_map}
use Rattle.audit_terms.specs.code.Standing.{credit_after_change, ended_mark, has_ended, window_of, IsQuietMove}
use Rattle.audit_terms.specs.Window.{is_used_up, overflows}
use Rattle.audit_terms.specs.declared.sides.Sides.{Sides}
use Rattle.audit_terms.specs.declared.stream_state.Stream.{Stream}
use Rattle.stream_credit.specs.code.Standings.{life_of, stream_of}
use Rattle.stream_credit.specs.declared.stream_standings.Standings.{Standings}

-- the number of the opening frame is below this; a row of a window without credit has it added
abbrev pub low_mark : ℕ
low_mark = 2 ^ 31

-- a live window has no credit left
abbrev pub is_low : Standings → Bool
is_low standings = nat_le low_mark standings.opened

-- the window of a side in such a row: past the mark of an end stand credits of 0 and below, the greatest last
abbrev pub low_window : (standing : ℕ) → Option ℤ
low_window standing =
    if nat_lt ended_mark standing then Some (pos standing -ℤ pos (2 ^ 32 - 1)) else window_of standing

-- the stream of such a row
abbrev pub low_stream : Standings → Stream
low_stream standings = record {
  life = life_of (record standings { opened = standings.opened - low_mark });
  window = record { client = low_window standings.client; server = low_window standings.server };
}

-- the stream that is held so
abbrev pub held : Standings → Stream
held standings = if is_low standings then low_stream standings else stream_of standings

-- how a side stands in such a row that has this window, and has ended the stream or not
pub record IsLowStanding (window : Option ℤ) (is_ended : Bool) (standing : ℕ) : Type 0 where
  pub same : low_window standing ≡ window
  pub ended : has_ended standing ≡ is_ended

-- a credit after the initial window in force goes from one value to another: nothing of that is shown
pub record IsCreditMoved (before after : ℕ) (credit moved : ℤ) : Type 0 where
  pub same : moved ≡ credit_after_change before after credit
  pub level : is_used_up credit ≡ is_used_up moved
  pub fits : overflows credit moved ≡ false

-- a side in such a row after the initial window in force goes from one value to another: nothing of that is shown
pub record IsLowMoved (before after standing next : ℕ) : Type 0 where
  pub moved : low_window next ≡ option_map (credit_after_change before after) (low_window standing)
  pub quiet : IsQuietMove (low_window standing) (low_window next)
  pub ended : has_ended next ≡ has_ended standing

-- a stream after the initial windows in force go from some to others: nothing of that is shown
pub record IsEntryMoved (before after : Sides ℕ) (entry next : Stream) : Type 0 where
  pub life : next.life ≡ entry.life
  pub client : next.window.client ≡ option_map (credit_after_change before.client after.client) entry.window.client
  pub server : next.window.server ≡ option_map (credit_after_change before.server after.server) entry.window.server
  pub client_quiet : IsQuietMove entry.window.client next.window.client
  pub server_quiet : IsQuietMove entry.window.server next.window.server
