-- Rows that hold credits less a shift, and what is known of groups of them. No public clause cites this.
use Rattle.std.specs.Option.{option_map_or}
use Rattle.std.specs.Prelude.{◌≡◌, ℕ, ℤ, pos, ◌+ℤ◌, ◌+◌, ◌/◌, ◌<◌, ◌≤◌, Bool, ◌&&◌, true, false, int_le, List, Option}
use Rattle.std.specs.Prelude.{Some}
use Rattle.std.specs.Prelude.{None, option_map, slice_get}
use Rattle.audit_terms.specs.declared.sides.Sides.{Sides}
use Rattle.audit_terms.specs.declared.stream_state.Stream.{Stream}
use Rattle.audit_terms.specs.code.Standing.{IsQuietMove}
use Rattle.quiet_pass.specs.code.HeldStreams.{held}
use Rattle.quiet_pass.specs.declared.opened_rows.Row.{Row}
use Rattle.quiet_pass.specs.declared.row_groups.Level.{Level}
use Rattle.quiet_pass.specs.declared.row_groups.RowGroups.{RowGroups}
use Rattle.quiet_pass.specs.declared.shift_ranges.ShiftRange.{ShiftRange}
use Rattle.quiet_pass.specs.declared.shift_ranges.QuietShifts.{QuietShifts}

-- a window of which a row holds this, by the shift
abbrev pub raised_by : (shift : ℕ) → Option ℤ → Option ℤ
raised_by shift window = option_map (λ credit. credit +ℤ pos shift) window

-- a stream of which a row holds this
abbrev pub raised : Sides ℕ → Stream → Stream
raised shift entry = record {
  life = entry.life;
  window = record {
    client = raised_by shift.client entry.window.client;
    server = raised_by shift.server entry.window.server;
  };
}

-- the same, where rows hold credits less a shift, or as they are
abbrev pub raised_in : Option (Sides ℕ) → Stream → Stream
raised_in None entry = entry
raised_in (Some shift) entry = raised shift entry

-- the shift moves as the initial windows in force do
pub record IsShiftMoved (before after shift next : Sides ℕ) : Type 0 where
  pub client : next.client + before.client ≡ shift.client + after.client
  pub server : next.server + before.server ≡ shift.server + after.server

-- ---- ranges of shifts

abbrev pub is_within : ShiftRange → (shift : ℕ) → Bool
is_within range shift = int_le range.least (pos shift) && int_le (pos shift) range.most

abbrev pub are_within : QuietShifts → Sides ℕ → Bool
are_within quiet shift = is_within quiet.client shift.client && is_within quiet.server shift.server

-- nothing is shown of a window that moves so; where credits are shown, it stays as it is
pub record IsUnshownMove (frames_shown : Bool) (before after : Option ℤ) : Type 0 where
  pub quiet : IsQuietMove before after
  pub still : frames_shown ≡ true → after ≡ before

-- nothing is shown of a window where one shift of a range follows another
abbrev pub IsWindowQuietFor : (frames_shown : Bool) → ShiftRange → Option ℤ → Type 0
IsWindowQuietFor frames_shown range window =
    (one other : ℕ) → is_within range one ≡ true → is_within range other ≡ true
    → IsUnshownMove frames_shown (raised_by one window) (raised_by other window)

-- nothing is shown of a stream where one shift follows another
pub record IsEntryQuiet (frames_shown : Bool) (one other : Sides ℕ) (entry : Stream) : Type 0 where
  pub client : IsUnshownMove frames_shown (raised_by one.client entry.window.client)
      (raised_by other.client entry.window.client)
  pub server : IsUnshownMove frames_shown (raised_by one.server entry.window.server)
      (raised_by other.server entry.window.server)

abbrev pub IsEntryQuietFor : (frames_shown : Bool) → QuietShifts → Stream → Type 0
IsEntryQuietFor frames_shown quiet entry =
    (one other : Sides ℕ) → are_within quiet one ≡ true → are_within quiet other ≡ true
    → IsEntryQuiet frames_shown one other entry

abbrev pub IsRowQuietFor : (frames_shown : Bool) → QuietShifts → Row → Type 0
IsRowQuietFor frames_shown quiet row = IsEntryQuietFor frames_shown quiet (held row.standings)

-- ---- groups of rows

-- these shifts are among those that are known for the rows of a group
abbrev pub knows : Level → (group : ℕ) → Sides ℕ → Bool
knows level group shift = option_map_or (λ quiet. are_within quiet shift) (slice_get level.known.items group) false

-- what is known of groups holds of the rows
abbrev pub IsCovered : (frames_shown : Bool) → Level → List Row → Type 0
IsCovered frames_shown level rows =
    0 < level.width → (at : ℕ) (row : Row) → slice_get rows at ≡ Some row → (one other : Sides ℕ)
    → knows level (at / level.width) one ≡ true → knows level (at / level.width) other ≡ true
    → IsEntryQuiet frames_shown one other (held row.standings)

-- this is known of a group's rows
abbrev pub IsGroupQuiet : (frames_shown : Bool) → (width group : ℕ) → QuietShifts → List Row → Type 0
IsGroupQuiet frames_shown width group quiet rows =
    (at : ℕ) (row : Row) → slice_get rows at ≡ Some row → at / width ≡ group → IsRowQuietFor frames_shown quiet row

-- nothing is shown of so many rows from one on where one shift follows another
abbrev pub AreRowsQuiet : (frames_shown : Bool) → (one other : Sides ℕ) → (from count : ℕ) → List Row → Type 0
AreRowsQuiet frames_shown one other from count rows =
    (at : ℕ) (row : Row) → from ≤ at → at < from + count → slice_get rows at ≡ Some row
    → IsEntryQuiet frames_shown one other (held row.standings)

-- what is known of all groups holds of the rows
pub record AreCovered (frames_shown : Bool) (groups : RowGroups) (rows : List Row) : Type 0 where
  pub small : IsCovered frames_shown groups.small rows
  pub middle : IsCovered frames_shown groups.middle rows
  pub large : IsCovered frames_shown groups.large rows
