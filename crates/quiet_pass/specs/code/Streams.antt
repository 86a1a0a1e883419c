-- All streams, as they are kept in rows. No public clause cites this.
use Rattle.std.specs.List.{AllByRecursion, IsDistinct, flat_map, list_any}
use Rattle.std.specs.Prelude.{◌≡◌, ℕ, ◌%◌, ◌<◌, ◌^◌, ◌==◌, Bool, false, if◌then◌else◌, List, [], ◌++◌, Option}
use Rattle.std.specs.Prelude.{Some, None, option_map}
use Rattle.audit_terms.specs.declared.sides.Sides.{Sides}
use Rattle.audit_terms.specs.declared.findings.Finding.{Finding}
use Rattle.audit_terms.specs.declared.frames.Frame.{Frame}
use Rattle.audit_terms.specs.declared.items.Change.{Change}
use Rattle.audit_terms.specs.declared.items.Step.{Step}
use Rattle.audit_terms.specs.declared.stream_state.Stream.{Stream}
use Rattle.audit_terms.specs.Finding.{shown}
use Rattle.audit_terms.specs.Frame.{meets}
use Rattle.audit_terms.specs.Life.{is_opening}
use Rattle.audit_terms.specs.Stream.{stream_said, stream_after}
use Rattle.quiet_pass.specs.declared.kept_streams.Shifted.{Shifted}
use Rattle.quiet_pass.specs.declared.kept_streams.Streams.{Streams}
use Rattle.stream_credit.specs.code.Standings.{AreQuiet}
use Rattle.quiet_pass.specs.code.Rows.{entry_in, AreOfParity, AreRising, IsPut}
use Rattle.quiet_pass.specs.code.Shifts.{AreCovered, raised_in}

-- the rows are those of the streams: of the odd ones, which the client opens, and of the even ones, which the server
-- promises, with identifiers of 31 bits (RFC 9113, 5.1.1)
pub record AreRowsOf (streams : ℕ → Stream) (kept : Streams) : Type 0 where
  pub odd : (stream : ℕ) → stream % 2 ≡ 1 → streams stream ≡ entry_in kept.opened.items stream
  pub even : (stream : ℕ) → stream % 2 ≡ 0 → 0 < stream → streams stream ≡ entry_in kept.promised.items stream
  pub opened : AreRising kept.opened.items
  pub promised : AreRising kept.promised.items
  pub opened_odd : AreOfParity 1 kept.opened.items
  pub promised_even : AreOfParity 0 kept.promised.items

-- the shift that rows hold credits less than, if they do
abbrev pub shift_of : Streams → Option (Sides ℕ)
shift_of kept = option_map (λ (shifted : Shifted). shifted.shift) kept.shifted

-- this is the shift that rows hold credits less than, and what is known of groups of them is for where credits are
-- shown, or for where they are not
pub record IsShiftFor (frames_shown : Bool) (kept : Streams) (shift : Sides ℕ) : Type 0 where
  pub shifted : Shifted
  pub is : kept.shifted ≡ Some shifted
  pub by : shifted.shift ≡ shift
  pub known : shifted.frames_shown ≡ frames_shown

-- what is known of groups of rows holds
pub record AreGroups (shifted : Shifted) (kept : Streams) : Type 0 where
  pub opened : AreCovered shifted.frames_shown shifted.opened.value kept.opened.items
  pub promised : AreCovered shifted.frames_shown shifted.promised.value kept.promised.items

-- the same, if rows hold credits less a shift
abbrev pub AreGrouped : Streams → Type 0
AreGrouped kept = (shifted : Shifted) → kept.shifted ≡ Some shifted → AreGroups shifted kept

-- the streams, of which rows hold all, or all but a shift
pub record AreStreams (streams : ℕ → Stream) (kept : Streams) : Type 0 where
  pub base : ℕ → Stream
  pub rows : AreRowsOf base kept
  pub raised : (stream : ℕ) → 0 < stream → streams stream ≡ raised_in (shift_of kept) (base stream)
  pub grouped : AreGrouped kept

-- what a stream meets at a frame that brings a change, or none
abbrev pub as_step : Frame → Option Change → (stream : ℕ) → Step
as_step frame change stream = record {
  number = frame.number;
  frame = (if meets stream frame then Some frame else None);
  change = change;
}

-- a stream before and after such a step: nothing of that is shown
pub record IsStep (stream : ℕ) (initial : Sides ℕ) (step : Step) (entry next : Stream) : Type 0 where
  pub said : AreQuiet (stream_said stream initial entry step)
  pub after : next ≡ stream_after stream initial entry step

-- the streams after a frame that brings a change, or none, for which this holds: nothing of that is shown
pub record AreMet (initial : Sides ℕ) (frame : Frame) (change : Option Change) (streams : ℕ → Stream)
    (Kept : (ℕ → Stream) → Type 0) : Type 0 where
  pub said : (stream : ℕ) → 0 < stream
      → AreQuiet (stream_said stream initial (streams stream) (as_step frame change stream))
  pub after : Kept (λ stream. stream_after stream initial (streams stream) (as_step frame change stream))

-- the same of a frame on a stream, which opens it or not
pub record AreMetOn (initial : Sides ℕ) (frame : Frame) (opens : Bool) (streams : ℕ → Stream)
    (Kept : (ℕ → Stream) → Type 0) : Type 0 where
  pub opening : is_opening frame.stream (streams frame.stream).life frame ≡ opens
  pub met : AreMet initial frame None streams Kept

-- streams other than 0, each once, with identifiers of a connection
pub record AreNames (names : List ℕ) : Type 0 where
  pub named : AllByRecursion (λ stream. 0 < stream) names
  pub small : AllByRecursion (λ stream. stream < 2 ^ 31) names
  pub once : IsDistinct ◌==◌ names

-- what a step without a frame shows of some streams was added, it shows nothing of others, and the streams are as they
-- are after the step
pub record IsChangeSaid (frames_shown : Bool) (initial : Sides ℕ) (step : Step) (Was Kept : (ℕ → Stream) → Type 0)
    (before after : List Finding) : Type 0 where
  pub some : List ℕ
  pub names : (streams : ℕ → Stream) → Was streams → AreNames some
  pub said : (streams : ℕ → Stream) → Was streams → shown frames_shown after ≡ shown frames_shown before
      ++ shown frames_shown (flat_map (λ stream. stream_said stream initial (streams stream) step) some)
  pub others : (streams : ℕ → Stream) → Was streams → (other : ℕ) → 0 < other
      → list_any (λ one. one == other) some ≡ false
      → shown frames_shown (stream_said other initial (streams other) step) ≡ []
  pub met : (streams : ℕ → Stream) → Was streams
      → Kept (λ stream. stream_after stream initial (streams stream) step)

-- this is a stream now, and no other stream changes: a row holds it, or all of it but the shift
pub record ArePut (stream : ℕ) (entry : Stream) (old new : Streams) : Type 0 where
  pub small : stream < 2 ^ 31
  pub low : Stream
  pub raises : raised_in (shift_of old) low ≡ entry
  pub shift : shift_of new ≡ shift_of old
  pub odd : stream % 2 ≡ 1 → (AreRising old.opened.items → IsPut stream low old.opened.items new.opened.items)
      × (new.promised.items ≡ old.promised.items)
  pub even : stream % 2 ≡ 0 → (AreRising old.promised.items → IsPut stream low old.promised.items new.promised.items)
      × (new.opened.items ≡ old.opened.items)
  pub grouped : AreGrouped old → AreGrouped new
