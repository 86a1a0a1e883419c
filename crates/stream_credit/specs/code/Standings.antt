-- How a stream stands of which nothing is shown, where credits are not shown.
use Rattle.std.specs.Prelude.{◌≡◌, ℕ, ℤ, pos, Bool, true, false, ◌==◌, ◌||◌, if◌then◌else◌, List, Option, Some, None}
use Rattle.std.specs.List.{AllByRecursion}
use Rattle.audit_terms.specs.declared.sides.Side.{Side}
use Rattle.audit_terms.specs.declared.sides.Side.TheVariants.{Client, Server}
use Rattle.audit_terms.specs.declared.sides.Sides.{Sides}
use Rattle.audit_terms.specs.declared.frames.Frame.{Frame}
use Rattle.audit_terms.specs.declared.lives.StreamLife.{StreamLife}
use Rattle.audit_terms.specs.declared.stream_state.Stream.{Stream}
use Rattle.audit_terms.specs.declared.findings.Finding.{Finding}
use Rattle.audit_terms.specs.Frame.{content_by, grant_to}
use Rattle.audit_terms.specs.Life.{idle_life, is_opening, is_last_of}
use Rattle.audit_terms.specs.Window.{is_used_up}
use Rattle.audit_terms.specs.Finding.{is_shown, say_of}
use Rattle.audit_terms.specs.Stream.{idle_stream, stream_said, stream_after, window_step, window_after}
use Rattle.audit_terms.specs.Stream.{live_window_said}
use Rattle.audit_terms.specs.code.runs.Streams.{frame_step}
use Rattle.audit_terms.specs.code.Standing.{has_ended, window_of, IsBalance, IsMovedBy}
use Rattle.stream_credit.specs.declared.stream_standings.Standings.{Standings}

-- findings that are not shown where credits are not
abbrev pub IsQuiet : Finding → Type 0
IsQuiet found = is_shown false found ≡ false

abbrev pub AreQuiet : List Finding → Type 0
AreQuiet found = AllByRecursion IsQuiet found

-- ---- one side

-- what a frame on the stream shows of the live window of side d
abbrev pub window_said : Side → Sides ℕ → Frame → Option ℤ → List Finding
window_said d initial frame window =
    say_of (λ before. live_window_said d frame.stream (frame_step frame)
    (window_step d frame.stream initial (frame_step frame) before)) window

-- the credit of a live window of side d after a frame on the stream
abbrev pub IsBalanced : (d : Side) → Frame → (standing counted : ℕ) → Type 0
IsBalanced d frame standing = IsBalance standing (grant_to d frame.stream frame) (content_by d frame)

-- how side d stands after a frame on the stream, which is opened: nothing of that is shown
pub record IsStandingAfter (d : Side) (frame : Frame) (standing next : ℕ) : Type 0 where
  pub said : (initial : Sides ℕ) → AreQuiet (window_said d initial frame (window_of standing))
  pub window : (initial : Sides ℕ) → window_of next
      ≡ window_after d frame.stream initial (frame_step frame) (window_of standing)
  pub ended : has_ended next ≡ (has_ended standing || is_last_of d frame.stream frame)

-- how a side stands that has this window, and has ended the stream or not
pub record IsStandingOf (window : Option ℤ) (is_ended : Bool) (standing : ℕ) : Type 0 where
  pub same : window_of standing ≡ window
  pub ended : has_ended standing ≡ is_ended

-- how a side stands on a stream that is opened: nothing of that is shown
pub record IsOpeningStanding (initial : ℕ) (is_last : Bool) (standing : ℕ) : Type 0 where
  pub some : is_last ≡ false → is_used_up (pos initial) ≡ false
  pub window : window_of standing ≡ (if is_last then None else Some (pos initial))
  pub ended : has_ended standing ≡ is_last

-- ---- both

-- the number of the opening frame: 0 stands for none
abbrev pub opened_of : (number : ℕ) → Option ℕ
opened_of number = if number == 0 then None else Some number

-- its opening and its ends
abbrev pub life_of : Standings → StreamLife
life_of standings = record {
  opened = opened_of standings.opened;
  ended = record { client = has_ended standings.client; server = has_ended standings.server };
}

-- the stream that stands so
abbrev pub stream_of : Standings → Stream
stream_of standings = record {
  life = life_of standings;
  window = record { client = window_of standings.client; server = window_of standings.server };
}

-- how a side stands
abbrev pub of_side : Side → Standings → ℕ
of_side Client standings = standings.client
of_side Server standings = standings.server

-- a stream on which side d stands so, and the other one so
abbrev pub sided : (d : Side) → (opened own heard : ℕ) → Standings
sided Client opened own heard = record { opened = opened; client = own; server = heard }
sided Server opened own heard = record { opened = opened; client = heard; server = own }

-- a stream after a frame that it meets: nothing of that is shown
pub record IsNext (stream : ℕ) (initial : Sides ℕ) (frame : Frame) (old new : Standings) : Type 0 where
  pub said : AreQuiet (stream_said stream initial (stream_of old) (frame_step frame))
  pub after : stream_of new ≡ stream_after stream initial (stream_of old) (frame_step frame)

-- the same of a stream that is opened, and a frame on it
pub record IsNextOpened (frame : Frame) (old new : Standings) : Type 0 where
  pub unopened : is_opening frame.stream (life_of old) frame ≡ false
  pub next : (initial : Sides ℕ) → IsNext frame.stream initial frame old new

-- a stream that a frame opens: nothing of that is shown
pub record IsOpenedBy (stream : ℕ) (initial : Sides ℕ) (frame : Frame) (new : Standings) : Type 0 where
  pub opening : is_opening stream idle_life frame ≡ true
  pub said : AreQuiet (stream_said stream initial idle_stream (frame_step frame))
  pub after : stream_of new ≡ stream_after stream initial idle_stream (frame_step frame)

-- a stream after the initial windows in force go from some to others: nothing of that is shown
pub record AreMovedBy (before after : Sides ℕ) (old new : Standings) : Type 0 where
  pub opened : new.opened ≡ old.opened
  pub client : IsMovedBy before.client after.client old.client new.client
  pub server : IsMovedBy before.server after.server old.server new.server
