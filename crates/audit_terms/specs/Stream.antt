-- One stream: its opening, its ends and the windows of both sides on it (RFC 9113, 5.1, 6.1, 6.4, 6.9, 6.9.1, 6.9.2).
use Rattle.std.specs.Prelude.{ℕ, ℤ, pos, ◌+ℤ◌, ◌-ℤ◌, Bool, false, ◌&&◌, ◌||◌, not, nat_lt, if◌then◌else◌, List, [], ◌∷◌}
use Rattle.std.specs.Prelude.{◌++◌, Option, Some, None, is_some}
use Rattle.std.specs.Option.{option_map_or}
use Rattle.std.specs.Ordering.{int_eq}
use Rattle.audit_terms.specs.declared.sides.Side.{Side}
use Rattle.audit_terms.specs.declared.sides.Side.TheVariants.{Client, Server}
use Rattle.audit_terms.specs.declared.sides.Sides.{Sides}
use Rattle.audit_terms.specs.declared.kinds.Kind.{Kind}
use Rattle.audit_terms.specs.declared.kinds.Kind.TheVariants.{NotOpened, SettingOverflow, AfterEnd, StreamOverrun}
use Rattle.audit_terms.specs.declared.kinds.Kind.TheVariants.{ZeroStreamGrant, StreamOverflow, StreamStallEnd}
use Rattle.audit_terms.specs.declared.kinds.Kind.TheVariants.{StreamStallBegin, StreamCredit}
use Rattle.audit_terms.specs.declared.frames.Frame.{Frame}
use Rattle.audit_terms.specs.declared.items.Step.{Step}
use Rattle.audit_terms.specs.declared.lives.StreamLife.{StreamLife}
use Rattle.audit_terms.specs.declared.stream_state.Stream.{Stream}
use Rattle.audit_terms.specs.declared.findings.Finding.{Finding}
use Rattle.audit_terms.specs.Sides.{side_of, each_side}
use Rattle.audit_terms.specs.Frame.{is_zero_grant, content_by, grant_to}
use Rattle.audit_terms.specs.Life.{idle_life, is_opening, life_after, is_last_of, ends_window, is_not_opened}
use Rattle.audit_terms.specs.Life.{is_after_end}
use Rattle.audit_terms.specs.Window.{is_used_up, overflows, overruns}
use Rattle.audit_terms.specs.Change.{new_initial}
use Rattle.audit_terms.specs.Finding.{finding_at, say, say_of}

-- a stream that is not opened
abbrev pub idle_stream : Stream
idle_stream = record { life = idle_life; window = each_side (λ _. None) }

-- a test of the step's frame, false where it has none
abbrev pub step_test : (Frame → Bool) → Step → Bool
step_test test step = option_map_or test step.frame false

-- an amount of the step's frame, 0 where it has none
abbrev pub step_amount : (Frame → ℕ) → Step → ℕ
step_amount amount step = option_map_or amount step.frame 0

-- a finding of the stream at the step's number
abbrev pub stream_finding : Kind → (stream : ℕ) → Step → Side → ℤ → Finding
stream_finding kind stream step side value = finding_at kind step.number stream side value

-- does the step open the stream?
abbrev pub opens : (stream : ℕ) → Stream → Step → Bool
opens stream entry step = step_test (is_opening stream entry.life) step

-- the life of the stream after the step
abbrev pub life_at : (stream : ℕ) → Stream → Step → StreamLife
life_at stream entry step = option_map_or (life_after stream entry.life) step.frame entry.life

-- a live window at a step
pub record WindowStep : Type 0 where
  pub before : ℤ  -- the credit before the step
  pub counted : ℤ  -- the credit once the step is counted
  pub overflowing : Bool  -- does a grant bring it above the largest?
  pub last : ℤ  -- the last credit that is known
  pub after : Option ℤ  -- the credit after the step, where the window lives on

-- the window of side d at the step, from its credit before it. The step moves it by what is granted to it, less what is
-- sent through it (6.9, 6.9.1), and by the new initial window minus the old (6.9.2). A grant that would bring it above
-- the largest is not added, and ends it (6.9.1), as does a frame that ends it
-- //= https://www.rfc-editor.org/rfc/rfc9113#section-6.9.1
-- //# If a sender receives a WINDOW_UPDATE that causes a flow-control window to exceed this maximum, it MUST terminate
-- //# either the stream or the connection, as appropriate.
-- //= https://www.rfc-editor.org/rfc/rfc9113#section-6.9.2
-- //# When the value of SETTINGS_INITIAL_WINDOW_SIZE changes, a receiver MUST adjust the size of all stream
-- //# flow-control windows that it maintains by the difference between the new value and the old value.
abbrev pub window_step : Side → (stream : ℕ) → Sides ℕ → Step → (before : ℤ) → WindowStep
window_step d stream initial step before =
    let granted = step_amount (grant_to d stream) step in
    let by_frame = pos granted -ℤ pos (step_amount (content_by d) step) in
    let by_change = pos (new_initial step.change d (side_of d initial)) -ℤ pos (side_of d initial) in
    let counted = before +ℤ (by_frame +ℤ by_change) in
    let overflowing = nat_lt 0 granted && overflows before counted in
    record {
      before = before;
      counted = counted;
      overflowing = overflowing;
      last = (if overflowing then before else counted);
      after = (if step_test (ends_window d) step || overflowing then None else Some counted);
    }

-- the window of side d after the step, from its credit before it; one that is not live has none
abbrev pub window_after : Side → (stream : ℕ) → Sides ℕ → Step → Option ℤ → Option ℤ
window_after d stream initial step None = None
window_after d stream initial step (Some before) = (window_step d stream initial step before).after

-- the window of side d at the opening: the initial window in force, unless the side sends nothing more
-- //= https://www.rfc-editor.org/rfc/rfc9113#section-6.9.2
-- //# When an HTTP/2 connection is first established, new streams are created with an initial flow-control window size
-- //# of 65,535 octets.
abbrev pub window_at_opening : Side → (stream : ℕ) → Sides ℕ → Step → Option ℤ
window_at_opening d stream initial step =
    if step_test (is_last_of d stream) step then None else Some (pos (side_of d initial))

-- the stream after the step, where `initial` are the initial windows in force before it
abbrev pub stream_after : (stream : ℕ) → Sides ℕ → Stream → Step → Stream
stream_after stream initial entry step = record {
  life = life_at stream entry step;
  window = each_side (λ d.
      if opens stream entry step then window_at_opening d stream initial step
      else window_after d stream initial step (side_of d entry.window));
}

-- what the step's frame shows: use before the opening, after the sender's end, a grant of 0 (5.1, 6.9)
abbrev pub frame_said : (stream : ℕ) → Stream → Step → Frame → List Finding
frame_said stream entry step frame =
    say (is_not_opened stream entry.life frame) (stream_finding NotOpened stream step frame.side (pos frame.code))
    ++ say (is_after_end entry.life frame) (stream_finding AfterEnd stream step frame.side (pos frame.code))
    ++ say (is_zero_grant frame.body && is_some entry.life.opened)
    (stream_finding ZeroStreamGrant stream step frame.side (pos 0))

-- is the window live and its credit used up?
abbrev pub is_stalled : Option ℤ → Bool
is_stalled window = option_map_or is_used_up window false

-- what the step shows of a window of side d that is live before it
-- //= https://www.rfc-editor.org/rfc/rfc9113#section-6.9.2
-- //# An endpoint MUST treat a change to SETTINGS_INITIAL_WINDOW_SIZE that causes any flow-control window to exceed
-- //# the maximum size as a connection error (Section 5.4.1) of type FLOW_CONTROL_ERROR.
abbrev pub live_window_said : Side → (stream : ℕ) → Step → WindowStep → List Finding
live_window_said d stream step window =
    say (is_some step.change && overflows window.before window.counted)
    (stream_finding SettingOverflow stream step d window.counted)
    ++ say (overruns window.before (step_amount (content_by d) step))
    (stream_finding StreamOverrun stream step d window.counted)
    ++ say window.overflowing (stream_finding StreamOverflow stream step d window.counted)
    ++ say (is_used_up window.before && not (is_stalled window.after))
    (stream_finding StreamStallEnd stream step d window.last)
    ++ say (not (is_used_up window.before) && is_stalled window.after)
    (stream_finding StreamStallBegin stream step d window.last)
    ++ say (not (int_eq window.before window.last)) (stream_finding StreamCredit stream step d window.last)

-- what the step shows of a window of side d that it makes live
abbrev pub opened_window_said : Side → (stream : ℕ) → Step → (credit : ℤ) → List Finding
opened_window_said d stream step credit =
    say (is_used_up credit) (stream_finding StreamStallBegin stream step d credit)
    ++ stream_finding StreamCredit stream step d credit ∷ []

-- what the step shows of the window of side d
abbrev pub stream_window_said : Side → (stream : ℕ) → Sides ℕ → Stream → Step → List Finding
stream_window_said d stream initial entry step =
    if opens stream entry step
    then say_of (opened_window_said d stream step) (window_at_opening d stream initial step)
    else say_of (λ before. live_window_said d stream step (window_step d stream initial step before))
    (side_of d entry.window)

-- what the step shows of the stream
abbrev pub stream_said : (stream : ℕ) → Sides ℕ → Stream → Step → List Finding
stream_said stream initial entry step =
    say_of (frame_said stream entry step) step.frame
    ++ stream_window_said Client stream initial entry step
    ++ stream_window_said Server stream initial entry step
