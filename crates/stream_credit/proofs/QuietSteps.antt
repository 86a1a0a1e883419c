-- A step that shows nothing of a stream where credits are not shown, and a change that is one.
use Rattle.stream_credit.proofs.Words.{◌≡◌, option_map, new_initial, ends_window, step_amount, window_step, stream_said}
use Rattle.stream_credit.proofs.Words.{int_lt, Option, arith, Client, Server, Change, Stream, say_of, life_at}
use Rattle.stream_credit.proofs.Words.{credit_after_step}
use Rattle.stream_credit.proofs.Words.{ℕ, cond-true, overflows, step_test}
use Rattle.stream_credit.proofs.Words.{is_stalled, frame_step, HasCounted, HasRoomAt}
use Rattle.stream_credit.proofs.Words.{ℤ, [], ◌∷◌, refl, sym, ap, ◌∙◌, ints, Side, Step, say, Walk, ◌+◌}
use Rattle.stream_credit.proofs.Words.{Bool, true, ◌&&◌, not, List, ◌++◌, Some, None, Sides, Frame, shown, opens}
use Rattle.stream_credit.proofs.Words.{credit_after_change}
use Rattle.stream_credit.proofs.Words.{false, is_some, or_from, or_left, Finding, side_of, in_order, IsQuietMove}
use Rattle.stream_credit.proofs.Words.{and_right, is_zero_grant, live_window_said, is_overflowing_grant}
use Rattle.stream_credit.proofs.Words.{cond-false, append-nil, content_by, is_used_up, overruns, WindowStep, frame_said}
use Rattle.stream_credit.proofs.Words.{grant_to, is_not_opened, is_after_end, window_after, stream_after, initial_after}
use Rattle.stream_credit.proofs.Words.{IsQuiet, AreQuiet}
use Rattle.audit_terms.proofs.FindingLists.{each-append, each-in_order}

-- ---- findings that are not shown

pub both : (xs ys : List Finding) → AreQuiet xs → AreQuiet ys → AreQuiet (xs ++ ys)
both xs ys p q = each-append IsQuiet xs ys p q

pub unsaid : (holds : Bool) (found : Finding) → holds ≡ false → AreQuiet (say holds found)
unsaid true found h = cc
unsaid false found h = tt

pub said-quiet : (holds : Bool) (found : Finding) → IsQuiet found → AreQuiet (say holds found)
said-quiet true found h = (h, tt)
said-quiet false found h = tt

pub none-shown : (found : List Finding) → AreQuiet found → shown false found ≡ []
none-shown [] h = refl
none-shown (x ∷ xs) h = rw (h.0) (none-shown xs h.1)

-- ---- what a frame shows, and a live window

pub frame-quiet : (stream : ℕ) (entry : Stream) (step : Step) (frame : Frame)
    → is_not_opened stream entry.life frame ≡ false → is_after_end entry.life frame ≡ false
    → (is_zero_grant frame.body && is_some entry.life.opened) ≡ false → AreQuiet (frame_said stream entry step frame)
frame-quiet stream entry step frame used late zero =
    both _ _ (both _ _ (unsaid _ _ used) (unsaid _ _ late)) (unsaid _ _ zero)

-- no stall begins or ends
pub never-both : (a b : Bool) → a ≡ b → (a && not b) ≡ false
never-both true b e = ap not (sym e)
never-both false b e = refl

pub never-other : (a b : Bool) → a ≡ b → (not a && b) ≡ false
never-other true b e = refl
never-other false b e = sym e

live-quiet : (d : Side) (stream : ℕ) (step : Step) (window : WindowStep)
    → overflows window.before window.counted ≡ false
    → overruns window.before (step_amount (content_by d) step) ≡ false → window.overflowing ≡ false
    → is_used_up window.before ≡ is_stalled window.after → AreQuiet (live_window_said d stream step window)
live-quiet d stream step window fits within over used =
    both _ _
    (both _ _
    (both _ _
    (both _ _ (both _ _ (unsaid _ _ (and_right (is_some step.change) _ fits)) (unsaid _ _ within)) (unsaid _ _ over))
    (unsaid _ _ (never-both _ _ used)))
    (unsaid _ _ (never-other _ _ used)))
    (said-quiet _ _ refl)

-- ---- a window at a step of which nothing is shown

pub record IsQuietAt (d : Side) (stream : ℕ) (initial : Sides ℕ) (step : Step) (window next : Option ℤ) : Type 0 where
  pub said : AreQuiet (say_of (λ before. live_window_said d stream step (window_step d stream initial step before))
      window)
  pub after : window_after d stream initial step window ≡ next

module _ (d : Side) (stream : ℕ) (initial : Sides ℕ) (step : Step) where
  pub quiet-none : IsQuietAt d stream initial step None None
  quiet-none = record { said = tt; after = refl }

  module _ (before after : ℤ) (moved : credit_after_step d stream initial step before ≡ after)
      (fits : overflows before after ≡ false) (within : overruns before (step_amount (content_by d) step) ≡ false) where
    not-over : overflows before (credit_after_step d stream initial step before) ≡ false
    not-over = ap (overflows before) moved ∙ fits

    no-overflow : is_overflowing_grant d stream initial step before ≡ false
    no-overflow = and_right _ _ not-over

    quiet-by : (next : Option ℤ) → window_after d stream initial step (Some before) ≡ next
        → is_used_up before ≡ is_stalled next → IsQuietAt d stream initial step (Some before) next
    quiet-by next is used = record {
      said = live-quiet d stream step (window_step d stream initial step before) not-over within no-overflow
          (used ∙ sym (ap is_stalled is));
      after = is;
    }

    -- it lives on
    pub quiet-one : step_test (ends_window d) step ≡ false → is_used_up before ≡ is_used_up after
        → IsQuietAt d stream initial step (Some before) (Some after)
    quiet-one goes_on used = quiet-by (Some after)
        (cond-false _ None (Some (credit_after_step d stream initial step before)) (or_from _ _ goes_on no-overflow)
        ∙ ap Some moved) used

    -- the step ends it
    pub quiet-ended : step_test (ends_window d) step ≡ true → is_used_up before ≡ false
        → IsQuietAt d stream initial step (Some before) None
    quiet-ended ends some = quiet-by None
        (cond-true _ None (Some (credit_after_step d stream initial step before)) (or_left _ _ ends)) some

-- a frame that grants nothing to it, sends nothing through it and does not end it leaves it as it is
pub quiet-same : (d : Side) (stream : ℕ) (initial : Sides ℕ) (frame : Frame) → grant_to d stream frame ≡ 0
    → content_by d frame ≡ 0 → ends_window d frame ≡ false → (window : Option ℤ)
    → IsQuietAt d stream initial (frame_step frame) window window
quiet-same d stream initial frame grant content goes_on None = quiet-none d stream initial (frame_step frame)
quiet-same d stream initial frame grant content goes_on (Some before) =
    let level : int_lt before before ≡ false = grind (arith, ints) in
    quiet-one d stream initial (frame_step frame) before before (rw (grant, content) (omega (arith, ints)))
    (rw level refl) (rw content refl) goes_on refl

-- ---- a stream at such a step

module _ (stream : ℕ) (initial : Sides ℕ) (entry : Stream) (step : Step) (next : Sides (Option ℤ))
    (unopened : opens stream entry step ≡ false)
    (quiet : (d : Side) → IsQuietAt d stream initial step (side_of d entry.window) (side_of d next)) where
  pub stream-quiet : AreQuiet (say_of (frame_said stream entry step) step.frame)
      → AreQuiet (stream_said stream initial entry step)
  stream-quiet frame = both _ _ (both _ _ frame (rw unopened (quiet Client).said)) (rw unopened (quiet Server).said)

  pub stream-shown : AreQuiet (say_of (frame_said stream entry step) step.frame)
      → shown false (in_order (stream_said stream initial entry step)) ≡ []
  stream-shown frame = none-shown _ (each-in_order IsQuiet _ (stream-quiet frame))

  pub stream-moved : stream_after stream initial entry step ≡ record { life = life_at stream entry step; window = next }
  stream-moved = rw (unopened, (quiet Client).after, (quiet Server).after) refl

-- ---- a change by itself

abbrev pub change_alone : (number : ℕ) → Option Change → Step
change_alone number change = record { number = number; frame = None; change = change }

pub quiet-change : (d : Side) (stream : ℕ) (initial : Sides ℕ) (number : ℕ) (change : Option Change) (after : ℕ)
    (window next : Option ℤ) → after ≡ new_initial change d (side_of d initial)
    → next ≡ option_map (credit_after_change (side_of d initial) after) window → IsQuietMove window next
    → IsQuietAt d stream initial (change_alone number change) window next
quiet-change d stream initial number change after None None a e h = quiet-none d stream initial _
quiet-change d stream initial number change after None (Some next) a e h = cc
quiet-change d stream initial number change after (Some credit) None a e h = cc
quiet-change d stream initial number change after (Some credit) (Some next) a e h =
    let one = h credit refl next refl in
    let to : next ≡ credit_after_change (side_of d initial) after credit = cc in
    let now : credit_after_step d stream initial (change_alone number change) credit ≡ next =
    rw (← a) (omega (arith, ints, to)) in
    quiet-one d stream initial (change_alone number change) credit next now one.1 refl refl one.0

pub quiet-changes : (stream : ℕ) (initial : Sides ℕ) (number : ℕ) (change : Option Change) (after : Sides ℕ)
    (window next : Sides (Option ℤ)) → after ≡ initial_after change initial
    → next.client ≡ option_map (credit_after_change initial.client after.client) window.client
    → next.server ≡ option_map (credit_after_change initial.server after.server) window.server
    → IsQuietMove window.client next.client → IsQuietMove window.server next.server → (d : Side)
    → IsQuietAt d stream initial (change_alone number change) (side_of d window) (side_of d next)
quiet-changes stream initial number change after window next a c s p q Client =
    quiet-change Client stream initial number change after.client window.client next.client
    (ap (λ (now : Sides ℕ). now.client) a) c p
quiet-changes stream initial number change after window next a c s p q Server =
    quiet-change Server stream initial number change after.server window.server next.server
    (ap (λ (now : Sides ℕ). now.server) a) s q

-- the walk that moves its windows has counted the change
pub change-counted : (old : Walk) (number : ℕ) (frame : Option Frame) (change : Option Change) (after : Sides ℕ)
    (next : Sides (Option ℤ)) → old.frames_shown ≡ false → is_some frame ≡ false
    → after ≡ initial_after change old.initial
    → next.client ≡ option_map (credit_after_change old.initial.client after.client) old.entry.window.client
    → next.server ≡ option_map (credit_after_change old.initial.server after.server) old.entry.window.server
    → IsQuietMove old.entry.window.client next.client → IsQuietMove old.entry.window.server next.server
    → HasRoomAt (number + 1) (record { life = old.entry.life; window = next })
    → HasCounted old (record { number = number; frame = frame; change = change })
    (record old { entry = record { life = old.entry.life; window = next }; initial = after })
change-counted old number (Some frame) change after next hidden none a c s p q room = cc
change-counted old number None change after next hidden none a c s p q room =
    let quiet = quiet-changes old.stream old.initial number change after old.entry.window next a c s p q in
    record {
      stream = refl;
      frames_shown = refl;
      found = rw (hidden, stream-shown old.stream old.initial old.entry (change_alone number change) next refl quiet tt)
          (sym (append-nil old.found.items));
      entry = sym (stream-moved old.stream old.initial old.entry (change_alone number change) next refl quiet);
      initial = a;
      met = refl;
      watch = refl;
      room = room;
    }
