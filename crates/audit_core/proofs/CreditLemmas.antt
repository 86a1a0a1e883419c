-- A credit that is carried from frame to frame is the sum over the frames.
use Rattle.std.proofs.Common.{Bool, List, None, Option, Some, [], arith, false, if◌then◌else◌, pos, refl, subst, sum_by}
use Rattle.std.proofs.Common.{sym, true, ℕ, ℤ, ⊎_elim, ◌+ℤ◌, ◌+◌, ◌-ℤ◌, ◌∙◌, ◌∷◌, ◌≡◌, ◌≤◌}
use Rattle.std.proofs.lemmas.List.Sums.{sum_by-cons}
use Rattle.audit_core.proofs.Meetings.{step-content, step-grant, step-opened, step-opening}
use Rattle.audit_core.proofs.Words.{Client, ConnectionCreditIsSum, Frame, IsOrderlyFrom, PassState, Server, Side, Step}
use Rattle.audit_core.proofs.Words.{StreamCreditIsSum, cases_Bool, change_of, content_by, content_on, credit_after_step}
use Rattle.audit_core.proofs.Words.{credit_after, grant_to, ints, lt-leb, nat_tests, new_initial, next, opens}
use Rattle.audit_core.proofs.Words.{pass_start, side_of, since, state_from, step_of, stream_credit_sum, window_after}

-- ---- the connection

connection-credit : (d : Side) (state : PassState) (frames : List Frame)
    → side_of d (state_from state frames).connection.credit
    ≡ (side_of d state.connection.credit +ℤ pos (sum_by (grant_to d 0) frames)) -ℤ pos (sum_by (content_by d) frames)
connection-credit d state [] = omega (arith, ints)
connection-credit d state (frame ∷ frames) =
    let next_is : side_of d (next state frame).connection.credit
    ≡ credit_after d (side_of d state.connection.credit) frame = grind arith in
    let rest = connection-credit d (next state frame) frames in
    omega (arith, ints, rest, sum_by-cons (grant_to d 0) frame frames, sum_by-cons (content_by d) frame frames)

-- ---- one frame at a stream

abbrev opened_in : (stream : ℕ) → PassState → Option ℕ
opened_in stream state = (state.streams stream).life.opened

abbrev window_in : Side → (stream : ℕ) → PassState → Option ℤ
window_in d stream state = side_of d (state.streams stream).window

abbrev initial_in : Side → PassState → ℕ
initial_in d state = side_of d state.in_force.initial

module _ (d : Side) (stream : ℕ) (state : PassState) (frame : Frame) where
  abbrev step : Step
  step = step_of state.in_force frame stream

  abbrev opens_now : Bool
  opens_now = opens stream (state.streams stream) step

  opened-next : opened_in stream (next state frame) ≡ (if opens_now then Some frame.number else opened_in stream state)
  opened-next = step-opened stream state.in_force frame (state.streams stream)

  window-next : opens_now ≡ false → window_in d stream (next state frame)
      ≡ window_after d stream state.in_force.initial step (window_in d stream state)
  window-next e = grind arith

  initial-next : initial_in d (next state frame) ≡ new_initial (change_of state.in_force frame) d (initial_in d state)
  initial-next = grind arith

  -- an opened stream is not opened again
  opened-once : (first : ℕ) → opened_in stream state ≡ Some first → opens_now ≡ false
  opened-once first e = grind arith

  -- a window that lives on was live, and counts what the step moves
  window-was : (window : Option ℤ) (after : ℤ) → window_after d stream state.in_force.initial step window ≡ Some after
      → (before : ℤ) × (window ≡ Some before) × (after ≡ credit_after_step d stream state.in_force.initial step before)
  window-was None after e = cc
  window-was (Some before) after e = (before, refl, grind arith)

  -- a window that the step makes live begins with the initial window
  window-begins : (before : ℤ) → opens_now ≡ true → window_in d stream (next state frame) ≡ Some before
      → before ≡ pos (initial_in d state)
  window-begins before here live = grind arith

-- the credit is the sum from where the window of an opened stream was
abbrev CountsOn : Side → ℕ → PassState → List Frame → ℤ → ℤ → Type 0
CountsOn d stream state frames before credit =
    credit ≡ (((before +ℤ pos (sum_by (grant_to d stream) frames)) -ℤ pos (sum_by (content_on d stream) frames))
    +ℤ pos (initial_in d (state_from state frames))) -ℤ pos (initial_in d state)

-- a window that is live in the end, of a stream that was opened before, was live then
counts-on : (d : Side) (stream first : ℕ) (state : PassState) (frames : List Frame) (credit : ℤ)
    → opened_in stream state ≡ Some first → window_in d stream (state_from state frames) ≡ Some credit
    → (opened_in stream (state_from state frames) ≡ Some first)
    × (before : ℤ) × (window_in d stream state ≡ Some before) × CountsOn d stream state frames before credit
counts-on d stream first state [] credit e last = (e, credit, last, omega (arith, ints))
counts-on d stream first state (frame ∷ frames) credit e last =
    let once = opened-once d stream state frame first e in
    let (stays, after, live, counts) = counts-on d stream first (next state frame) frames credit
    (opened-next d stream state frame ∙ rw once e) last in
    let (before, was, is) = window-was d stream state frame (window_in d stream state) after
    (sym (window-next d stream state frame once) ∙ live) in
    let granted = sum_by-cons (grant_to d stream) frame frames in
    let sent = sum_by-cons (content_on d stream) frame frames in
    let grant = step-grant stream state.in_force frame d in
    let content = step-content stream state.in_force frame d in
    (stays, before, was, omega (arith, ints, initial-next d stream state frame))

-- ---- from the opening on

since-all : (opening low : ℕ) (frames : List Frame) → opening ≤ low → IsOrderlyFrom low frames
    → since opening frames ≡ frames
since-all opening low [] below h = refl
since-all opening low (frame ∷ frames) below h =
    grind (arith, nat_tests, since-all opening (frame.number + 1) frames (omega (arith, h.0)) h.2, h.0, h.2)

-- what a live window's credit is, where the stream was not opened before the frames
abbrev IsSumSince : Side → (stream opening : ℕ) → PassState → List Frame → ℤ → Type 0
IsSumSince d stream opening state frames credit =
    credit ≡ stream_credit_sum (initial_in d (state_from state frames)) d stream opening frames

-- from the frame that opens the stream: it counts nothing, and brings no settings
begun : (d : Side) (stream : ℕ) (state : PassState) (frame : Frame) (frames : List Frame) (before credit : ℤ)
    → IsOrderlyFrom frame.number (frame ∷ frames) → opens_now d stream state frame ≡ true
    → window_in d stream (next state frame) ≡ Some before → CountsOn d stream (next state frame) frames before credit
    → IsSumSince d stream frame.number state (frame ∷ frames) credit
begun d stream state frame frames before credit h here live counts =
    let first = window-begins d stream state frame before here live in
    let nothing = step-opening stream state.in_force frame (state.streams stream) here in
    let grant : grant_to d stream frame ≡ 0 = grind (arith, nothing.grants) in
    let content : content_on d stream frame ≡ 0 = grind (arith, nothing.content) in
    let unchanged : initial_in d (next state frame) ≡ initial_in d state = grind (arith, nothing.ack) in
    rw (since-all frame.number frame.number (frame ∷ frames) (omega arith) h)
    (omega (arith, ints, sum_by-cons (grant_to d stream) frame frames, sum_by-cons (content_on d stream) frame frames))

-- a stream that is opened among some frames is opened by one of them
is-sum : (d : Side) (stream opening low : ℕ) (state : PassState) (frames : List Frame) (credit : ℤ)
    → IsOrderlyFrom low frames → opened_in stream state ≡ None
    → opened_in stream (state_from state frames) ≡ Some opening
    → window_in d stream (state_from state frames) ≡ Some credit
    → (low ≤ opening) × IsSumSince d stream opening state frames credit
is-sum d stream opening low state [] credit h none opened last = cc
is-sum d stream opening low state (frame ∷ frames) credit h none opened last =
    ⊎_elim (λ here.
    let (stays, before, live, counts) = counts-on d stream frame.number (next state frame) frames credit
    (opened-next d stream state frame ∙ rw here refl) last in
    let same : frame.number ≡ opening = cc in (
      omega (arith, h.0),
      subst (λ first. IsSumSince d stream first state (frame ∷ frames) credit) same
          (begun d stream state frame frames before credit (omega arith, h.1, h.2) here live counts),
    )) (λ here.
    let (above, sum) = is-sum d stream opening (frame.number + 1) (next state frame) frames credit h.2
    (opened-next d stream state frame ∙ rw here none) opened last in
    (omega (arith, h.0), rw (lt-leb opening frame.number (omega arith)) sum))
    (cases_Bool (opens_now d stream state frame))

-- ---- the laws

pub connection_credit_is_sum : ConnectionCreditIsSum
connection_credit_is_sum Client frames = omega (arith, ints, connection-credit Client pass_start frames)
connection_credit_is_sum Server frames = omega (arith, ints, connection-credit Server pass_start frames)

pub stream_credit_is_sum : StreamCreditIsSum
stream_credit_is_sum d stream opening credit frames h above opened last =
    (is-sum d stream opening 0 pass_start frames credit h refl opened last).1

pub ruleset credit_laws = (connection_credit_is_sum, stream_credit_is_sum)
