-- A window of a stream is live only while the stream is opened and the window's endpoint has not ended it.
use Rattle.std.proofs.Common.{Bool, List, None, Some, [], arith, refl, true, ℕ, ℤ, ◌%◌, ◌&&◌, ◌==◌, ◌||◌, ◌∙◌, ◌∷◌, ◌≡◌}
use Rattle.std.proofs.Common.{Option, false, if◌then◌else◌, is_some}
use Rattle.{audit_core.proofs.Words.Side, std.specs.Prelude.OnSome}
use Rattle.audit_core.proofs.Words.{Change, Client, Frame, Server, Sides, Step, Stream, is_side, meets, next, side_of}
use Rattle.audit_core.proofs.Words.{LiveWindowsAreOpened, LiveWindowsAreUnended, is_client_headers, window_at_opening}
use Rattle.audit_core.proofs.Words.{PassState, and_parts, change_of, is_last_of, nat_tests, promises, step_test}
use Rattle.audit_core.proofs.Words.{ends_window, is_opening, pass_start, state_from, stream_after, window_after}

-- what is known of the endpoint of a window: it ends only an opened stream, and while its window is live it has not
-- ended it, nor is it the client of a promised stream
record IsSending (d : Side) (stream : ℕ) (ended : Bool) (opened : Option ℕ) (window : Option ℤ) : Type 0 where
  idle : is_some opened ≡ false → ended ≡ false
  live : is_some window ≡ true →
      (is_some opened ≡ true) × (ended ≡ false) × ((is_side Client d && (stream % 2 == 0)) ≡ false)

module _ (d : Side) (stream : ℕ) (initial : Sides ℕ) (step : Step) where
  -- a window that lives on was live, and is not ended
  lives-on : (window : Option ℤ) → is_some (window_after d stream initial step window) ≡ true
      → (is_some window ≡ true) × (step_test (ends_window d) step ≡ false)
  lives-on window e = grind arith

  -- a window that begins to live is of an endpoint that still sends
  begins : is_some (window_at_opening d stream initial step) ≡ true → step_test (is_last_of d stream) step ≡ false
  begins e = grind arith

module _ (d : Side) (stream : ℕ) (frame : Frame) where
  -- an endpoint that may send on the stream and does not end its window sends its last by nothing else
  not-last : ends_window d frame ≡ false → (is_side Client d && (stream % 2 == 0)) ≡ false
      → is_last_of d stream frame ≡ false
  not-last ends never = grind arith

  -- the client sends nothing on a stream that is promised
  not-never : ((stream % 2 == 1) && is_client_headers frame || promises stream frame) ≡ true
      → is_last_of d stream frame ≡ false → (is_side Client d && (stream % 2 == 0)) ≡ false
  not-never opening last = grind (arith, nat_tests)

abbrev Sending : Side → (stream : ℕ) → Stream → Type 0
Sending d stream entry = IsSending d stream (side_of d entry.life.ended) entry.life.opened (side_of d entry.window)

-- what is left of that after a frame, which opens the stream or does not
still-sending : (opening last ended never : Bool) (number : ℕ) (opened : Option ℕ) (begun on : Option ℤ)
    → (opening ≡ true → is_some begun ≡ true → (last ≡ false) × (never ≡ false))
    → (is_some on ≡ true → (is_some opened ≡ true) × (ended ≡ false) × (never ≡ false) × (last ≡ false))
    → (opening ≡ true → ended ≡ false) → is_some (if opening then begun else on) ≡ true
    → (is_some (if opening then Some number else opened) ≡ true)
    × ((ended || ((opening || is_some opened) && last)) ≡ false) × (never ≡ false)
still-sending opening last ended never number opened begun on p q r e = grind arith

module _ (stream : ℕ) (initial : Sides ℕ) (number : ℕ) (change : Option Change) (entry : Stream) where
  abbrev at_frame : Option Frame → Step
  at_frame frame = record { number = number; frame = frame; change = change }

  sending-met : (d : Side) (frame : Frame) → Sending d stream entry → (opening : Bool)
      → is_opening stream entry.life frame ≡ opening → IsSending d stream
      (side_of d entry.life.ended || ((opening || is_some entry.life.opened) && is_last_of d stream frame))
      (if opening then Some frame.number else entry.life.opened)
      (if opening then window_at_opening d stream initial (at_frame (Some frame))
      else window_after d stream initial (at_frame (Some frame)) (side_of d entry.window))
  sending-met d frame h opening is = record {
    idle = grind (arith, h.idle);
    live = still-sending opening _ _ _ frame.number _ _ _
        (λ b e. let last = begins d stream initial (at_frame (Some frame)) e in
        (last, not-never d stream frame (and_parts _ _ (is ∙ b)).1 last))
        (λ e. let (was, goes) = lives-on d stream initial (at_frame (Some frame)) (side_of d entry.window) e in
        let (opened, unended, never) = h.live was in
        (opened, unended, never, not-last d stream frame goes never)) (λ b. h.idle (grind arith));
  }

  sending-after : (d : Side) (frame : Option Frame) → Sending d stream entry
      → Sending d stream (stream_after stream initial entry (at_frame frame))
  sending-after d None h =
      record { idle = grind (arith, h.idle); live = grind (arith, h.live, lives-on d stream initial) }
  sending-after Client (Some frame) h = sending-met Client frame h _ refl
  sending-after Server (Some frame) h = sending-met Server frame h _ refl

sending-from : (d : Side) (stream : ℕ) (state : PassState) (frames : List Frame) →
    Sending d stream (state.streams stream) → Sending d stream ((state_from state frames).streams stream)
sending-from d stream state [] h = h
sending-from d stream state (frame ∷ frames) h =
    sending-from d stream (next state frame) frames (sending-after stream state.in_force.initial frame.number
    (change_of state.in_force frame) (state.streams stream) d (if meets stream frame then Some frame else None) h)

sending-start : (d : Side) (stream : ℕ) → Sending d stream (pass_start.streams stream)
sending-start d stream = record { idle = grind arith; live = grind arith }

on_some : {A : Type 0} (o : Option A) (P : Type 0) → (is_some o ≡ true → P) → OnSome o P
on_some None P p = tt
on_some (Some x) P p = p refl

pub live_windows_are_opened_lem : LiveWindowsAreOpened
live_windows_are_opened_lem d stream frames =
    on_some _ _ (λ e. ((sending-from d stream pass_start frames (sending-start d stream)).live e).0)

pub live_windows_are_unended_lem : LiveWindowsAreUnended
live_windows_are_unended_lem d stream frames =
    on_some _ _ (λ e. ((sending-from d stream pass_start frames (sending-start d stream)).live e).1)

pub ruleset live_laws = (live_windows_are_opened_lem, live_windows_are_unended_lem)
