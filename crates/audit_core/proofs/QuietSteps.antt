-- A step without a frame and without a new initial window shows and changes nothing.
use Rattle.std.proofs.Common.{◌≡◌, ℕ, ℤ, [], ap, arith, Option, None}
use Rattle.audit_core.proofs.Words.{ints, Side, Client, Server, Sides, Change, Step, Stream, say_of, side_of}
use Rattle.audit_core.proofs.Words.{new_initial, window_step, live_window_said, window_after}
use Rattle.audit_core.proofs.Words.{stream_said, stream_after, credit_after_step, initial_after}

-- a step of a change alone, or of nothing
abbrev pub bare_step : ℕ → Option Change → Step
bare_step number change = record { number = number; frame = None; change = change }

module _ (stream : ℕ) (initial : Sides ℕ) (number : ℕ) (change : Option Change) (entry : Stream)
    (unmoved : initial_after change initial ≡ initial) where
  -- one window, whose initial window stays
  still : (d : Side) → new_initial change d (side_of d initial) ≡ side_of d initial
  still Client = ap (λ (both : Sides ℕ). both.client) unmoved
  still Server = ap (λ (both : Sides ℕ). both.server) unmoved

  counted-quiet : (d : Side) (before : ℤ) → credit_after_step d stream initial (bare_step number change) before ≡ before
  counted-quiet d before = omega (arith, ints, still d)

  window_said-quiet : (d : Side) (window : Option ℤ) →
      say_of (λ before. live_window_said d stream (bare_step number change)
      (window_step d stream initial (bare_step number change) before)) window ≡ []
  window_said-quiet d window = grind (arith, ints, counted-quiet d)

  window_after-quiet : (d : Side) (window : Option ℤ)
      → window_after d stream initial (bare_step number change) window ≡ window
  window_after-quiet d window = grind (arith, ints, counted-quiet d)

  -- the stream
  pub stream_said-quiet : stream_said stream initial entry (bare_step number change) ≡ []
  stream_said-quiet =
      grind (arith, window_said-quiet Client entry.window.client, window_said-quiet Server entry.window.server)

  pub stream_after-quiet : stream_after stream initial entry (bare_step number change) ≡ entry
  stream_after-quiet = grind (arith, window_after-quiet)
