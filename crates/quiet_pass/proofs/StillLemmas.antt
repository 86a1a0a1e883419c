-- A change that moves no window shows nothing, not even a credit.
use Rattle.std.specs.Ordering.{int_eq}
use Rattle.audit_terms.specs.Finding.{say_of}
use Rattle.audit_terms.specs.Stream.{WindowStep, live_window_said, window_step}
use Rattle.stream_credit.proofs.QuietSteps.{change_alone, never-both, never-other, none-shown}
use Rattle.stream_credit.proofs.Words.{◌≡◌, ℕ, ℤ, Bool, true, false, [], None, Some, Option, refl, sym, ap}
use Rattle.stream_credit.proofs.Words.{◌∙◌, and_right, arith, ints, int_lt, same_Some}
use Rattle.stream_credit.proofs.Words.{Change, Client, Server, Side, Sides, Stream, credit_after_change}
use Rattle.stream_credit.proofs.Words.{credit_after_step, initial_after, is_some, is_used_up, new_initial, option_map}
use Rattle.stream_credit.proofs.Words.{overflows, shown, side_of, stream_said}
use Rattle.quiet_pass.proofs.StreamLemmas.{step-alone}
use Rattle.quiet_pass.specs.code.HeldStreams.{IsEntryMoved}

same-eq : (credit : ℤ) → int_eq credit credit ≡ true
same-eq credit = grind (arith, ints)

level : (credit : ℤ) → overflows credit credit ≡ false
level credit = let never : int_lt credit credit ≡ false = grind (arith, ints) in rw never refl

-- a live window at a step that leaves its credit as it is
abbrev still-step : ℤ → WindowStep
still-step credit =
    record { before = credit; counted = credit; overflowing = false; last = credit; after = Some credit }

still-unsaid : (d : Side) (stream number : ℕ) (change : Option Change) (credit : ℤ)
    → live_window_said d stream (change_alone number change) (still-step credit) ≡ []
still-unsaid d stream number change credit =
    rw (
      and_right (is_some change) (overflows credit credit) (level credit),
      never-both (is_used_up credit) (is_used_up credit) refl,
      never-other (is_used_up credit) (is_used_up credit) refl,
      same-eq credit,
    ) refl

still-window : (d : Side) (stream : ℕ) (initial : Sides ℕ) (number : ℕ) (change : Option Change) (credit : ℤ)
    → credit_after_step d stream initial (change_alone number change) credit ≡ credit
    → live_window_said d stream (change_alone number change)
    (window_step d stream initial (change_alone number change) credit) ≡ []
still-window d stream initial number change credit moved =
    ap (λ (counted : ℤ). live_window_said d stream (change_alone number change) (record {
      before = credit;
      counted = counted;
      overflowing = false;
      last = counted;
      after = Some counted;
    })) moved
    ∙ still-unsaid d stream number change credit

still-side : (d : Side) (stream : ℕ) (initial : Sides ℕ) (number : ℕ) (change : Option Change) (after : ℕ)
    (window next : Option ℤ) → after ≡ new_initial change d (side_of d initial)
    → next ≡ option_map (credit_after_change (side_of d initial) after) window → next ≡ window
    → say_of (λ before. live_window_said d stream (change_alone number change)
    (window_step d stream initial (change_alone number change) before)) window ≡ []
still-side d stream initial number change after None next a e same = refl
still-side d stream initial number change after (Some credit) next a e same =
    let to : credit_after_change (side_of d initial) after credit ≡ credit = same_Some _ _ (sym e ∙ same) in
    still-window d stream initial number change credit (rw (← a) (omega (arith, ints, to)))

-- where credits are shown or are not, a change that shows nothing else, and moves no window where they are, shows
-- nothing
pub unshown-change : (frames_shown : Bool) (s : ℕ) (initial after : Sides ℕ) (number : ℕ) (change : Option Change)
    (entry next : Stream) → IsEntryMoved initial after entry next → after ≡ initial_after change initial
    → (frames_shown ≡ true → next.window.client ≡ entry.window.client)
    → (frames_shown ≡ true → next.window.server ≡ entry.window.server)
    → shown frames_shown (stream_said s initial entry (change_alone number change)) ≡ []
unshown-change false s initial after number change entry next m is client server =
    none-shown _ (step-alone s initial after number change entry next m is).said
unshown-change true s initial after number change entry next m is client server =
    rw (
      still-side Client s initial number change after.client entry.window.client next.window.client
          (ap (λ (now : Sides ℕ). now.client) is) m.client (client refl),
      still-side Server s initial number change after.server entry.window.server next.window.server
          (ap (λ (now : Sides ℕ). now.server) is) m.server (server refl),
    ) refl
