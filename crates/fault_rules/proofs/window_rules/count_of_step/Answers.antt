use Rattle.fault_rules.proofs.Terms.{◌≡◌, ℕ, true, Option, Some, None, refl, ◌⊎◌, inl, inr, arith, ints, Side, Frame}
use Rattle.std.specs.Option.{ForSome, option_map_or}
use Rattle.audit_terms.specs.declared.items.Change.{Change}
use Rattle.audit_terms.specs.declared.items.Step.{Step}
use Rattle.audit_terms.specs.Frame.{is_ack, content_by, grant_to}
use Rattle.audit_terms.specs.Change.{new_initial}
use Rattle.audit_terms.specs.code.runs.Streams.{IsAcknowledged}
use Rattle.fault_rules.proofs.window_rules.count_of_step.Goals as goal

-- what the step's frame grants and carries
abbrev MovesNothing : Side → (stream : ℕ) → Option Frame → Type 0
MovesNothing d stream frame =
    (option_map_or (grant_to d stream) frame 0 ≡ 0) × (option_map_or (content_by d) frame 0 ≡ 0)

ack-moves_nothing : (d : Side) (stream : ℕ) (frame : Option Frame) → ForSome frame (λ one. is_ack one.body ≡ true)
    → MovesNothing d stream frame
ack-moves_nothing d stream None e = (refl, refl)
ack-moves_nothing d stream (Some frame) e = let ack = e frame refl in (grind arith, grind arith)

-- a step moves a window by its frame or by its change, never by both
one-moves : (d : Side) (stream old : ℕ) (step : Step) → IsAcknowledged step
    → (new_initial step.change d old ≡ old) ⊎ MovesNothing d stream step.frame
one-moves d stream old step e = by_change step.change e where
  by_change : (change : Option Change) → ForSome change (λ _. ForSome step.frame (λ one. is_ack one.body ≡ true))
      → (new_initial change d old ≡ old) ⊎ MovesNothing d stream step.frame
  by_change None e = inl refl
  by_change (Some change) e = inr (ack-moves_nothing d stream step.frame (e change refl))

pub returns-clause-room : goal.returns-clause-room
returns-clause-room c = λ bound room.
    let one = one-moves c.args.met.now.side c.args.met.now.stream c.of-old.result c.args.met.now.step.now
    c.requires.acknowledged in
    (omega (arith, ints, c.step_difference.ensures, room.0), omega (arith, ints, c.step_difference.ensures, room.1))

pub overflow_add-result : goal.overflow_add-result
overflow_add-result c = omega (arith, ints, c.step_difference.ensures)

pub returns-clause-after : goal.returns-clause-after
returns-clause-after c =
    let new = rw c.of-old.ensures at c.new_initial-new.ensures in omega (arith, ints, c.step_difference.ensures)
