-- A step that leaves a window as it is shows nothing of it.
use Rattle.std.proofs.Common.{◌≡◌, ℕ, ℤ, [], arith}
use Rattle.std.proofs.lemmas.Int.{ints}
use Rattle.audit_terms.specs.Stream.{live_window_said, window_step}
use Rattle.audit_terms.specs.declared.items.Step.{Step}
use Rattle.audit_terms.specs.declared.sides.Side.{Side}
use Rattle.audit_terms.specs.declared.sides.Sides.{Sides}
use Rattle.fault_rules.specs.code.StreamSteps.{credit_after_step}
use Rattle.fault_rules.specs.code.Unmoved.{LeavesWindow}

-- a window of a stream
module _ (d : Side) (stream : ℕ) (initial : Sides ℕ) (step : Step) (before : ℤ) (leaves : LeavesWindow d stream step)
  where
    counted_stays : credit_after_step d stream initial step before ≡ before
    counted_stays = rw leaves.change (omega (arith, ints, leaves.grant, leaves.content))

    pub live_says_nothing : live_window_said d stream step (window_step d stream initial step before) ≡ []
    live_says_nothing =
        grind (arith, ints, counted_stays, leaves.change, leaves.end, leaves.grant, leaves.content)
