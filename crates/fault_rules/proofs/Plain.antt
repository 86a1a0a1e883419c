-- What frames show that do nothing but move credit, and what stands after them.
use Rattle.std.proofs.Common.{◌≡◌, ℕ, Bool, true, false, ◌&&◌, ◌||◌, Some, refl}
use Rattle.audit_terms.specs.declared.sides.Side.TheVariants.{Client, Server}
use Rattle.std.specs.Bool.{OnTrue}
use Rattle.audit_terms.specs.declared.frames.Frame.{Frame}
use Rattle.audit_terms.specs.declared.items.Step.{Step}
use Rattle.audit_terms.specs.declared.stream_state.Stream.{Stream}
use Rattle.fault_rules.specs.code.Plain.{IsPlainStep, MovesAlone}

and-false : (b : Bool) → (b && false) ≡ false
and-false true = refl
and-false false = refl

or-false : (b : Bool) → (b || false) ≡ b
or-false true = refl
or-false false = refl

plain-step : (stream : ℕ) (entry : Stream) (step : Step) (frame : Frame) → step.frame ≡ Some frame
    → MovesAlone entry.life frame → IsPlainStep stream entry step
plain-step stream entry step frame is moves = record {
  opens = rw (is, moves.opens stream) refl;
  life = rw (
    is,
    moves.opens stream,
    moves.end Client stream,
    moves.end Server stream,
    moves.some,
    or-false entry.life.ended.client,
    or-false entry.life.ended.server,
  ) refl;
  said = rw (is, moves.opened stream, moves.unended, moves.grant) refl;
}

pub plain_on : (entry : Stream) (step : Step) (frame : Frame) (b : Bool) → step.frame ≡ Some frame
    → OnTrue b (MovesAlone entry.life frame) → OnTrue b ((stream : ℕ) → IsPlainStep stream entry step)
plain_on entry step frame true is moves = λ stream. plain-step stream entry step frame is moves
plain_on entry step frame false is moves = tt
