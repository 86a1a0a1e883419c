use Rattle.stream_credit.proofs.Words.{ap, OnTrue_at}
use Rattle.std.proofs.lemmas.Bool.{OnFalse_at}
use Rattle.quiet_pass.proofs.FoundLemmas.{orderly-range, quiet-more, said-after, stays}
use Rattle.quiet_pass.proofs.RoomLemmas.{found-room}
use Rattle.quiet_pass.specs.declared.found_passes.FoundPass.{FoundPass}
use Rattle.quiet_pass.proofs.found_passes.FoundPass.meet.Goals as goal

pub meet_settings-requires-clause-range : goal.meet_settings-requires-clause-range
meet_settings-requires-clause-range c = orderly-range 0 c.requires.0 c.args.frame.now c.requires.2

pub meet_settings-requires-clause-room : goal.meet_settings-requires-clause-room
meet_settings-requires-clause-room c = found-room c.args.frame.now c.requires.1 c.if-self.false c.requires.2

pub step-requires-clause-range : goal.step-requires-clause-range
step-requires-clause-range c = orderly-range 0 c.requires.0 c.args.frame.now c.requires.2

pub say-requires-clause-range : goal.say-requires-clause-range
say-requires-clause-range c = orderly-range 0 c.requires.0 c.args.frame.now c.requires.2

pub say-requires-clause-room : goal.say-requires-clause-room
say-requires-clause-room c =
    rw (OnFalse_at c.if-is_quiet.false c.in_ok-is_quiet.ensures.left)
    (found-room c.args.frame.now c.requires.1 c.if-self.false c.requires.2)

pub returns-then-self-clause-after : goal.returns-then-self-clause-after
returns-then-self-clause-after c = λ frames h orderly. stays c.args.frame.now c.if-self.true h orderly

pub returns-then-is_quiet-clause-after : goal.returns-then-is_quiet-clause-after
returns-then-is_quiet-clause-after c = λ frames h orderly.
    let met = c.in_ok-is_quiet.ensures in
    quiet-more c.args.frame.now h c.if-self.false c.moves_little.ensures orderly
    (OnTrue_at c.if-is_quiet.true met.quiet _ (h.goes_on c.if-self.false).1)
    (ap (λ (one : FoundPass). one.found) met.rest) (ap (λ (one : FoundPass). one.has_stopped) met.rest)
    (OnTrue_at c.if-is_quiet.true met.hidden)
    (ap (λ (one : FoundPass). one.frames_shown) met.rest)

pub returns-clause-after : goal.returns-clause-after
returns-clause-after c =
    let met = c.in_ok-is_quiet.ensures in
    said-after c.args.frame.now c.args.self.now _ _ c.if-self.false c.moves_little.ensures
    (OnFalse_at c.if-is_quiet.false met.left) c.in_ok-say.ensures (ap (λ (one : FoundPass). one.found) met.rest)
    (ap (λ (one : FoundPass). one.frames_shown) met.rest)
