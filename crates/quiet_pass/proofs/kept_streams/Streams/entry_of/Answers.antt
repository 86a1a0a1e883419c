use Rattle.stream_credit.proofs.Words.{Option, Sides, ap, sym, ◌∙◌, ℕ}
use Rattle.quiet_pass.specs.code.Shifts.{raised_in}
use Rattle.quiet_pass.specs.code.Streams.{shift_of}
use Rattle.quiet_pass.proofs.kept_streams.Streams.entry_of.Goals as goal

pub returns-clause-same : goal.returns-clause-same
returns-clause-same c = λ above streams h.
    h.raised c.args.stream above
    ∙ ap (raised_in (shift_of c.args.self.now)) (c.held_of.ensures.same above h.base h.rows)
    ∙ ap (λ (shift : Option (Sides ℕ)). raised_in shift c.held_of.result) (sym c.shift.ensures)
    ∙ sym c.raised_in.ensures.same
