use Rattle.audit_rounds.proofs.Words.{◌∙◌, IfOk-weaker}
use Rattle.audit_rounds.proofs.Settles.{all-shown}
use Rattle.audit_rounds.proofs.block_rounds.rounds_over_blocks.Goals as goal

pub gathered-requires : goal.gathered-requires
gathered-requires g c = rw c.as_slice.ensures.value at c.in_ok-settled.ensures.inside

pub returns : goal.returns
returns g c = IfOk-weaker c.merged_each.result _ _ (λ last is.
    is ∙ all-shown c.args.division.now.frames_shown c.args.connections.items c.requires.through
    c.in_ok-settled.settled c.in_ok-all.all.items (rw c.as_slice.ensures.value at c.in_ok-settled.ensures)
    c.in_ok-all.ensures) c.merged_each.ensures
