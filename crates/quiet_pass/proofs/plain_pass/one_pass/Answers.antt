use Rattle.std.proofs.Common.{◌∙◌, [], ap}
use Rattle.audit_terms.specs.Finding.{upto_stop}
use Rattle.quiet_pass.proofs.FoundLemmas.{all-findings, all-found}
use Rattle.quiet_pass.proofs.plain_pass.one_pass.Goals as goal

pub meet_all-requires : goal.meet_all-requires
meet_all-requires c = ([], c.begin-machine.ensures.after, c.requires)

pub returns : goal.returns
returns c =
    let law = c.streams_are_those_met.ensures in
    let met = c.in_ok-meet_all.ensures in
    let after = met.after [] c.begin-machine.ensures.after c.requires in
    c.cut_at_stop.ensures
    ∙ ap upto_stop (rw c.as_slice.ensures.value at c.in_ok-found.ensures)
    ∙ rw (met.same ∙ c.begin-machine.ensures.shown) at (all-found law.met law.once after)
    ∙ all-findings _
