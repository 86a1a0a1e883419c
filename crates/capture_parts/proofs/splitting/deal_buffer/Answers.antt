use Rattle.capture_parts.proofs.Terms.{arith, length-take-le}
use Rattle.std.proofs.lemmas.Grind.{common_steps}
use Rattle.capture_parts.proofs.Buffer.{moved_to_front}
use Rattle.capture_parts.proofs.splitting.deal_buffer.Goals as goal

pub returns-clause-moved : goal.returns-clause-moved
returns-clause-moved g c =
    (moved_to_front _ _ _ _ c.in_ok-dealt.ensures.within c.requires c.copy_within.ensures.after).2

pub returns-clause-rest : goal.returns-clause-rest
returns-clause-rest g c = λ some.
    let within = c.requires in
    let moved = moved_to_front _ _ _ _ c.in_ok-dealt.ensures.within within c.copy_within.ensures.after in
    let rest = c.in_ok-dealt.ensures.rest (omega (arith, some, length-take-le _ _ within)) in
    (rest.0, rw (← moved.1) rest.1)

pub returns-clause-dealt : goal.returns-clause-dealt
returns-clause-dealt g c =
    let moved = moved_to_front _ _ _ _ c.in_ok-dealt.ensures.within c.requires c.copy_within.ensures.after in
    rw (← moved.0) c.in_ok-dealt.ensures.dealt

pub returns-clause-left : goal.returns-clause-left
returns-clause-left g c = (omega (arith, length-take-le _ _ c.requires, c.in_ok-dealt.ensures.few), omega arith)

pub overflow_sub-result : goal.overflow_sub-result
overflow_sub-result g c = grind (arith, common_steps)

pub copy_within-requires-clause-start_le_end : goal.copy_within-requires-clause-start_le_end
copy_within-requires-clause-start_le_end g c = grind (arith, common_steps)

pub slice_bounds-deal-end-2 : goal.slice_bounds-deal-end-2
slice_bounds-deal-end-2 g c = grind (arith, common_steps)
