use Rattle.audit_rounds.proofs.Words.{arith, sum_by_more}
use Rattle.audit_rounds.proofs.Batches.{lent, lent-short}
use Rattle.audit_rounds.proofs.batch.next_batch.Goals as goal

pub overflow_add-total : goal.overflow_add-total
overflow_add-total c =
    let short = lent-short c.args.connections.now c.requires.frames c.loop-count.count
    c.index-connections-count.result (omega arith) in
    omega arith

pub loop-count-init : goal.loop-count-init
loop-count-init c =
    let all = c.args.connections.now in
    let one = c.index-connections-0.result in
    let more = sum_by_more lent all 0 one c.requires.some in
    let short = lent-short all c.requires.frames 0 one c.requires.some in
    record { some = omega arith; within = omega arith; is = omega arith; few = omega arith }
