use Rattle.audit_rounds.proofs.Words.{refl, None, [], length-map, arith, slice_get_within, sum_job, whole_is_cut_lem}
use Rattle.audit_rounds.proofs.Jobs.{job-is}
use Rattle.audit_rounds.proofs.Lists.{some_of}
use Rattle.audit_rounds.proofs.block_round.SumRoundRound.work.Goals as goal

-- a sum finds all that its job has to find, which is nothing
pub returns-clause-cut : goal.returns-clause-cut
returns-clause-cut g c = λ one is.
    let blocks = c.args.self.now.blocks.now in
    let within = slice_get_within _ c.args.job one is in
    let long = length-map blocks sum_job in
    let first = some_of blocks c.args.job (omega arith) in
    rw (c.new.ensures.items, job-is sum_job blocks c.args.job one first is) (whole_is_cut_lem [] None refl)
