use Rattle.audit_rounds.proofs.Words.{◌≡◌, ◌<◌, length, map, sym, subst, arith, length-map, get_or_from_slice_get}
use Rattle.audit_rounds.proofs.Words.{Frame, Job, IsCut, RunLooks, ReadyBlock, block_job}
use Rattle.audit_rounds.proofs.Jobs.{job-is, block-cut-is, run-heeds}
use Rattle.audit_rounds.proofs.block_round.BlockRoundRound.work.Goals as goal

pub returns-clause-cut : goal.returns-clause-cut
returns-clause-cut g c = λ one is.
    let round = c.args.self.now in
    let run = c.in_ok-run.run' in
    let number : length (map (block_job round.frames_shown) round.plan.now) ≡ length round.plan.now =
    length-map round.plan.now (block_job round.frames_shown) in
    let within : c.args.job < length round.plan.now = omega arith in
    subst (λ (job : Job). IsCut job.findings run.upto run.findings.items)
    (sym (job-is (block_job round.frames_shown) round.plan.now c.args.job one _ is))
    (block-cut-is round.frames_shown _ _ run.upto run.findings.items (round.ready c.args.job _ within).is_block
    c.in_ok-run.ensures.run.found)

pub returns-clause-looks : goal.returns-clause-looks
returns-clause-looks g c =
    let round = c.args.self.now in
    let heeds = run-heeds _ _ _ _ _ _ _ _ _ c.in_ok-run.ensures.run in
    record {
      asked = heeds.asked;
      looked = heeds.looked;
      in_time = λ one is.
          subst (λ (ready : ReadyBlock). RunLooks (map (λ (frame : Frame). frame.number) ready.block.frames.now)
          (block_job round.frames_shown ready).findings heeds.asked c.in_ok-run.run'.upto)
          (get_or_from_slice_get round.plan.now c.args.job one _ is) heeds.in_time;
      answered = heeds.answered;
    }
