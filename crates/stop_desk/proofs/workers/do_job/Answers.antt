use Rattle.stop_desk.proofs.Words.{PassView, ap, refl, ◌∙◌}
use Rattle.stop_desk.proofs.Working.{watched, job_at, at-job, job-there, job-done}
use Rattle.stop_desk.proofs.workers.do_job.Goals as goal

pub invariant_of-look : goal.invariant_of-look
invariant_of-look g c =
    let shift = c.args.shift.now in
    let jobs = g.P.Round.jobs shift.plan.now in record {
      own = c.requires.desk;
      there =
          job-there shift.desk.now.id jobs c.args.job _ c.requires.job shift.there
          (c.connection-connection.ensures (job_at jobs c.args.job) (at-job jobs c.args.job c.requires.job));
    }

pub lower_stops-requires-clause-desk : goal.lower_stops-requires-clause-desk
lower_stops-requires-clause-desk g c =
    let looks = c.in_ok-work.ensures.looks in
    ap (λ (v : PassView). v.desk) (watched _ looks.asked _ looks.looked) ∙ c.requires.desk

pub returns : goal.returns
returns g c =
    let shift = c.args.shift.now in
    let jobs = g.P.Round.jobs shift.plan.now in
    let told = c.in_ok-work.ensures in
    let job = job_at jobs c.args.job in
    let at = at-job jobs c.args.job c.requires.job in
    rw (c.lower_stops.ensures, c.as_slice.ensures.value, watched _ told.looks.asked _ told.looks.looked)
    (job-done (g.P.Round.makes shift.plan.now) jobs shift.round _ c.requires.job c.args.pass
    (rw c.requires.desk shift.there) (c.connection-connection.ensures job at) (told.cut job at) told.made refl
    told.looks.asked told.looks.answered)
