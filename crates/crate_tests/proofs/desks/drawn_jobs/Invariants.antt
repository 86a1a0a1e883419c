use Rattle.std.proofs.Common.{◌≡◌}
use Rattle.stop_desk.specs.code.Desk.{pass_draws}
use Rattle.crate_tests.proofs.desks.drawn_jobs.Given as goal

abbrev pub invariant-loop : goal.invariant-loop
invariant-loop l = record {
  desk : l.pass.desk ≡ l.fn.pass.desk;
  draws : pass_draws l.pass ≡ pass_draws l.fn.pass;
}
