use Rattle.stop_desk.proofs.Words.{mul_comm, ℕ, ◌*◌, ◌+◌, ◌-◌, ◌≡◌}
use Rattle.std.proofs.Math.Nat.{mul-sub}
use Rattle.stop_desk.proofs.crews.split_pass.Goals as goal

less-each : (workers given each : ℕ) → workers * each - given * each ≡ (workers - given) * each
less-each workers given each =
    rw (mul_comm (workers - given) each, mul_comm workers each, mul_comm given each, mul-sub each workers given)

pub returns-clause-kept : goal.returns-clause-kept
returns-clause-kept c =
    let kept = rw (c.requires.fresh, c.from.ensures, c.from-2.ensures, c.jobs.ensures) at c.split.ensures.kept in
    rw (kept, less-each c.args.workers c.args.given (c.args.desk.now.jobs + 1))
