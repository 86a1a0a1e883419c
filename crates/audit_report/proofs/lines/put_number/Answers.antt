use Rattle.std.proofs.Common.{arith, rules}
use Rattle.std.proofs.lemmas.Fmt.{length-decimal-le}
use Rattle.audit_report.proofs.lines.put_number.Goals as goal

pub write_digits-requires : goal.write_digits-requires
write_digits-requires c =
    let long = length-decimal-le 20 c.args.n (omega arith) (omega arith) c.ranges.n.fits in
    (omega (arith, long), search rules)

pub returns-clause-begins : goal.returns-clause-begins
returns-clause-begins c =
    let long = length-decimal-le 20 c.args.n (omega arith) (omega arith) c.ranges.n.fits in
    omega (arith, long)
