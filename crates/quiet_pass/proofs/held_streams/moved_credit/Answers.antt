use Rattle.std.proofs.Common.{w64}
use Rattle.std.proofs.lemmas.Int.{ints, to_z-of_z}
use Rattle.stream_credit.proofs.Words.{◌≡◌, arith, credit_after_change, same_Some, subst}
use Rattle.quiet_pass.proofs.held_streams.moved_credit.Goals as goal

pub returns : goal.returns
returns c = λ x e.
    let is = same_Some _ _ e in
    let moved = subst
    (λ credit. c.moved_by-moved.result ≡ credit_after_change c.args.before c.args.after credit)
    (to_z-of_z w64 c.args.credit c.ranges.credit) c.moved_by-moved.ensures in
    record {
      same = grind (arith, ints, to_z-of_z, is, moved);
      level = grind (arith, ints, to_z-of_z, is);
      fits = grind (arith, ints, to_z-of_z, is);
    }
