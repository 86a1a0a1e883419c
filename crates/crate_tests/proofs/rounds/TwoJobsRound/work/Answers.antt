use Rattle.std.proofs.Common.{[], ◌∷◌, refl}
use Rattle.crate_tests.proofs.rounds.TwoJobsRound.work.Goals as goal

pub returns-clause-looks : goal.returns-clause-looks
returns-clause-looks g c = record {
  asked = record { handed = []; answer = c.look-made.result } ∷ [];
  looked = (c.look-made.new.self, c.look-made.ensures, refl);
  in_time = tt;
  answered = λ place is. cc;
}
