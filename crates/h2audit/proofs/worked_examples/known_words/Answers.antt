use Rattle.std.proofs.Common.{refl, ◌≡◌, true, false, codes, rules}
use Rattle.clap.proofs.OnLiterals.{clap_on_literals}
use Rattle.h2audit.proofs.OptionReads.{found_of-choices}
use Rattle.h2audit.proofs.worked_examples.known_words.Goals as goal

pub returns : goal.returns
unfolding clap_on_literals
returns c = record {
  none = (
    refl,
    λ options is. found_of-choices _ options _ is (
      (codes "4", refl, (search rules, refl)),
      (codes "16", refl, (search rules, refl)),
      (codes "4096", refl, (search rules, refl)),
      (λ e. let bad : false ≡ true = e in cc, λ e. cc),
    ),
    refl,
  );
  all = (
    refl,
    λ options is. found_of-choices _ options _ is (
      (codes "64", refl, (search rules, refl)),
      (codes "1", refl, (search rules, refl)),
      (codes "1048576", refl, (search rules, refl)),
      (λ _. refl, λ _. refl),
    ),
    refl,
  );
  help = refl;
  version = refl;
  zero = refl;
  above = refl;
  unknown = refl;
  second_path = refl;
}
