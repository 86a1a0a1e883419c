use Rattle.capture_parts.proofs.Terms.{cond-false, cond-true, eq-eqb, ne_eqb, part_at, refl, sym, ℕ, ◌==◌, ◌∙◌}
use Rattle.capture_parts.proofs.Given.{given-some}
use Rattle.capture_parts.proofs.laws.one_part.Goals as goal

pub returns : goal.returns
returns c = λ link parts taken n bytes some.
    let part : ℕ = part_at link parts n bytes in (
      given-some link parts taken part n bytes some ∙ cond-true (part == part) _ _ (eq-eqb part part refl),
      λ i other. given-some link parts taken i n bytes some
          ∙ cond-false (part == i) _ _ (ne_eqb part i (λ e. other (sym e))),
    )
