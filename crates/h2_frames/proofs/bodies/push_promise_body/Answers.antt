use Rattle.audit_terms.specs.declared.frames.Body.TheVariants.{PushPromise}
use Rattle.h2_frames.specs.{Body.is_padded, Body.padded_body, Header.number_of_31_bits}
use Rattle.std.proofs.Common.{ap, arith, drop, if◌then◌else◌, length-drop, rules, sym, ℕ, ◌++◌, ◌∙◌, ◌≡◌}
use Rattle.std.proofs.lemmas.List.{drop-append-le, take_rest}
use Rattle.h2_frames.proofs.Fronts.{number-append}
use Rattle.h2_frames.proofs.bodies.push_promise_body.Goals as goal

pub returns : goal.returns
returns c = λ later fits.
    let flags = c.args.flags in
    let front = c.args.front.now in
    let skipped = c.from-padding.result in
    let padding : skipped ≡ (if is_padded flags then 1 else 0) =
    search rules in
    let first : number_of_31_bits (drop skipped front) ≡ number_of_31_bits (drop skipped (front ++ later)) =
    sym (ap number_of_31_bits (drop-append-le skipped front later (omega arith))
    ∙ number-append (drop skipped front) later (omega (arith, length-drop skipped front))) in
    c.padded_body.ensures later fits
    ∙ ap (λ (n : ℕ). padded_body flags (front ++ later) 4 (PushPromise n)) (c.of.ensures
    ∙ c.number_of_31_bits-promised.ensures.exact ∙ ap number_of_31_bits (take_rest front skipped) ∙ first
    ∙ ap (λ (n : ℕ). number_of_31_bits (drop n (front ++ later))) padding)
