use Rattle.std.proofs.Common.{◌≡◌, ℕ, Some, subst, arith, rules}
use Rattle.std.{proofs.lemmas.List.Sorted.answers_always, proofs.lemmas.Grind.common_steps}
use Rattle.audit_terms.specs.code.StreamRows.{IsRowWith}
use Rattle.audit_terms.proofs.KeySearch.{key_found, key_missed}
use Rattle.audit_terms.proofs.stream_rows.search.Goals as goal

same_at : (a b : ℕ) → Some a ≡ Some b → a ≡ b
same_at a b e = grind (arith, common_steps)

-- the closure gives a row's stream
pub returns-in-Ok-clause-found : goal.returns-in-Ok-clause-found
returns-in-Ok-clause-found g c x same =
    subst (IsRowWith g.R.OfStream.stream_of c.args.rows.now c.args.stream) (same_at _ _ same)
    (key_found g.R.OfStream.stream_of c.args.rows.now c.args.stream c.in-Ok.at c.in-Ok.ensures.bound
    (c.in-Ok.ensures.position g.R.OfStream.stream_of (answers_always _ _ _ (λ f a r g called. search rules))))

pub returns-in-Err-clause-missed : goal.returns-in-Err-clause-missed
returns-in-Err-clause-missed g c =
    key_missed g.R.OfStream.stream_of c.args.rows.now c.args.stream c.in-Err.field-0
    (c.in-Err.ensures.position g.R.OfStream.stream_of (answers_always _ _ _ (λ f a r g called. search rules)))
