-- The streams seen, and those still to come.
use Rattle.std.proofs.Common.{List, [], ap, append_assoc, arith, filter, not, refl, true, ℕ, ◌++◌, ◌==◌, ◌||◌, ◌∷◌, ◌≡◌}
use Rattle.std.proofs.lemmas.Bool.Decides.{nat_tests}
use Rattle.audit_terms.specs.Pass.{first_of}
use Rattle.audit_terms.specs.code.SeenStreams.{is_among, with_stream, without}

among-push : (one stream : ℕ) (seen : List ℕ)
    → is_among one (seen ++ stream ∷ []) ≡ (is_among one seen || (one == stream))
among-push one stream [] = grind arith
among-push one stream (x ∷ seen) = grind (arith, among-push one stream seen)

without-seen : (stream : ℕ) (seen later : List ℕ) → is_among stream seen ≡ true
    → without seen (filter (λ other. not (other == stream)) later) ≡ without seen later
without-seen stream seen [] h = refl
without-seen stream seen (x ∷ later) h = grind (arith, nat_tests, without-seen stream seen later h)

without-new : (stream : ℕ) (seen later : List ℕ)
    → without seen (filter (λ other. not (other == stream)) later) ≡ without (seen ++ stream ∷ []) later
without-new stream seen [] = refl
without-new stream seen (x ∷ later) = grind (arith, nat_tests, among-push x stream seen, without-new stream seen later)

-- the streams seen and those still to come stay the same
pub named-more : (stream : ℕ) (seen later : List ℕ)
    → with_stream stream seen ++ without (with_stream stream seen) later ≡ seen ++ without seen (first_of stream later)
named-more stream seen later = grind (arith, nat_tests, append_assoc, without-seen, without-new)

pub without-none : (streams : List ℕ) → without [] streams ≡ streams
without-none [] = refl
without-none (x ∷ streams) = ap (λ l. x ∷ l) (without-none streams)
