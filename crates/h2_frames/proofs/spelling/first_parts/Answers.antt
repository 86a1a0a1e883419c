use Rattle.std.proofs.Common.{◌≡◌, ℕ, List, ◌++◌, take, drop, length, arith, ap, sym, ◌∙◌, append_assoc}
use Rattle.std.proofs.lemmas.List.{length-take-le}
use Rattle.h2_frames.proofs.Words.{take-append-drop}
use Rattle.h2_frames.proofs.spelling.first_parts.Goals as goal

-- two cuts leave three parts
three_parts : (i j : ℕ) (bytes first rest second later : List ℕ) → first ≡ take i bytes → rest ≡ drop i bytes
    → second ≡ take j rest → later ≡ drop j rest → bytes ≡ first ++ second ++ later
three_parts i j bytes first rest second later a b c d =
    let front : first ++ rest ≡ bytes = rw (a, b) (take-append-drop i bytes) in
    let back : second ++ later ≡ rest = rw (c, d) (take-append-drop j rest) in
    sym (append_assoc first second later ∙ ap (λ (x : List ℕ). first ++ x) back ∙ front)

pub returns-clause-found : goal.returns-clause-found
returns-clause-found c =
    let first = c.in_ok-start.ensures.cases in
    let second = c.in_ok-payload.ensures.cases in (
      c.in_ok-start.start.now,
      three_parts 9 c.read-header.result.length c.args.bytes.now _ c.in_ok-start.rest.now _ _ first.0 first.1 second.1
          second.2,
      λ body is. record {
        nine = ap length first.0 ∙ length-take-le 9 c.args.bytes.now (omega (arith, first.2));
        whole = second.3;
        header_is = c.read-header.ensures.exact;
        body_is = is;
      },
    )
