-- Entries from a cursor on, and a step over some of them.
use Rattle.std.proofs.Common.{◌≡◌, ℕ, Bool, zero, suc, ◌+◌, ◌-◌, ◌≤◌, List, [], ◌∷◌, ◌++◌, drop, length, take}
use Rattle.std.proofs.Common.{ap, sym, arith, ◌∙◌, append_assoc, length-drop}
use Rattle.std.proofs.lemmas.List.{drop_all, drop-append-le, drop-drop, length-take-le, take-append-drop, take_all}
use Rattle.std.proofs.lemmas.List.Folds.{concat-append}
use Rattle.std.specs.List.{concat}
use Rattle.report_pages.specs.code.Entries.{Entries, IsPiece, entries_in, entries_of, entries_of_piece}
use Rattle.report_pages.specs.declared.stretches.Piece.{Piece}

-- the entries from one of the first stretch on are the rest of it, and those behind it
pub from-first : (all : List Entries) (e : Entries) (at : ℕ) → all ≡ e ∷ drop 1 all → at ≤ length e
    → drop at (entries_in all) ≡ drop at e ++ entries_in (drop 1 all)
from-first all e at is low =
    ap (λ (l : List Entries). drop at (entries_in l)) is ∙ drop-append-le at e (entries_in (drop 1 all)) low

-- what stands behind a front
pub drop-past : (front rest : Entries) (n k : ℕ) → length front ≡ k → k ≤ n
    → drop n (front ++ rest) ≡ drop (n - k) rest
drop-past front rest n k size low =
    let sum : n ≡ k + (n - k) = omega arith in
    ap (λ m. drop m (front ++ rest)) sum
    ∙ sym (drop-drop (n - k) k (front ++ rest))
    ∙ ap (drop (n - k)) (drop-append-le k front rest (omega arith)
    ∙ ap (λ l. l ++ rest) (drop_all k front (omega arith)))

take-past : (front rest : Entries) (n k : ℕ) → length front ≡ k → k ≤ n
    → take n (front ++ rest) ≡ front ++ take (n - k) rest
take-past [] rest n k size low = let same : n ≡ n - k = omega (arith, size) in ap (λ m. take m rest) same
take-past (x ∷ front) rest zero k size low = absurd (omega (arith, size))
take-past (x ∷ front) rest (suc n) zero size low = absurd (omega (arith, size))
take-past (x ∷ front) rest (suc n) (suc k) size low =
    let less : n - k ≡ suc n - suc k = omega arith in
    ap (λ l. x ∷ l) (take-past front rest n k (omega (arith, size)) (omega arith))
    ∙ ap (λ m. x ∷ (front ++ take m rest)) less

-- a step within a stretch
pub step-within : (all : List Entries) (e : Entries) (at to : ℕ) → all ≡ e ∷ drop 1 all → at ≤ to → to ≤ length e
    → drop at (entries_in all) ≡ take (to - at) (drop at e) ++ drop to (entries_in all)
step-within all e at to is rises low =
    let rest : Entries = entries_in (drop 1 all) in
    let sum : at + (to - at) ≡ to = omega arith in
    let there : drop (to - at) (drop at e) ≡ drop to e = drop-drop (to - at) at e ∙ ap (λ n. drop n e) sum in
    from-first all e at is (omega arith)
    ∙ ap (λ l. l ++ rest) (sym (take-append-drop (to - at) (drop at e))
    ∙ ap (λ l. take (to - at) (drop at e) ++ l) there)
    ∙ append_assoc (take (to - at) (drop at e)) (drop to e) rest
    ∙ ap (λ l. take (to - at) (drop at e) ++ l) (sym (from-first all e to is low))

-- a step to the end of a stretch
pub step-past : (all next : List Entries) (e : Entries) (at first : ℕ) → all ≡ e ∷ drop 1 all → at ≤ length e
    → next ≡ drop 1 all → first ≡ 0
    → drop at (entries_in all) ≡ take (length e - at) (drop at e) ++ drop first (entries_in next)
step-past all next e at first is low behind none =
    let rest : Entries = entries_in (drop 1 all) in
    let whole : take (length e - at) (drop at e) ≡ drop at e =
    take_all (length e - at) (drop at e) (omega (arith, length-drop at e)) in
    from-first all e at is low
    ∙ ap (λ l. l ++ rest) (sym whole)
    ∙ ap (λ (l : List Entries). take (length e - at) (drop at e) ++ entries_in l) (sym behind)
    ∙ ap (λ n. take (length e - at) (drop at e) ++ drop n (entries_in next)) (sym none)

-- so many entries fewer are left after a step
pub skip-more : (before piece after first : Entries) (left count : ℕ) → before ≡ piece ++ after
    → length piece ≡ count → count ≤ left → drop left before ≡ first → drop (left - count) after ≡ first
skip-more before piece after first left count is size few so_far =
    let none : drop left piece ≡ [] = drop_all left piece (omega (arith, size)) in
    let there : drop left (piece ++ after) ≡ drop (left - count) after = drop-past piece after left count size few in
    sym there ∙ ap (drop left) (sym is) ∙ so_far

-- and these many stand on a page
pub fill-more : (before piece after : Entries) (left count : ℕ) → before ≡ piece ++ after
    → length piece ≡ count → count ≤ left
    → concat (take left before) ≡ concat piece ++ concat (take (left - count) after)
fill-more before piece after left count is size few =
    ap (λ l. concat (take left l)) is
    ∙ ap concat (take-past piece after left count size few)
    ∙ concat-append piece (take (left - count) after)

-- how many entries a piece has
pub length-piece : (shown : Bool) (piece : Piece) → IsPiece shown piece
    → length (entries_of_piece shown piece) ≡ piece.to - piece.from
length-piece shown piece is =
    let entries : Entries = entries_of shown piece.stretch in
    let rises = is.rises in
    let within = is.within in
    length-take-le (piece.to - piece.from) (drop piece.from entries) (omega (arith, length-drop piece.from entries))
