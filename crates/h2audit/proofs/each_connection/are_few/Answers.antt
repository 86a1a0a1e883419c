use Rattle.std.proofs.Common.{List, ap, arith, drop, false, get_or, length, refl, rules, sym, take, true, ℕ, ◌+◌, ◌++◌}
use Rattle.std.proofs.Common.{◌<◌, ◌∙◌, ◌∷◌, ◌≡◌, ◌≤◌}
use Rattle.std.specs.List.{flat_map}
use Rattle.std.proofs.lemmas.{Grind.flat_map-append, List.take-append-drop, List.drop_more, List.length-append}
use Rattle.h2audit.proofs.each_connection.are_few.Goals as goal

-- as many as the lists before one have, and as it has, there are in all
up_to_one : {X Y : Type 0} (f : X → List Y) (xs : List X) (i : ℕ) (x : X) → i < length xs → x ≡ get_or xs i x
    → length (flat_map f (take i xs)) + length (f x) ≤ length (flat_map f xs)
up_to_one f xs i x lt at =
    let rest = drop (i + 1) xs in
    let next : drop i xs ≡ x ∷ rest = rw (drop_more xs i x lt, ← at) refl in
    let whole : flat_map f xs ≡ flat_map f (take i xs) ++ (f x ++ flat_map f rest) =
    ap (flat_map f) (sym (take-append-drop i xs)) ∙ flat_map-append f (take i xs) (drop i xs)
    ∙ ap (λ l. flat_map f (take i xs) ++ flat_map f l) next in
    let long = ap length whole ∙ length-append (flat_map f (take i xs)) (f x ++ flat_map f rest) in
    omega (arith, long, length-append (f x) (flat_map f rest))

pub returns-in_default : goal.returns-in_default
returns-in_default c =
    let list = c.list-item.result in
    let fits = up_to_one (λ list. list.items) c.args.lists.now c.loop-list.list-index list (search rules)
    c.list-item.is in
    let before = c.loop-list.invariant in (
      λ e. let bad : false ≡ true = e in cc,
      λ few. absurd (c.in_default.ensures (omega (arith, before, fits, few, c.len.ensures, list.ok.0))),
    )
