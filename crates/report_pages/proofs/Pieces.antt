-- Pieces of stretches, added to a page.
use Rattle.std.proofs.Common.{◌≡◌, ℕ, ◌-◌, ◌≤◌, List, [], ◌∷◌, ◌++◌, Vec, drop, length, map, take}
use Rattle.std.proofs.Common.{refl, ap, sym, subst, arith, ◌∙◌, append-nil, length-drop}
use Rattle.std.proofs.lemmas.List.{drop-map, length-take-le, take-map}
use Rattle.std.specs.{Global.Global, List.concat, List.flat_map}
use Rattle.audit_report.specs.code.Pages.{Adds}

adds-all : (text : List ℕ) (from to : ℕ) (before after : Vec ℕ Global) → from ≡ 0 → to ≡ 1 → Adds 1 text before after
    → Adds (to - from) (concat (take (to - from) (drop from (text ∷ [])))) before after
adds-all text from to before after none one adds =
    subst (λ t. Adds (t - from) (concat (take (t - from) (drop from (text ∷ [])))) before after) (sym one)
    (subst (λ f. Adds (1 - f) (concat (take (1 - f) (drop f (text ∷ [])))) before after) (sym none)
    (rw (append-nil text) adds))

-- one entry, of which a piece is not empty
pub adds-only : (text : List ℕ) (from to : ℕ) (before after : Vec ℕ Global) → (from ≤ to) × (to ≤ 1)
    → ((from ≡ to) → ⊥) → Adds 1 text before after
    → Adds (to - from) (concat (take (to - from) (drop from (text ∷ [])))) before after
adds-only text from to before after within some adds =
    adds-all text from to before after (grind (arith, within, some)) (grind (arith, within, some)) adds

-- the entries that a map gives, joined
pub joined-map : {X : Type 0} (f : X → List ℕ) (xs : List X) → concat (map f xs) ≡ flat_map f xs
joined-map f [] = refl
joined-map f (x ∷ xs) = ap (λ l. f x ++ l) (joined-map f xs)

-- a slice of what a map gives
pub joined-slice : {X : Type 0} (f : X → List ℕ) (from count : ℕ) (xs : List X)
    → concat (take count (drop from (map f xs))) ≡ flat_map f (take count (drop from xs))
joined-slice f from count xs =
    ap (λ l. concat (take count l)) (drop-map f from xs) ∙ ap concat (take-map f count (drop from xs))
    ∙ joined-map f (take count (drop from xs))

-- a slice of lines that a map gives
pub adds-slice : {X : Type 0} (f : X → List ℕ) (from to : ℕ) (xs slice : List X) (text : List ℕ)
    (before after : Vec ℕ Global) → slice ≡ take (to - from) (drop from xs) → from ≤ to → to ≤ length xs
    → text ≡ flat_map f slice → Adds (length slice) text before after
    → Adds (to - from) (concat (take (to - from) (drop from (map f xs)))) before after
adds-slice f from to xs slice text before after is rises within says adds =
    let count : length slice ≡ to - from =
    ap length is ∙ length-take-le (to - from) (drop from xs) (omega (arith, length-drop from xs)) in
    let same : text ≡ concat (take (to - from) (drop from (map f xs))) =
    says ∙ ap (flat_map f) is ∙ sym (joined-slice f from (to - from) xs) in
    subst (λ n. Adds n (concat (take (to - from) (drop from (map f xs)))) before after) count
    (subst (λ l. Adds (length slice) l before after) same adds)
