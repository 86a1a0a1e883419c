-- How a sum over a list changes with the list, and numbers and marks in lists, by cases.
use Rattle.stop_desk.proofs.Words.{Bool, List, [], ap, arith, false, get_elem?, if◌then◌else◌, inl, is_mark, marks}
use Rattle.stop_desk.proofs.Words.{nat_lt, nat_tests, past_places, refl, set, some, some-injective, some-ne-none, suc}
use Rattle.stop_desk.proofs.Words.{sym, true, weigh, zero, ℕ, ◌++◌, ◌+◌, ◌<◌, ◌∷◌, ◌≡◌, ◌≤◌, ◌⊎◌}

module _ {X : Type 0} where
  pub weigh-append : (f : X → ℕ) (xs ys : List X) → weigh f (xs ++ ys) ≡ weigh f xs + weigh f ys
  weigh-append f [] ys = omega arith
  weigh-append f (x ∷ xs) ys = let rest = weigh-append f xs ys in omega arith

  pub weigh-snoc : (f : X → ℕ) (xs : List X) (x : X) → weigh f (xs ++ x ∷ []) ≡ weigh f xs + f x
  weigh-snoc f xs x = let all = weigh-append f xs (x ∷ []) in omega arith

  pub weigh-set : (f : X → ℕ) (xs : List X) (i : ℕ) (v w : X) → get_elem? xs i ≡ some v
      → weigh f (set xs i w) + f v ≡ weigh f xs + f w
  weigh-set f [] i v w at = absurd (some-ne-none v (sym at))
  weigh-set f (x ∷ xs) zero v w at = let same : f x ≡ f v = ap f (some-injective x v at) in omega arith
  weigh-set f (x ∷ xs) (suc i) v w at = let rest = weigh-set f xs i v w at in omega arith

  pub weigh-part : (f : X → ℕ) (xs : List X) (i : ℕ) (v : X) → get_elem? xs i ≡ some v → f v ≤ weigh f xs
  weigh-part f [] i v at = absurd (some-ne-none v (sym at))
  weigh-part f (x ∷ xs) zero v at = let same : f x ≡ f v = ap f (some-injective x v at) in omega arith
  weigh-part f (x ∷ xs) (suc i) v at = let rest = weigh-part f xs i v at in omega arith

  -- where f weighs nothing, and g nothing of what f weighs nothing, g weighs nothing
  weigh-nothing : (f g : X → ℕ) (xs : List X) → weigh f xs ≡ 0
      → ((i : ℕ) (x : X) → get_elem? xs i ≡ some x → f x ≡ 0 → g x ≡ 0) → weigh g xs ≡ 0
  weigh-nothing f g [] none idle = omega arith
  weigh-nothing f g (x ∷ xs) none idle =
      omega (arith, idle 0 x (λ _. some x), weigh-nothing f g xs (omega arith) (λ i. idle (suc i)))

  -- who has the whole weight of f has the whole of each g that is nothing where f is
  pub weigh-whole : (f g : X → ℕ) (xs : List X) (i : ℕ) (v : X) → get_elem? xs i ≡ some v → weigh f xs ≡ f v
      → ((j : ℕ) (x : X) → get_elem? xs j ≡ some x → f x ≡ 0 → g x ≡ 0) → weigh g xs ≡ g v
  weigh-whole f g [] i v at whole idle = absurd (some-ne-none v (sym at))
  weigh-whole f g (x ∷ xs) zero v at whole idle =
      let same = some-injective x v at in
      omega (arith, ap f same, ap g same, weigh-nothing f g xs (omega (arith, ap f same)) (λ j. idle (suc j)))
  weigh-whole f g (x ∷ xs) (suc i) v at whole idle =
      let part = weigh-part f xs i v at in
      omega (arith, idle 0 x (λ _. some x), weigh-whole f g xs i v at (omega arith) (λ j. idle (suc j)))

-- what a look adds to the places seen is a place
pub seen-cases : (b : Bool) (c p c' n : ℕ) (ms : List (ℕ × ℕ)) → b ≡ nat_lt n past_places
    → (marks c p (if b then ms ++ (c', n) ∷ [] else ms) ≡ marks c p ms) ⊎ ((c ≡ c') × (p ≡ n) × (n < past_places))
seen-cases false c p c' n ms is = inl refl
seen-cases true c p c' n ms is = grind (arith, nat_tests, weigh-snoc (is_mark c p) ms (c', n))
