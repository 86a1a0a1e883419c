-- Sums over lists, and how often something stands in a list.
use Rattle.std.specs.Prelude.{ℕ, ◌+◌, List, [], ◌∷◌, if◌then◌else◌, ◌==◌, nat_lt}

-- f of each element, added up
abbrev pub weigh : {X : Type 0} → (X → ℕ) → List X → ℕ
weigh f [] = 0
weigh f (x ∷ xs) = f x + weigh f xs

-- 1 where y is the number x, and else 0
abbrev pub is_number : (x y : ℕ) → ℕ
is_number x y = if y == x then 1 else 0

-- how often the number x stands in a list
abbrev pub times : (x : ℕ) → List ℕ → ℕ
times x xs = weigh (is_number x) xs

-- 1 where x is below n, and else 0
abbrev pub once_below : (x n : ℕ) → ℕ
once_below x n = if nat_lt x n then 1 else 0

-- 1 where a mark is of connection c and place p, and else 0
abbrev pub is_mark : (c p : ℕ) → (ℕ × ℕ) → ℕ
is_mark c p mark = if mark.0 == c then is_number p mark.1 else 0

-- how often place p stands in a list of marks for connection c
abbrev pub marks : (c p : ℕ) → List (ℕ × ℕ) → ℕ
marks c p ms = weigh (is_mark c p) ms
