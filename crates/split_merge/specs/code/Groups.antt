-- Groups of consecutive indices, as even as can be.
use Rattle.std.specs.Prelude.{◌≡◌, ℕ, ◌+◌, ◌*◌, ◌/◌, ◌≤◌, min, List, [], ◌∷◌, map}
use Rattle.std.specs.List.{range_with_len}

-- group g of k: from its first index up to the first of the next
abbrev pub group_at : (count k g : ℕ) → ℕ × ℕ
group_at count k g = (g * count / k, (g + 1) * count / k)

-- so many groups as asked for, or one for each index where these are fewer
abbrev pub groups : (count n : ℕ) → List (ℕ × ℕ)
groups count n = map (group_at count (min n count)) (range_with_len 0 (min n count))

-- each range begins where the one before it ends, the first at `from`, and the last ends at `to`
abbrev pub AreConsecutive : (from to : ℕ) → List (ℕ × ℕ) → Type 0
AreConsecutive from to [] = from ≡ to
AreConsecutive from to (range ∷ ranges) = (range.0 ≡ from) × (range.0 ≤ range.1) × AreConsecutive range.1 to ranges
