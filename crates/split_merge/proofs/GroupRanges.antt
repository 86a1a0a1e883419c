-- Groups are consecutive, so what they hold, joined, is all there is.
use Rattle.split_merge.proofs.Terms.{List, [], ap, arith, between, drop, drop_all, flat_map, length, map, min}
use Rattle.split_merge.proofs.Terms.{mul-div_cancel, range_with_len, refl, subst, suc, sym, zero, ℕ, ◌*◌, ◌+◌}
use Rattle.split_merge.proofs.Terms.{◌/◌, ◌<◌, ◌∙◌, ◌∷◌, ◌≡◌, ◌≤◌}
use Rattle.split_merge.specs.code.Groups.{AreConsecutive, group_at, groups}
use Rattle.std.proofs.{Math.Nat.mul_comm, lemmas.List.Folds.drop_split, lemmas.Nat.div-add-mod', lemmas.Nat.le-div}

whole : (count k : ℕ) → 0 < k → k * count / k ≡ count
whole count k h = rw (mul_comm k count) (mul-div_cancel count h)

first : (count k : ℕ) → 0 < k → 0 * count / k ≡ 0
first count k h = let e : 0 * count ≡ 0 * k = omega arith in rw e (mul-div_cancel 0 h)

rising : (count k g : ℕ) → 0 < k → g * count / k ≤ (g + 1) * count / k
rising count k g h = le-div (g * count / k) ((g + 1) * count) k h (omega (arith, div-add-mod' (g * count) k))

consecutive-from : (count k g m : ℕ) → 0 < k → g + m ≡ k →
    AreConsecutive (g * count / k) count (map (group_at count k) (range_with_len g m))
consecutive-from count k g zero h e =
    let same : g ≡ k = omega (arith, e) in
    ap (λ n. n * count / k) same ∙ whole count k h
consecutive-from count k g (suc m) h e =
    (refl, rising count k g h, consecutive-from count k (g + 1) m h (omega (arith, e)))

consecutive-by : (count n k : ℕ) → min n count ≡ k → 1 ≤ n
    → AreConsecutive 0 count (map (group_at count k) (range_with_len 0 k))
consecutive-by count n zero e h =
    let none : 0 ≡ count = omega (arith, e, h) in none
consecutive-by count n (suc k) e h =
    let above : 0 < suc k = omega arith in
    subst (λ from. AreConsecutive from count (map (group_at count (suc k)) (range_with_len 0 (suc k))))
    (first count (suc k) above) (consecutive-from count (suc k) 0 (suc k) above (omega arith))

pub groups-consecutive : (count n : ℕ) → 1 ≤ n → AreConsecutive 0 count (groups count n)
groups-consecutive count n h = consecutive-by count n (min n count) refl h

-- what consecutive ranges of a list hold, joined
pub ranges-joined : {X : Type 0} (xs : List X) (from : ℕ) (ranges : List (ℕ × ℕ))
    → AreConsecutive from (length xs) ranges →
    flat_map (λ (range : ℕ × ℕ). between range.0 range.1 xs) ranges ≡ drop from xs
ranges-joined xs from [] h = sym (drop_all from xs (omega (arith, h)))
ranges-joined xs from (range ∷ ranges) h =
    grind (arith, ranges-joined xs range.1 ranges h.2, drop_split xs range.0 range.1 h.1, h.2, h.1, h.0)

-- the parts of a list, group by group, are all its parts
pub groups-joined : {X : Type 0} (xs : List X) (n : ℕ) → 1 ≤ n →
    flat_map (λ (range : ℕ × ℕ). between range.0 range.1 xs) (groups (length xs) n) ≡ xs
groups-joined xs n h = ranges-joined xs 0 (groups (length xs) n) (groups-consecutive (length xs) n h)
