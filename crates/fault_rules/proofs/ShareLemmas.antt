-- Frames in shares.
use Rattle.fault_rules.proofs.Terms.{◌≡◌, zero, List, ◌++◌, Some, take, drop, refl, arith, Client, Server, Sides, Frame}
use Rattle.fault_rules.proofs.Terms.{ℕ, suc, ◌+◌, ◌-◌, ◌*◌, ◌<◌, ◌≤◌, [], ◌∷◌, All, map, sym, ap, ◌∙◌, Ok, IfOk, Side}
use Rattle.fault_rules.proofs.Terms.{if◌then◌else◌, Option, append_assoc, range_with_len, IsOrderlyFrom, local_run_from}
use Rattle.fault_rules.proofs.Terms.{length, get_or, Result, AllZip, take-add, drop_all, side_of, in_order, share_run}
use Rattle.fault_rules.proofs.Terms.{flat_map, AllByRecursion, take-append-drop, All-from_recursion, previous_after_all}
use Rattle.fault_rules.proofs.Terms.{drop-drop, take_more, common_steps, IsInRange, local_run, last_from, before_share}
use Rattle.std.specs.Fork.{slice_chunk}
use Rattle.std.proofs.Math.Nat.{mul-le-mul_right}
use Rattle.std.proofs.lemmas.List.Sums.{fold-append}
use Rattle.audit_terms.specs.declared.findings.Finding.{Finding}
use Rattle.audit_terms.specs.Side.{is_side}
use Rattle.audit_terms.specs.LocalFault.{local_said, previous_after, no_previous}

-- the local faults of two lists of frames, one after the other
pub local_run_from-append : (previous : Sides (Option Frame)) (xs ys : List Frame) →
    local_run_from previous (xs ++ ys)
    ≡ local_run_from previous xs ++ local_run_from (previous_after_all previous xs) ys
local_run_from-append previous [] ys = refl
local_run_from-append previous (frame ∷ xs) ys =
    let said = in_order (local_said (side_of frame.side previous) frame) in
    let next = previous_after previous frame in
    ap (λ rest. said ++ rest) (local_run_from-append next xs ys)
    ∙ sym (append_assoc said (local_run_from next xs) (local_run_from (previous_after_all next xs) ys))

-- the last frame of each side is the last of the one and of the other
pub previous-last : (previous : Sides (Option Frame)) (frames : List Frame) → previous_after_all previous frames
    ≡ record { client = last_from Client previous.client frames; server = last_from Server previous.server frames }
previous-last previous [] = refl
previous-last previous (frame ∷ frames) = previous-last (previous_after previous frame) frames

-- the last frame of a side with one more frame behind
pub last_from-append : (side : Side) (before : Option Frame) (xs ys : List Frame) →
    last_from side before (xs ++ ys) ≡ last_from side (last_from side before xs) ys
last_from-append side before [] ys = refl
last_from-append side before (frame ∷ xs) ys =
    last_from-append side (if is_side side frame.side then Some frame else before) xs ys

-- one more frame seen from behind
pub last_from-back : (side : Side) (before : Option Frame) (frames : List Frame) (back : ℕ) (d : Frame)
    → back < length frames
    → (let one = get_or frames (length frames - 1 - back) d in
    last_from side before (take (length frames - back) frames)
    ≡ (if is_side side one.side then Some one else last_from side before (take (length frames - (back + 1)) frames)))
last_from-back side before frames back d l =
    let k = length frames - (back + 1) in
    let next : length frames - back ≡ k + 1 = omega arith in
    let place : length frames - 1 - back ≡ k = omega arith in
    rw (next, take_more frames k d (omega arith), place)
    (last_from-append side before (take k frames) (get_or frames k d ∷ []))

-- one more of those before the shares
pub befores-push : (size : ℕ) (frames : List Frame) (befores : List (Sides (Option Frame)))
    (next : Sides (Option Frame)) (n : ℕ)
    → length befores ≡ n → next ≡ before_share size frames n
    → ((k : ℕ) (d : Sides (Option Frame)) → k < length befores → get_or befores k d ≡ before_share size frames k)
    → (k : ℕ) (d : Sides (Option Frame)) → k < length (befores ++ next ∷ [])
    → get_or (befores ++ next ∷ []) k d ≡ before_share size frames k
befores-push size frames befores next n e h each k d l = grind (arith, common_steps, each k d, e, h)

-- a share of so many begins inside, if they reach no further than a share past the end
pub share-inside : (all size count n : ℕ) → count * size < all + size → n < count → n * size < all
share-inside all size count n high l =
    let here : n + 1 ≤ count = omega (arith, l) in
    let next = mul-le-mul_right size here in
    let e : (n + 1) * size ≡ n * size + size = omega arith in
    omega (arith, next, e, high)

-- each frame of an orderly list is in range
orderly-in_range : (low : ℕ) (frames : List Frame) → IsOrderlyFrom low frames → AllByRecursion IsInRange frames
orderly-in_range low [] h = tt
orderly-in_range low (frame ∷ frames) h = (h.1, orderly-in_range (frame.number + 1) frames h.2)

pub orderly-All : (low : ℕ) (frames : List Frame) → IsOrderlyFrom low frames → All IsInRange frames
orderly-All low frames h = All-from_recursion IsInRange frames (orderly-in_range low frames h)

-- nothing comes before the first share
pub before_share-first : (size : ℕ) (frames : List Frame) → before_share size frames 0 ≡ no_previous
before_share-first size frames =
    let first : 0 * size ≡ 0 = omega arith in
    ap (λ k. previous_after_all no_previous (take k frames)) first

-- what comes before the next share
pub before_share-next : (size : ℕ) (frames : List Frame) (n : ℕ) →
    before_share size frames (n + 1) ≡ previous_after_all (before_share size frames n) (slice_chunk frames size n)
before_share-next size frames n =
    let e : (n + 1) * size ≡ n * size + size = omega arith in
    rw (e, take-add (n * size) size frames)
    (fold-append previous_after no_previous (take (n * size) frames) (take size (drop (n * size) frames)))

-- a share and what follows it
pub share_run-rest : (size : ℕ) (frames : List Frame) (n : ℕ) →
    share_run size frames n ++ local_run_from (before_share size frames (n + 1)) (drop ((n + 1) * size) frames)
    ≡ local_run_from (before_share size frames n) (drop (n * size) frames)
share_run-rest size frames n =
    let rest = drop (n * size) frames in
    let e : (n + 1) * size ≡ n * size + size = omega arith in
    let behind : drop ((n + 1) * size) frames ≡ drop size rest = rw e (sym (drop-drop size (n * size) frames)) in
    rw (before_share-next size frames n, behind)
    (sym (local_run_from-append (before_share size frames n) (take size rest) (drop size rest))
    ∙ ap (local_run_from (before_share size frames n)) (take-append-drop size rest))

module _ {X : Type 0} (E : Type 0) (items : X → List Finding) (size : ℕ) (frames : List Frame) where
  -- what the shares from number n on show
  pub shares-from : (n count : ℕ) (shares : List X) → length frames ≤ (n + count) * size
      → AllZip (λ k (r : Result X E). IfOk r (λ share. items share ≡ share_run size frames k))
      (range_with_len n count) (map Ok shares)
      → flat_map items shares ≡ local_run_from (before_share size frames n) (drop (n * size) frames)
  shares-from n zero [] l h =
      ap (local_run_from (before_share size frames n)) (sym (drop_all (n * size) frames (omega arith)))
  shares-from n zero (share ∷ shares) l h = absurd h
  shares-from n (suc count) [] l h = absurd h
  shares-from n (suc count) (share ∷ shares) l h =
      ap (λ said. said ++ flat_map items shares) h.0
      ∙ ap (λ rest. share_run size frames n ++ rest) (shares-from (n + 1) count shares (omega arith) h.1)
      ∙ share_run-rest size frames n

  -- what all shares show
  pub shares-all : (count : ℕ) (shares : List X) → length frames ≤ count * size
      → AllZip (λ k (r : Result X E). IfOk r (λ share. items share ≡ share_run size frames k))
      (range_with_len 0 count) (map Ok shares)
      → flat_map items shares ≡ local_run frames
  shares-all count shares l h =
      let first : 0 * size ≡ 0 = omega arith in
      shares-from 0 count shares (omega arith) h
      ∙ ap (λ k. local_run_from (previous_after_all no_previous (take k frames)) (drop k frames)) first
