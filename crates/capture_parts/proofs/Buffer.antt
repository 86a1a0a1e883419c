-- What a buffer holds after a read and after a move.
use Rattle.capture_parts.proofs.Terms.{List, ap, ap₂, arith, copy_within, drop, drop-append_seam, drop-take, length}
use Rattle.capture_parts.proofs.Terms.{length-drop, length-take-le, sym, take, take-add, take-append-drop}
use Rattle.capture_parts.proofs.Terms.{take-append_seam, take-put_mid, take-take, ℕ, ◌++◌, ◌+◌, ◌-◌, ◌∙◌, ◌≡◌, ◌≤◌}
use Rattle.std.proofs.lemmas.List.Edits.{take-paste}
use borrow.Rule.Slice.PartMut.{put_mid}

-- n bytes were read behind a
pub read_behind : (a k n : ℕ) (old read : List ℕ) → a ≤ length old → n ≤ length read
    → take (a + n) (put_mid a k old read) ≡ take a old ++ take n read
read_behind a k n old read within fits =
    let front : List ℕ = take a old in
    let size : length front ≡ a = length-take-le a old within in
    sym (take-take (a + n) (a + length read) (put_mid a k old read) (omega (arith, fits)))
    ∙ ap (take (a + n)) (take-put_mid a k old read (a + length read) (omega arith) within)
    ∙ ap (λ (m : ℕ). take (m + n) (front ++ read)) (sym size)
    ∙ take-add (length front) n (front ++ read)
    ∙ ap₂ (λ (l m : List ℕ). l ++ take n m) (take-append_seam front read) (drop-append_seam front read)

-- the first d of the first f bytes were dealt, and those behind them moved to the front
pub moved_to_front : (d f : ℕ) (old new : List ℕ) → d ≤ length (take f old) → f ≤ length old
    → new ≡ copy_within old d f 0
    → (take d (take f old) ≡ take (f - (f - d)) old) × (drop d (take f old) ≡ take (f - d) new)
    × (take f old ≡ take (f - (f - d)) old ++ take (f - d) new)
moved_to_front d f old new dealt within is =
    let order : d ≤ f = omega (arith, dealt, length-take-le f old within) in
    let size : d + (f - d) ≡ f = omega (arith, order) in
    let count : d ≡ f - (f - d) = omega (arith, order) in
    let front = take-take d f old order ∙ ap (λ (k : ℕ). take k old) count in
    let placed : take (f - d) (copy_within old d f 0) ≡ take (f - d) (drop d old) =
    ap (λ (k : ℕ). take k (copy_within old d f 0)) (let e : f - d ≡ 0 + (f - d) = omega arith in e)
    ∙ take-paste old 0 (drop d old) (f - d) (omega arith) (omega (arith, length-drop d old, order, within)) in
    let back = ap (λ (k : ℕ). drop d (take k old)) (sym size) ∙ drop-take d (f - d) old ∙ sym placed
    ∙ ap (take (f - d)) (sym is) in
    (front, back, sym (take-append-drop d (take f old)) ∙ ap₂ (λ (l m : List ℕ). l ++ m) front back)
