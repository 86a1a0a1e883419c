-- The forward walk gives the items of the definition.
use Rattle.conn_scan.proofs.Terms.{Block, items_in, IsBlock, ◌≡◌, ℕ, suc, ◌+◌, ◌<◌, ◌≤◌, ◌==◌, false, List, [], ◌∷◌}
use Rattle.conn_scan.proofs.Terms.{length, None, refl, ap, arith, list_any, find, nat_tests, Frame, Change, Item}
use Rattle.conn_scan.proofs.Terms.{IsOrderlyFrom, items_with, NeverFallFrom, numbers_not_below, changes_not_below}
use Rattle.conn_scan.proofs.Terms.{is_first}
use Rattle.conn_scan.proofs.Terms.{first_change, walked, StartFrom, ChangesStartFrom}
use Rattle.audit_terms.specs.code.runs.Changes.{AreOrderlyFrom}

-- ---- opening numbers

-- no number is below `low`
any_below : (low number : ℕ) (numbers : List ℕ) → number < low → NeverFallFrom low numbers
    → list_any (λ n. n == number) numbers ≡ false
any_below low number [] lt h = refl
any_below low number (n ∷ numbers) lt h =
    let later = any_below n number numbers (omega (arith, h.0)) h.1 in grind (arith, nat_tests)

any_from : (low number : ℕ) (numbers : List ℕ) → low ≤ number
    → list_any (λ n. n == number) numbers ≡ list_any (λ n. n == number) (numbers_not_below low numbers)
any_from low number [] le = refl
any_from low number (n ∷ numbers) le = grind (arith, nat_tests, any_from low number numbers le)

-- a number is there where it is the first of those that are not below it
any_first : (low number : ℕ) (numbers : List ℕ) → NeverFallFrom low numbers
    → list_any (λ n. n == number) numbers ≡ is_first number (numbers_not_below number numbers)
any_first low number [] h = refl
any_first low number (n ∷ numbers) h =
    let later = λ (lt : number < n). any_below n number numbers lt h.1 in
    grind (arith, nat_tests, any_first n number numbers h.1)

pub numbers_not_below-rise : (base start low : ℕ) (numbers : List ℕ) → base ≤ low → NeverFallFrom start numbers
    → NeverFallFrom base (numbers_not_below low numbers)
numbers_not_below-rise base start low [] le h = tt
numbers_not_below-rise base start low (n ∷ numbers) le h =
    let later = numbers_not_below-rise base n low numbers le h.1 in grind (arith, nat_tests)

-- ---- changes

find_below : (low number : ℕ) (changes : List Change) → number < low → AreOrderlyFrom low changes
    → find (λ (change : Change). change.number == number) changes ≡ None
find_below low number [] lt h = refl
find_below low number (c ∷ changes) lt h =
    let later = find_below (c.number + 1) number changes (omega (arith, h.0)) h.2 in grind (arith, nat_tests)

find_from : (low number : ℕ) (changes : List Change) → low ≤ number
    → find (λ (change : Change). change.number == number) changes
    ≡ find (λ (change : Change). change.number == number) (changes_not_below low changes)
find_from low number [] le = refl
find_from low number (c ∷ changes) le = grind (arith, nat_tests, find_from low number changes le)

find_first : (low number : ℕ) (changes : List Change) → AreOrderlyFrom low changes
    → find (λ (change : Change). change.number == number) changes
    ≡ first_change number (changes_not_below number changes)
find_first low number [] h = refl
find_first low number (c ∷ changes) h =
    let later = find_below (c.number + 1) number changes in
    grind (arith, nat_tests, find_first (c.number + 1) number changes h.2)

pub changes_not_below-orderly : (base start low : ℕ) (changes : List Change) → base ≤ low → AreOrderlyFrom start changes
    → AreOrderlyFrom base (changes_not_below low changes)
changes_not_below-orderly base start low [] le h = tt
changes_not_below-orderly base start low (c ∷ changes) le h =
    let later = changes_not_below-orderly base (c.number + 1) low changes le h.2 in grind (arith, nat_tests)

-- ---- items

-- what stands below all frames may be left out
pub items_with-from : (low base : ℕ) (opened : List ℕ) (changes : List Change) (frames : List Frame) → low ≤ base
    → IsOrderlyFrom base frames
    → items_with opened changes frames
    ≡ items_with (numbers_not_below low opened) (changes_not_below low changes) frames
items_with-from low base opened changes [] le h = refl
items_with-from low base opened changes (frame ∷ frames) le h =
    let mark = any_from low frame.number opened (omega (arith, h.0)) in
    let found = find_from low frame.number changes (omega (arith, h.0)) in
    let later = items_with-from low (frame.number + 1) opened changes frames (omega (arith, h.0)) h.2 in
    cc

pub length-walked : (opened : List ℕ) (changes : List Change) (frames : List Frame)
    → length (walked opened changes frames) ≡ length frames
length-walked opened changes [] = refl
length-walked opened changes (frame ∷ frames) =
    ap suc (length-walked (numbers_not_below frame.number opened) (changes_not_below frame.number changes) frames)

-- ---- frames that stand beside no opening and no change

-- the item of such a frame
abbrev pub idle_at : Frame → Item
idle_at frame = record { frame = frame; opens = false; change = None }

numbers-before : (number due : ℕ) (numbers : List ℕ) → number < due → StartFrom due numbers
    → (numbers_not_below number numbers ≡ numbers) × (is_first number numbers ≡ false)
numbers-before number due [] lt h = (refl, refl)
numbers-before number due (n ∷ numbers) lt h = grind (arith, nat_tests)

changes-before : (number due : ℕ) (changes : List Change) → number < due → ChangesStartFrom due changes
    → (changes_not_below number changes ≡ changes) × (first_change number changes ≡ None)
changes-before number due [] lt h = (refl, refl)
changes-before number due (c ∷ changes) lt h = grind (arith, nat_tests)

pub walked-idle : (due : ℕ) (opened : List ℕ) (changes : List Change) (frame : Frame) (frames : List Frame)
    → frame.number < due → StartFrom due opened → ChangesStartFrom due changes
    → walked opened changes (frame ∷ frames) ≡ idle_at frame ∷ walked opened changes frames
walked-idle due opened changes frame frames lt o c =
    let marks = numbers-before frame.number due opened lt o in
    let news = changes-before frame.number due changes lt c in
    grind arith

-- ---- what stands below all frames may be left out

numbers-again : (low number : ℕ) (numbers : List ℕ) → low ≤ number
    → numbers_not_below number numbers ≡ numbers_not_below number (numbers_not_below low numbers)
numbers-again low number [] le = refl
numbers-again low number (n ∷ numbers) le = grind (arith, nat_tests, numbers-again low number numbers le)

changes-again : (low number : ℕ) (changes : List Change) → low ≤ number
    → changes_not_below number changes ≡ changes_not_below number (changes_not_below low changes)
changes-again low number [] le = refl
changes-again low number (c ∷ changes) le = grind (arith, nat_tests, changes-again low number changes le)

pub walked-from : (low base : ℕ) (opened : List ℕ) (changes : List Change) (frames : List Frame) → low ≤ base
    → IsOrderlyFrom base frames
    → walked opened changes frames ≡ walked (numbers_not_below low opened) (changes_not_below low changes) frames
walked-from low base opened changes [] le h = refl
walked-from low base opened changes (frame ∷ frames) le h =
    let within : low ≤ frame.number = omega (arith, h.0) in
    rw (← numbers-again low frame.number opened within, ← changes-again low frame.number changes within) refl

-- ---- the items of a block

pub walked-items_with : (base start begin : ℕ) (opened : List ℕ) (changes : List Change) (frames : List Frame)
    → IsOrderlyFrom base frames → NeverFallFrom start opened → AreOrderlyFrom begin changes
    → walked opened changes frames ≡ items_with opened changes frames
walked-items_with base start begin opened changes [] h o c = refl
walked-items_with base start begin opened changes (frame ∷ frames) h o c =
    let n = frame.number in
    let mark = any_first start n opened o in
    let found = find_first begin n changes c in
    let left = walked-from n (n + 1) opened changes frames (omega arith) h.2 in
    let later = walked-items_with (n + 1) start begin opened changes frames h.2 o c in
    cc

pub block_walked : (block : Block) → IsBlock block
    → walked block.opened.now block.changes.now block.frames.now ≡ items_in block
block_walked block h =
    walked-items_with 0 0 0 block.opened.now block.changes.now block.frames.now h.frames h.opened h.changes
