-- The items of some frames by one forward walk over the frames, the opening numbers and the changes.
use Rattle.std.specs.Prelude.{ℕ, ◌≤◌, ◌==◌, ◌&&◌, Bool, false, nat_lt, if◌then◌else◌, Option, Some, None, List, [], ◌∷◌}
use Rattle.audit_terms.specs.declared.frames.Frame.{Frame}
use Rattle.audit_terms.specs.declared.items.Change.{Change}
use Rattle.audit_terms.specs.declared.items.Item.{Item}
use Rattle.audit_terms.specs.Frame.{is_headers}

-- the numbers from the first that is not below `low`
abbrev pub numbers_not_below : (low : ℕ) → List ℕ → List ℕ
numbers_not_below low [] = []
numbers_not_below low (number ∷ numbers) = if nat_lt number low then numbers_not_below low numbers else number ∷ numbers

-- the changes from the first whose number is not below `low`
abbrev pub changes_not_below : (low : ℕ) → List Change → List Change
changes_not_below low [] = []
changes_not_below low (change ∷ changes) =
    if nat_lt change.number low then changes_not_below low changes else change ∷ changes

-- is it the first number?
abbrev pub is_first : (number : ℕ) → List ℕ → Bool
is_first number [] = false
is_first number (first ∷ _) = first == number

-- the first change, where it has this number
abbrev pub first_change : (number : ℕ) → List Change → Option Change
first_change number [] = None
first_change number (change ∷ _) = if change.number == number then Some change else None

-- the item of a frame, where the first opening number and the first change are not below the frame's number
abbrev pub item_at : Frame → (opened : List ℕ) → List Change → Item
item_at frame opened changes = record {
  frame = frame;
  opens = is_headers frame.body && is_first frame.number opened;
  change = first_change frame.number changes;
}

abbrev pub walked : (opened : List ℕ) → List Change → List Frame → List Item
walked opened changes [] = []
walked opened changes (frame ∷ frames) =
    let marks = numbers_not_below frame.number opened in
    let news = changes_not_below frame.number changes in
    item_at frame marks news ∷ walked marks news frames

-- the first number, if there is one, is not below `low`
abbrev pub StartFrom : (low : ℕ) → List ℕ → Type 0
StartFrom low [] = Unit {0}
StartFrom low (number ∷ _) = low ≤ number

-- nor the number of the first change
abbrev pub ChangesStartFrom : (low : ℕ) → List Change → Type 0
ChangesStartFrom low [] = Unit {0}
ChangesStartFrom low (change ∷ _) = low ≤ change.number
