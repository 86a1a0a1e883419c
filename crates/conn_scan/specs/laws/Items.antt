-- The items of a connection's frames, whole and by blocks.
use Rattle.std.specs.Prelude.{◌≡◌, ℕ, ◌<◌, ◌≤◌, List, ◌++◌}
use Rattle.std.specs.List.{AllByRecursion}
use Rattle.audit_terms.specs.declared.frames.Frame.{Frame}
use Rattle.audit_terms.specs.declared.items.Change.{Change}
use Rattle.audit_terms.specs.declared.items.Item.{Item}
use Rattle.audit_terms.specs.code.runs.Orderly.{IsOrderly}
use Rattle.audit_terms.specs.code.runs.Changes.{changes_of}
use Rattle.audit_terms.specs.code.runs.States.{items_of}
use Rattle.conn_scan.specs.code.Items.{is_marked, items_with}

-- the HEADERS among the numbers are those that open their streams
abbrev pub AreOpenings : (opened : List ℕ) → List Frame → Type 0
AreOpenings opened frames =
    AllByRecursion (λ (item : Item). is_marked opened item.frame ≡ item.opens) (items_of frames)

-- with the numbers of the opening frames and all changes, the items are those of the pass
abbrev pub ItemsAreThePass : Type 0
ItemsAreThePass = (frames : List Frame) (opened : List ℕ) → IsOrderly frames → AreOpenings opened frames
    → items_with opened (changes_of frames) frames ≡ items_of frames

-- the numbers of the first list are below a number, those of the second are not
pub record AreSplit {A : Type 0} (number : ℕ) (of : A → ℕ) (first later : List A) : Type 0 where
  pub below : AllByRecursion (λ a. of a < number) first
  pub above : AllByRecursion (λ a. number ≤ of a) later

-- the items of two blocks, joined, are those of both
abbrev pub ItemsOfBlocksJoin : Type 0
ItemsOfBlocksJoin =
    (number : ℕ) (opened opened' : List ℕ) (changes changes' : List Change) (frames frames' : List Frame)
    → AreSplit number (λ n. n) opened opened'
    → AreSplit number (λ (change : Change). change.number) changes changes'
    → AreSplit number (λ (frame : Frame). frame.number) frames frames'
    → items_with (opened ++ opened') (changes ++ changes') (frames ++ frames')
    ≡ items_with opened changes frames ++ items_with opened' changes' frames'
