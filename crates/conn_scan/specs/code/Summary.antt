-- What a summary of items is, and the laws that let blocks be summed apart and joined in any grouping.
use Rattle.std.specs.Prelude.{◌≡◌, List, [], ◌∷◌, ◌++◌}
use Rattle.conn_scan.specs.code.List.{after_all}

-- the summary of some items: each item's, joined; `empty` of no items
abbrev pub summary_of : {Sum Item : Type 0} → (empty : Sum) → (of : Item → Sum) → (join : Sum → Sum → Sum)
    → List Item → Sum
summary_of empty of join [] = empty
summary_of empty of join (item ∷ items) = join (of item) (summary_of empty of join items)

-- The laws, of a state and items that fit.
pub record SummaryLaws {Sum Item State : Type 0} (empty : Sum) (of : Item → Sum) (join : Sum → Sum → Sum)
    (advance : State → Sum → State) (step : State → Item → State) (fits : State → List Item → Type 0) : Type 0 where
  -- of items that fit, the first ones fit
  pub first_fit : (s : State) (a b : List Item) → fits s (a ++ b) → fits s a
  -- and the rest fits the state after them
  pub rest_fits : (s : State) (a b : List Item) → fits s (a ++ b) → fits (after_all step s a) b
  -- the summary of one item is `of` it
  pub one : (s : State) (item : Item) → fits s (item ∷ []) → summary_of empty of join (item ∷ []) ≡ of item
  -- `empty` is the unit of `join`
  pub left_unit : (s : State) (a : List Item) → fits s a
      → let sum = summary_of empty of join in join empty (sum a) ≡ sum a
  pub right_unit : (s : State) (a : List Item) → fits s a
      → let sum = summary_of empty of join in join (sum a) empty ≡ sum a
  -- `join` is associative
  pub associative : (s : State) (a b c : List Item) → fits s (a ++ b ++ c)
      → let sum = summary_of empty of join in join (join (sum a) (sum b)) (sum c) ≡ join (sum a) (join (sum b) (sum c))
  -- the summary of two lists, one after the other, is that of both joined
  pub appended : (s : State) (a b : List Item) → fits s (a ++ b)
      → let sum = summary_of empty of join in sum (a ++ b) ≡ join (sum a) (sum b)
  -- to advance by no items changes nothing
  pub advance_by_none : (s : State) → fits s [] → advance s empty ≡ s
  -- to advance by one item is its step
  pub advance_by_one : (s : State) (item : Item) → fits s (item ∷ []) → advance s (of item) ≡ step s item
  -- to advance twice is to advance by both joined
  pub advance_twice : (s : State) (a b : List Item) → fits s (a ++ b)
      → let sum = summary_of empty of join in advance (advance s (sum a)) (sum b) ≡ advance s (join (sum a) (sum b))
