-- The plain fold over a list of items, and the items of blocks.
use Rattle.std.specs.Prelude.{List, [], ◌∷◌, ◌++◌}

-- the items of some blocks, in order
abbrev pub items_in_blocks : {Item : Type 0} → List (List Item) → List Item
items_in_blocks [] = []
items_in_blocks (block ∷ blocks) = block ++ items_in_blocks blocks

-- the state after some items, one step an item
abbrev pub after_all : {State Item : Type 0} → (step : State → Item → State) → State → List Item → State
after_all step state [] = state
after_all step state (item ∷ items) = after_all step (step state item) items
