-- The states of a pass, and what the connection meets in it.
use Rattle.std.specs.Prelude.{List, [], ◌∷◌}
use Rattle.audit_terms.specs.declared.frames.Frame.{Frame}
use Rattle.audit_terms.specs.declared.items.Item.{Item}
use Rattle.audit_terms.specs.Pass.{PassState, item_of, next, pass_start}

-- the state after some frames
abbrev pub state_from : PassState → List Frame → PassState
state_from state [] = state
state_from state (frame ∷ frames) = state_from (next state frame) frames

-- the state after a connection's frames
abbrev pub state_after : List Frame → PassState
state_after frames = state_from pass_start frames

-- the items of some frames
abbrev pub items_from : PassState → List Frame → List Item
items_from state [] = []
items_from state (frame ∷ frames) = item_of state frame ∷ items_from (next state frame) frames

-- the items of a connection's frames
abbrev pub items_of : List Frame → List Item
items_of frames = items_from pass_start frames
