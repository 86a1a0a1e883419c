use Rattle.std.proofs.Common.{◌≡◌, ◌++◌, Bool}
use Rattle.std.specs.Vec.Iter.{into_iter_items}
use Rattle.h2audit.specs.code.Flows.{AreMadeOf, AreToldHeld}
use Rattle.h2audit.proofs.each_connection.all_with_outcomes.Given as goal

-- the connections so far, of which all is told, and those that are left with what is told of them at once
abbrev pub invariant-loop-one : goal.invariant-loop-one
invariant-loop-one l = record {
  whole : l.yielded ++ into_iter_items l.one-iterator ≡ l.fn.held.items;
  left : (credits : Bool) → AreMadeOf credits l.fn.held.items l.fn.parts.items
      → AreMadeOf credits (into_iter_items l.one-iterator) (into_iter_items l.rest);
  told : (credits : Bool) → AreMadeOf credits l.fn.held.items l.fn.parts.items
      → AreToldHeld credits l.yielded l.all.items;
}
