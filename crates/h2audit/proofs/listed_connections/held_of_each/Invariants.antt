use Rattle.std.proofs.Common.{◌≡◌, ◌++◌, map}
use Rattle.std.specs.List.{AllZip}
use Rattle.std.specs.Vec.Iter.{into_iter_items}
use Rattle.h2audit.proofs.MetAudits.{Answers}
use Rattle.h2audit.specs.code.Listed.{HasListed, IsHeldOfOpening}
use Rattle.h2audit.specs.code.Met.{heading_by}
use Rattle.h2audit.specs.declared.listed_connections.ListedConnection.{ListedConnection}
use Rattle.h2audit.specs.declared.met_connections.MetConnection.{MetConnection}
use Rattle.h2audit.proofs.listed_connections.held_of_each.Given as goal

-- those so far and those that are left are all, and of each so far is known what its flows hold
abbrev pub invariant-loop-connection : goal.invariant-loop-connection
invariant-loop-connection l = record {
  all : l.yielded ++ into_iter_items l.connection-iterator ≡ l.fn.opened.items;
  headed : l.headings.items ≡ map (λ (c : MetConnection ListedConnection). heading_by c.opening) l.yielded;
  held : AllZip (Answers HasListed IsHeldOfOpening) l.yielded l.held.items;
}
