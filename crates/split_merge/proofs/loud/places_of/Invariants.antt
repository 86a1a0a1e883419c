use Rattle.split_merge.proofs.Terms.{◌≡◌, ◌≤◌, ◌++◌, drop, places_from}
use Rattle.split_merge.proofs.loud.places_of.Given as goal

abbrev pub invariant-loop-quiet : goal.invariant-loop-quiet
invariant-loop-quiet l = record {
  within : l.next ≤ l.quiet-index;
  places : l.places.items ++ places_from l.next (drop l.quiet-index l.quiets) ≡ places_from 0 l.quiets;
}
