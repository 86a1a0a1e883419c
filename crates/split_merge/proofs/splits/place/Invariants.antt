use Rattle.split_merge.proofs.Terms.{◌≡◌, ℕ, ◌++◌, List, drop, CanPlace, IsPlacing, notes_from}
use Rattle.split_merge.proofs.splits.place.Given as goal

-- what came so far was put in, and what is noted of the frames that are left is still to be
abbrev pub invariant-loop-frame : goal.invariant-loop-frame
invariant-loop-frame l = record {
  position : l.position ≡ l.frame-index;
  placing : (loud : List ℕ) → CanPlace loud (notes_from 0 l.frames) l.places l.fn.table l.fn.rows l.total
      → (came : List (ℕ × ℕ)) × (came ++ notes_from l.frame-index (drop l.frame-index l.frames) ≡ notes_from 0 l.frames)
      × IsPlacing loud came (notes_from l.frame-index (drop l.frame-index l.frames)) l.places l.table l.rows
      l.positions.items;
}
