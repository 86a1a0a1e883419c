use Rattle.split_merge.proofs.Terms.{AreAhead, IsTableOf, List, drop, frames_of, notes_from, streams_in, streams_of, ℕ}
use Rattle.split_merge.proofs.Terms.{without, ◌++◌, ◌≡◌}
use Rattle.split_merge.proofs.visits.Visits.note_all.Given as goal

abbrev pub invariant-loop-frame : goal.invariant-loop-frame
invariant-loop-frame l = record {
  came : List (ℕ × ℕ);
  noted : came ++ notes_from l.frame-index (drop l.frame-index l.frames) ≡ notes_from 0 l.frames;
  table : IsTableOf came l.self;
  named : streams_in l.self.rows.items ++ without (streams_in l.self.rows.items)
      (streams_of (drop l.frame-index l.frames))
      ≡ streams_of l.frames;
  ahead : AreAhead l.changes l.frames (λ s. frames_of s (drop l.frame-index l.frames)) (streams_in l.self.rows.items)
      l.self.quiets.items;
}
