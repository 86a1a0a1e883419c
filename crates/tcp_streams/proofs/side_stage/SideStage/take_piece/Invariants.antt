use Rattle.tcp_streams.proofs.Words.{◌≡◌, ℕ, List, Option, Source, length, ◌++◌}
use Rattle.tcp_streams.specs.{code.Grown.Growth, code.Side.IsNextPiece}
use Rattle.tcp_streams.proofs.{Filling.IsGrowing}
use Rattle.tcp_streams.proofs.side_stage.SideStage.take_piece.Given as goal

-- the pieces so far were handed on
abbrev pub invariant-loop-piece : goal.invariant-loop-piece
invariant-loop-piece g l = record {
  grows : (sources : ℕ → Option Source) (grown : List Growth) → g.V.GrowthVisitor.after grown l.fn.visitor
      → IsNextPiece sources l.fn.self.side grown l.fn.self.flow l.x
      → ((more : List Growth) × g.V.GrowthVisitor.after (grown ++ more) l.visitor
      × IsGrowing sources l.fn.self.side l.x l.payload l.fn.self.flow l.self.flow more);
  side : l.self.side ≡ l.fn.self.side;
  initial : l.self.initial_number ≡ l.fn.self.initial_number;
}

abbrev pub decreases-loop-piece : goal.decreases-loop-piece
decreases-loop-piece g l = length l.self.flow.kept.entries
