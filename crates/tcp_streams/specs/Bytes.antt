-- The bytes of a flow: they lie in the capture, in pieces that follow each other.
use Rattle.std.specs.Prelude.{ℕ, List, map}
use Rattle.std.specs.List.{concat}
use denote.Ref.{Bor}
use Rattle.tcp_streams.specs.declared.flows.Flow.{Flow}

-- the pieces' bytes, one piece after the other
abbrev pub joined : List (Bor (List ℕ)) → List ℕ
joined pieces = concat (map (λ (piece : Bor (List ℕ)). piece.now) pieces)

abbrev pub bytes_of : Flow → List ℕ
bytes_of flow = joined flow.pieces.items
