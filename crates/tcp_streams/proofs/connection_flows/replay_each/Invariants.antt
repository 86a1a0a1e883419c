use Rattle.tcp_streams.proofs.Words.{◌≡◌, ℕ, List, ◌++◌, drop, take}
use Rattle.tcp_streams.specs.code.{Side.Sent, Taken.AreSameSides, Taken.AreTaken}
use Rattle.tcp_streams.specs.code.Flows.{HasSegments, MayFollow, last_of, payloads}
use Rattle.tcp_streams.proofs.connection_flows.replay_each.Given as goal

-- those before this index were taken
abbrev pub invariant-loop-segment : goal.invariant-loop-segment
invariant-loop-segment g l = record {
  same : AreSameSides l.fn.both l.both;
  taken : (taken : List Sent) (low : ℕ) (sent : List Sent) → AreTaken g.V.GrowthVisitor.after taken low l.fn.both
      → HasSegments sent l.waiting → MayFollow taken low sent
      → (l.rest ≡ payloads (drop l.segment-index sent))
      × AreTaken g.V.GrowthVisitor.after (taken ++ take l.segment-index sent)
      (last_of low (take l.segment-index sent)) l.both;
}
