-- The arrivals of a flow: byte o arrives with the first whose `upto` is above o.
use Rattle.std.specs.Prelude.{◌≡◌, ℕ, ◌<◌, List, [], ◌∷◌}
use Rattle.tcp_streams.specs.declared.flows.Arrival.{Arrival}

-- arrivals that rise in offset and in record, and end at the flow's length
abbrev pub Rises : ℕ → ℕ → List Arrival → ℕ → Type 0
Rises low rec [] high = low ≡ high
Rises low rec (a ∷ rest) high = (low < a.upto) × (rec < a.rec) × Rises a.upto a.rec rest high
