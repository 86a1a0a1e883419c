-- By what the flows of a connection grow, in the order in which their bytes are handed on: a flow is all of them that
-- are its side's.
use Rattle.std.specs.Prelude.{◌≡◌, ◌⊎◌, ℕ, ◌+◌, ◌<◌, ◌^◌, ◌==◌, if◌then◌else◌, All, List, [], ◌∷◌, ◌++◌, filter}
use Rattle.std.specs.Prelude.{length}
use Rattle.audit_terms.specs.Side.{is_side}
use Rattle.audit_terms.specs.declared.sides.Side.{Side}
use Rattle.tcp_streams.specs.declared.flows.Arrival.{Arrival}

-- bytes of a side that follow those before, and are there with this record
pub record Growth : Type 0 where
  pub side : Side
  pub bytes : List ℕ
  pub rec : ℕ
  pub nanos : ℕ

-- the growths of one side, in order
abbrev pub of_side : Side → List Growth → List Growth
of_side side grown = filter (λ (g : Growth). is_side side g.side) grown

-- their bytes
abbrev pub bytes_grown : List Growth → List ℕ
bytes_grown [] = []
bytes_grown (g ∷ later) = g.bytes ++ bytes_grown later

-- an arrival before others; what follows with the same record is one with it
abbrev pub with_arrival : Growth → (upto : ℕ) → List Arrival → List Arrival
with_arrival g upto [] = record { upto = upto; rec = g.rec; nanos = g.nanos } ∷ []
with_arrival g upto (a ∷ later) =
    if a.rec == g.rec then a ∷ later else record { upto = upto; rec = g.rec; nanos = g.nanos } ∷ a ∷ later

-- when they were there: an arrival for each record, from an offset on
abbrev pub arrivals_grown : (low : ℕ) → List Growth → List Arrival
arrivals_grown low [] = []
arrivals_grown low (g ∷ later) =
    with_arrival g (low + length g.bytes) (arrivals_grown (low + length g.bytes) later)

-- a growth before another: of a record before its, or of the same record, and so of the same side
abbrev pub ComesBefore : Growth → Growth → Type 0
ComesBefore g h = (g.rec < h.rec) ⊎ ((g.rec ≡ h.rec) × (g.nanos ≡ h.nanos) × (g.side ≡ h.side))

-- the growth comes next, behind these: the flows of both sides stay shorter than 2 ^ 31 together
pub record IsNextGrowth (grown : List Growth) (g : Growth) : Type 0 where
  pub some : 0 < length g.bytes
  pub room : length (bytes_grown grown) + length g.bytes < 2 ^ 31
  pub numbered : 0 < g.rec
  pub timely : g.nanos < 2 ^ 63
  pub behind : All (λ (h : Growth). ComesBefore h g) grown
