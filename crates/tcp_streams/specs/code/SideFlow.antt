-- What a flow's stage stands for while the side's segments come one by one. No public clause cites these.
use Rattle.std.specs.Prelude.{◌≡◌, ℕ, ◌<◌, ◌≤◌, List, [], ◌∷◌, Option, Some, IsSome, map, option_map}
use Rattle.std.specs.BTreeMap.{BTreeMap, get}
use Rattle.std.specs.Option.{option_or}
use Rattle.std.specs.Ordering.{nat_cmp}
use Rattle.tcp_streams.specs.declared.interval.Interval.{Interval}
use Rattle.tcp_streams.specs.declared.interval.Piece.{Piece}
use Rattle.tcp_streams.specs.declared.side_flow.SideFlow.{SideFlow}
use Rattle.tcp_streams.specs.Flow.{IsLongestRun}
use Rattle.tcp_streams.specs.Sequence.{Source, end_of_offsets}
use Rattle.tcp_streams.specs.code.Interval.{IsInterval, at, source_in}

-- the intervals of pieces
abbrev pub intervals : {K : Type 0} → List (Piece K) → List Interval
intervals pieces = map (λ p. p.interval) pieces

-- the interval that is kept at a first offset
abbrev pub kept_at : {K : Type 0} → BTreeMap ℕ (Piece K) → ℕ → Option Interval
kept_at kept k = option_map (λ p. p.interval) (get nat_cmp kept k)

-- of each interval that is kept, this is kept
abbrev pub AllHold : {K : Type 0} → (Interval → K → Type 0) → BTreeMap ℕ (Piece K) → Type 0
AllHold holds kept = (k : ℕ) (p : Piece _) → get nat_cmp kept k ≡ Some p → holds p.interval p.content

-- what is kept at this first offset holds the other
pub record IsHeldAt (kept : ℕ → Option Interval) (o k : ℕ) (x : Interval) : Type 0 where
  pub is_kept : kept k ≡ Some x
  pub from : k ≤ o
  pub upto : o < x.upto

-- something that is kept holds the offset
abbrev pub IsHeld : (ℕ → Option Interval) → ℕ → Type 0
IsHeld kept o = (k : ℕ) × (x : Interval) × IsHeldAt kept o k x

-- an interval at its first offset, which is none below low
pub record IsPlaced (low k : ℕ) (x : Interval) : Type 0 where
  pub interval : IsInterval x
  pub keyed : x.from ≡ k
  pub behind : low ≤ k

-- what is kept of sources from low on: intervals at their first offsets, no two of which hold one offset, with
-- exactly what the sources bring
pub record AreKept (low : ℕ) (sources : ℕ → Option Source) (kept : ℕ → Option Interval) : Type 0 where
  pub placed : (k : ℕ) (x : Interval) → kept k ≡ Some x → IsPlaced low k x
  pub apart : (k l : ℕ) (x y : Interval) → kept k ≡ Some x → kept l ≡ Some y → k < l → x.upto ≤ l
  pub brought : (o k : ℕ) (x : Interval) → IsHeldAt kept o k x → sources o ≡ Some (source_in x o)
  pub complete : (o : ℕ) → low ≤ o → o < end_of_offsets → IsSome (sources o) → IsHeld kept o

-- the sources bring a byte at each offset below this one
pub record IsRun (sources : ℕ → Option Source) (n : ℕ) : Type 0 where
  pub within : n ≤ end_of_offsets
  pub covered : (o : ℕ) → o < n → IsSome (sources o)

-- the stage stands for these sources: their longest run has its length, and it keeps what they bring behind that
pub record IsSideFlow {K : Type 0} (sources : ℕ → Option Source) (flow : SideFlow K) : Type 0 where
  pub run : IsLongestRun sources flow.end
  pub kept : AreKept flow.end sources (kept_at flow.kept)

-- the sources, and what the interval brings where they have none
abbrev pub with_interval : (ℕ → Option Source) → Interval → ℕ → Option Source
with_interval sources x o = option_or (sources o) (at (x ∷ []) o)

-- the intervals follow each other from low on
abbrev pub Follows : ℕ → List Interval → Type 0
Follows low [] = Unit {0}
Follows low (x ∷ xs) = (x.from ≡ low) × IsInterval x × Follows x.upto xs

-- and end here
abbrev pub run_end : ℕ → List Interval → ℕ
run_end low [] = low
run_end low (x ∷ xs) = run_end x.upto xs

-- the intervals bring what the sources bring from one offset up to another
pub record IsGrowth (sources : ℕ → Option Source) (low high : ℕ) (run : List Interval) : Type 0 where
  pub follows : Follows low run
  pub reaches : run_end low run ≡ high
  pub brings : (o : ℕ) → low ≤ o → o < high → sources o ≡ at run o
