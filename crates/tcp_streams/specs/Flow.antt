-- The flow of a side (RFC 9293, 3.4): the longest run of its stream from offset 0 that the capture shows,
-- when its bytes were there, and whether bytes are missing before later ones.
use Rattle.std.specs.Prelude.{◌≡◌, ℕ, ◌<◌, ◌≤◌, false, nat_lt, List, [], length, slice_get, find, Option, None, Some}
use Rattle.std.specs.Prelude.{IsSome, IsSomeAnd, IsTrue}
use Rattle.packet_heads.specs.declared.packets.Segment.{Segment}
use Rattle.tcp_streams.specs.declared.flows.Arrival.{Arrival}
use Rattle.tcp_streams.specs.declared.flows.Flow.{Flow}
use Rattle.tcp_streams.specs.Arrivals.{Rises}
use Rattle.tcp_streams.specs.Bytes.{bytes_of}
use Rattle.tcp_streams.specs.Sequence.{Source, arrival, end_of_offsets, source}

-- the longest run from 0: every offset below n has a source, and n itself has none
pub record IsLongestRun (sources : ℕ → Option Source) (n : ℕ) : Type 0 where
  pub within : n ≤ end_of_offsets
  pub covered : (o : ℕ) → o < n → IsSome (sources o)
  pub longest : n < end_of_offsets → sources n ≡ None

-- each byte is the capture's at its source's index
abbrev pub AreBytes : List ℕ → (ℕ → Option Source) → List ℕ → Type 0
AreBytes capture sources bytes =
    (o : ℕ) → o < length bytes
    → IsSomeAnd (sources o) (λ (s : Source). slice_get capture s.index ≡ slice_get bytes o)

-- the arrival of byte o
abbrev pub arrival_at : List Arrival → ℕ → Option Arrival
arrival_at arrivals o = find (λ (a : Arrival). nat_lt o a.upto) arrivals

-- the arrival bears the record and the time of the source
abbrev pub IsArrivalOf : Arrival → Option Source → Type 0
IsArrivalOf a s = IsSomeAnd s (λ (x : Source). (a.rec ≡ x.rec) × (a.nanos ≡ x.nanos))

-- each byte arrives with the last of the bytes up to it
abbrev pub AreArrivals : (ℕ → Option Source) → List Arrival → ℕ → Type 0
AreArrivals sources arrivals n =
    (o : ℕ) → o < n → IsSomeAnd (arrival_at arrivals o) (λ (a : Arrival). IsArrivalOf a (arrival sources o))

-- there is a gap, at the flow's length, exactly where some offset past it has a source
abbrev pub IsGap : (ℕ → Option Source) → ℕ → Option ℕ → Type 0
IsGap sources n None = (o : ℕ) → n < o → o < end_of_offsets → sources o ≡ None
IsGap sources n (Some g) = (g ≡ n) × ((o : ℕ) × (n < o) × (o < end_of_offsets) × IsSome (sources o))

-- the bytes, their arrivals and the gap are those of the flow that these sources make
pub record IsFlow
    (capture : List ℕ) (sources : ℕ → Option Source) (bytes : List ℕ) (arrivals : List Arrival) (gap : Option ℕ)
    : Type 0 where
  pub run : IsLongestRun sources (length bytes)
  pub bytes_are : AreBytes capture sources bytes
  pub rises : Rises 0 0 arrivals (length bytes)
  pub arrivals_are : AreArrivals sources arrivals (length bytes)
  pub gap_is : IsGap sources (length bytes) gap

-- the flow of segments, from the initial sequence number on; without such a number it is empty and not started
abbrev pub IsFlowFrom : Option ℕ → List ℕ → List Segment → Flow → Type 0
IsFlowFrom (Some isn) capture segments flow =
    IsTrue flow.started × IsFlow capture (source isn segments) (bytes_of flow) flow.arrivals.items flow.gap
IsFlowFrom None capture segments flow =
    (flow.started ≡ false) × (flow.pieces.items ≡ []) × (flow.arrivals.items ≡ []) × (flow.gap ≡ None)
