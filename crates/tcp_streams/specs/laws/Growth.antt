-- Laws of growth: one more segment adds to a side's stream, and changes nothing that is there. A reader that takes the
-- segments one by one may hand on each byte as soon as no hole is before it.
use Rattle.std.specs.Prelude.{◌≡◌, ℕ, ◌<◌, ◌≤◌, nat_lt, if◌then◌else◌, All, List, [], ◌∷◌, ◌++◌, length, take}
use Rattle.std.specs.Prelude.{Option, IsSome}
use Rattle.std.specs.Option.{option_or}
use Rattle.packet_heads.specs.declared.packets.Segment.{Segment}
use Rattle.tcp_streams.specs.declared.flows.Arrival.{Arrival}
use Rattle.tcp_streams.specs.Flow.{IsFlow, IsLongestRun}
use Rattle.tcp_streams.specs.Sequence.{arrival, brings, source}

-- the segment's record comes after those of the segments so far
abbrev pub ComesAfter : List Segment → Segment → Type 0
ComesAfter segments s = All (λ (t : Segment). t.rec < s.rec) segments

-- a later segment brings a byte to an offset only where none was, be it in the run or behind a hole
abbrev pub SourceGrows : Type 0
SourceGrows =
    (initial_number : ℕ) (segments : List Segment) (s : Segment) (o : ℕ) → ComesAfter segments s
    → source initial_number (segments ++ s ∷ []) o ≡ option_or (source initial_number segments o)
    (brings initial_number s o)

-- so a source stays, once it is there
abbrev pub SourceStays : Type 0
SourceStays =
    (initial_number : ℕ) (segments : List Segment) (s : Segment) (o : ℕ) → ComesAfter segments s
    → IsSome (source initial_number segments o)
    → source initial_number (segments ++ s ∷ []) o ≡ source initial_number segments o

-- each offset by which the longest run grows arrives with the new segment, which brought the first of them
abbrev pub NewBytesArrive : Type 0
NewBytesArrive =
    (initial_number : ℕ) (segments : List Segment) (s : Segment) (n m o : ℕ) → ComesAfter segments s
    → IsLongestRun (source initial_number segments) n → IsLongestRun (source initial_number (segments ++ s ∷ [])) m
    → n ≤ o → o < m
    → arrival (source initial_number (segments ++ s ∷ [])) o ≡ brings initial_number s n

-- what the segment adds to the arrivals of a flow that grows from n to m bytes
abbrev pub arrival_of_growth : Segment → (n m : ℕ) → List Arrival
arrival_of_growth s n m = if nat_lt n m then record { upto = m; rec = s.rec; nanos = s.nanos } ∷ [] else []

-- a flow grows at its end alone
abbrev pub FlowGrows : Type 0
FlowGrows =
    (capture : List ℕ) (initial_number : ℕ) (segments : List Segment) (s : Segment) (bytes bytes' : List ℕ)
    (arrivals arrivals' : List Arrival) (gap gap' : Option ℕ) → ComesAfter segments s
    → IsFlow capture (source initial_number segments) bytes arrivals gap
    → IsFlow capture (source initial_number (segments ++ s ∷ [])) bytes' arrivals' gap'
    → (length bytes ≤ length bytes') × (take (length bytes) bytes' ≡ bytes)
    × (arrivals' ≡ arrivals ++ arrival_of_growth s (length bytes) (length bytes'))
