-- A worked example of growth: a hole, bytes behind it, one of them sent again, and the segment that fills it
-- (RFC 9293, 3.4). Each stage is the stage before it and one segment more.
use Rattle.std.specs.Prelude.{◌≡◌, ℕ, ◌*◌, ◌++◌, true, false, List, [], ◌∷◌, map, take, Option, Some, None}
use Rattle.audit_terms.specs.declared.sides.Side.TheVariants.{Client, Server}
use Rattle.packet_heads.specs.declared.packets.Segment.{Segment}
use Rattle.tcp_streams.specs.Sequence.{Source, arrival, source}
use Rattle.tcp_streams.specs.code.Grown.{Growth, arrivals_grown, bytes_grown, of_side}
use Rattle.tcp_streams.specs.examples.Captured.{endpoint, segment}

-- the client's segment in this record, whose payload of this length begins at an index of a hundred times the record
abbrev sent : (number seq length : ℕ) → Segment
sent number seq length = segment number (endpoint 1 40000) (endpoint 2 80) seq false true (number * 100) length

-- a byte of a record, at this index of the capture
abbrev byte_of : (number index : ℕ) → Option Source
byte_of number index = Some (record { rec = number; nanos = number * 1000; index = index })

-- record 3 brings offsets 0 and 1, record 4 offsets 4 and 5, record 5 offsets 5 and 6, and record 6 offsets 2 to 4
abbrev segments : List Segment
segments = sent 3 1001 2 ∷ sent 4 1005 2 ∷ sent 5 1006 2 ∷ sent 6 1003 3 ∷ []

-- the sources of the first eight offsets after so many segments
abbrev after : ℕ → List (Option Source)
after count = map (source 1000 (take count segments)) (0 ∷ 1 ∷ 2 ∷ 3 ∷ 4 ∷ 5 ∷ 6 ∷ 7 ∷ [])

abbrev pub RunBeforeHole : Type 0
RunBeforeHole =
    after 2 ≡ byte_of 3 300 ∷ byte_of 3 301 ∷ None ∷ None ∷ byte_of 4 400 ∷ byte_of 4 401 ∷ None ∷ None ∷ []

-- behind the hole, record 5 brings the offset that record 4 left free, and no other
abbrev pub KeptBehindHole : Type 0
KeptBehindHole =
    after 3
    ≡ byte_of 3 300 ∷ byte_of 3 301 ∷ None ∷ None ∷ byte_of 4 400 ∷ byte_of 4 401 ∷ byte_of 5 501 ∷ None ∷ []

-- the hole is filled, and what was behind it stays
abbrev pub FilledHole : Type 0
FilledHole =
    after 4
    ≡ byte_of 3 300 ∷ byte_of 3 301 ∷ byte_of 6 600 ∷ byte_of 6 601
    ∷ byte_of 4 400 ∷ byte_of 4 401 ∷ byte_of 5 501 ∷ None ∷ []

-- the run grew from 2 bytes to 7: all five arrive with record 6, and those before it when they did
abbrev pub ArrivalsOfFilledHole : Type 0
ArrivalsOfFilledHole =
    map (arrival (source 1000 segments)) (0 ∷ 1 ∷ 2 ∷ 3 ∷ 4 ∷ 5 ∷ 6 ∷ [])
    ≡ byte_of 3 300 ∷ byte_of 3 300
    ∷ byte_of 6 600 ∷ byte_of 6 600 ∷ byte_of 6 600 ∷ byte_of 6 600 ∷ byte_of 6 600 ∷ []

-- what the client's flow grew by, as it is handed on: two bytes with record 3, and with record 6 those that it brings,
-- and then those behind the hole, in two pieces
abbrev grew : (rec : ℕ) → List ℕ → Growth
grew rec bytes = record { side = Client; bytes = bytes; rec = rec; nanos = rec * 1000 }

abbrev handed_on : List Growth
handed_on = grew 3 (10 ∷ 11 ∷ []) ∷ grew 6 (12 ∷ 13 ∷ []) ∷ grew 6 (14 ∷ 15 ∷ []) ∷ grew 6 (16 ∷ []) ∷ []

-- what came with one record is one arrival
abbrev pub ArrivalsOfGrowths : Type 0
ArrivalsOfGrowths =
    arrivals_grown 0 handed_on
    ≡ record { upto = 2; rec = 3; nanos = 3000 } ∷ record { upto = 7; rec = 6; nanos = 6000 } ∷ []

abbrev pub BytesOfGrowths : Type 0
BytesOfGrowths =
    bytes_grown (of_side Client (handed_on ++ record { side = Server; bytes = 9 ∷ []; rec = 7; nanos = 0 } ∷ []))
    ≡ 10 ∷ 11 ∷ 12 ∷ 13 ∷ 14 ∷ 15 ∷ 16 ∷ []
