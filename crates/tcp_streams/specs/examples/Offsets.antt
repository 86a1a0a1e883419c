-- Worked examples of what a side's segments bring to the offsets of its stream (RFC 9293, 3.4).
use Rattle.std.specs.Prelude.{◌≡◌, ℕ, ◌^◌, ◌-◌, ◌+◌, ◌*◌, true, false, [], ◌∷◌, map, Option, Some, None}
use Rattle.packet_heads.specs.declared.packets.Segment.{Segment}
use Rattle.tcp_streams.specs.Sequence.{Source, arrival, source}
use Rattle.tcp_streams.specs.examples.Captured.{endpoint, segment}

-- the client's segment in this record, whose payload of this length begins at an index of a hundred times the record
abbrev sent : (number seq length : ℕ) → Segment
sent number seq length = segment number (endpoint 1 40000) (endpoint 2 80) seq false true (number * 100) length

-- a byte of a record, at this index of the capture
abbrev byte_of : (number index : ℕ) → Option Source
byte_of number index = Some (record { rec = number; nanos = number * 1000; index = index })

-- sequence numbers come round within the payload of record 4, which comes again in record 5
abbrev wrapped : ℕ → Option Source
wrapped = source (2 ^ 32 - 4) (sent 3 1 2 ∷ sent 4 0 3 ∷ sent 5 (2 ^ 32 - 3) 3 ∷ [])

abbrev pub WrappedSources : Type 0
WrappedSources =
    map wrapped (0 ∷ 1 ∷ 2 ∷ 3 ∷ 4 ∷ 5 ∷ 6 ∷ [])
    ≡ byte_of 5 500 ∷ byte_of 5 501 ∷ byte_of 5 502 ∷ byte_of 4 400 ∷ byte_of 3 300 ∷ byte_of 3 301 ∷ None ∷ []

-- the first offset arrives last, and the others were there no earlier
abbrev pub WrappedArrivals : Type 0
WrappedArrivals = map (arrival wrapped) (0 ∷ 3 ∷ 5 ∷ []) ≡ byte_of 5 500 ∷ byte_of 5 500 ∷ byte_of 5 500 ∷ []

-- where records overlap, the first that brings an offset wins, be it before or after the others' bytes
abbrev pub FirstRecordWins : Type 0
FirstRecordWins =
    map (source 1000 (sent 3 1003 2 ∷ sent 4 1001 6 ∷ sent 5 1005 3 ∷ [])) (0 ∷ 1 ∷ 2 ∷ 3 ∷ 4 ∷ 5 ∷ 6 ∷ 7 ∷ [])
    ≡ byte_of 4 400 ∷ byte_of 4 401 ∷ byte_of 3 300 ∷ byte_of 3 301
    ∷ byte_of 4 404 ∷ byte_of 4 405 ∷ byte_of 5 502 ∷ None ∷ []

-- a SYN takes a number of its own: its payload begins at offset 0
abbrev pub PayloadOfSyn : Type 0
PayloadOfSyn =
    map (source 1000 (segment 1 (endpoint 1 40000) (endpoint 2 80) 1000 true false 100 2 ∷ [])) (0 ∷ 1 ∷ 2 ∷ [])
    ≡ byte_of 1 100 ∷ byte_of 1 101 ∷ None ∷ []

-- a segment that begins two bytes below offset 0 brings its third byte to it
abbrev pub BelowOffsetZero : Type 0
BelowOffsetZero =
    map (source 1000 (sent 3 999 4 ∷ [])) (0 ∷ 1 ∷ 2 ∷ (2 ^ 32 - 2) ∷ [])
    ≡ byte_of 3 302 ∷ byte_of 3 303 ∷ None ∷ byte_of 3 300 ∷ []

-- the last offset that counts is 2 ^ 31 - 1
abbrev pub LastOffset : Type 0
LastOffset =
    map (source 1000 (sent 3 (2 ^ 31 + 1000) 2 ∷ [])) ((2 ^ 31 - 2) ∷ (2 ^ 31 - 1) ∷ (2 ^ 31) ∷ [])
    ≡ None ∷ byte_of 3 300 ∷ byte_of 3 301 ∷ []
