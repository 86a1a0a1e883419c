-- Short captures of segments, for the worked examples: each segment is spelled by its record, its sender, its sequence
-- number and its payload.
use Rattle.std.specs.Prelude.{ℕ, ◌+◌, ◌*◌, Bool, true, false, List, map}
use Rattle.packet_heads.specs.declared.packets.Endpoint.{Endpoint}
use Rattle.packet_heads.specs.declared.packets.Packet.{Packet}
use Rattle.packet_heads.specs.declared.packets.Packet.TheVariants.{Segment as Carried}
use Rattle.packet_heads.specs.declared.packets.Segment.{Segment}

-- an address and a port
abbrev pub endpoint : (address port : ℕ) → Endpoint
endpoint address port = record { address = address; port = port }

-- a segment, captured at a thousand nanoseconds a record, with a payload of this length from this index on
abbrev pub segment :
    (number : ℕ) → (from to : Endpoint) → (seq : ℕ) → (syn ack : Bool) → (first length : ℕ) → Segment
segment number from to seq syn ack first length = record {
  rec = number;
  nanos = number * 1000;
  from = from;
  to = to;
  seq = seq;
  syn = syn;
  ack = ack;
  lo = first;
  hi = first + length;
  snapped = false;
}

-- a SYN, a SYN with ACK, and a segment with neither, without payload
abbrev pub syn : (number : ℕ) → (from to : Endpoint) → (seq : ℕ) → Segment
syn number from to seq = segment number from to seq true false 0 0

abbrev pub syn_ack : (number : ℕ) → (from to : Endpoint) → (seq : ℕ) → Segment
syn_ack number from to seq = segment number from to seq true true 0 0

abbrev pub plain : (number : ℕ) → (from to : Endpoint) → (seq : ℕ) → Segment
plain number from to seq = segment number from to seq false true 0 0

-- the packets of a capture of these segments alone
abbrev pub packets : List Segment → List Packet
packets segments = map Carried segments
