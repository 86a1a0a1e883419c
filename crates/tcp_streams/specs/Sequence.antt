-- What a side's segments bring to each offset of its stream (RFC 9293, 3.4): sequence numbers count
-- modulo 2 ^ 32 from the initial number, and a SYN takes a number of its own.
--
-- Where several segments bring a byte to one offset, the first record wins: this profile's own choice.
use Rattle.std.specs.Prelude.{ℕ, ◌+◌, ◌-◌, ◌%◌, ◌^◌, nat_lt, if◌then◌else◌, List, [], ◌∷◌, zero, suc, Option, None}
use Rattle.std.specs.Prelude.{Some}
use Rattle.packet_heads.specs.declared.packets.Segment.{Segment}

-- sequence numbers and offsets of 32 bits come round at this number
abbrev pub modulus : ℕ
modulus = 2 ^ 32

-- offsets from here on don't count: a flow is shorter than this
abbrev pub end_of_offsets : ℕ
end_of_offsets = 2 ^ 31

-- where the byte at an offset comes from: the record, its time, and the index of the byte in the capture
pub record Source : Type 0 where
  pub rec : ℕ
  pub nanos : ℕ
  pub index : ℕ

-- how many payload bytes the segment has
abbrev pub payload_length : Segment → ℕ
payload_length s = s.hi - s.lo

-- the offset of the segment's first payload byte, which is seq - initial_number - 1, and one more where the segment
-- is a SYN, modulo 2 ^ 32
abbrev pub start_of : ℕ → Segment → ℕ
start_of initial_number s = (s.seq + (if s.syn then 1 else 0) + (modulus - 1 - initial_number)) % modulus

-- which payload byte has the offset, if the segment is long enough: the offset less the first byte's
abbrev pub distance : ℕ → Segment → ℕ → ℕ
distance initial_number s o = (o + (modulus - start_of initial_number s)) % modulus

-- what the segment brings to the offset
abbrev pub brings : ℕ → Segment → ℕ → Option Source
brings initial_number s o =
    if nat_lt (distance initial_number s o) (payload_length s)
    then Some (record { rec = s.rec; nanos = s.nanos; index = s.lo + distance initial_number s o })
    else None

-- the one of the lesser record
abbrev pub earlier_of : Option Source → Option Source → Option Source
earlier_of None b = b
earlier_of (Some a) None = Some a
earlier_of (Some a) (Some b) = if nat_lt b.rec a.rec then Some b else Some a

-- the one of the greater record
abbrev pub later_of : Option Source → Option Source → Option Source
later_of None b = b
later_of (Some a) None = Some a
later_of (Some a) (Some b) = if nat_lt a.rec b.rec then Some b else Some a

-- the source of the byte at an offset: of the side's segments that cover it, the one of the least record
abbrev pub source : ℕ → List Segment → ℕ → Option Source
source initial_number [] o = None
source initial_number (s ∷ others) o = earlier_of (brings initial_number s o) (source initial_number others o)

-- when the stream is there up to an offset, the offset's byte included: the greatest record among the
-- sources of the offsets from 0
abbrev pub arrival : (ℕ → Option Source) → ℕ → Option Source
arrival sources zero = sources zero
arrival sources (suc o) = later_of (arrival sources o) (sources (suc o))
