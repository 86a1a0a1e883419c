-- The intervals that `assemble` works with: runs of offsets, each from one segment. No public clause cites these.
use Rattle.std.specs.Prelude.{◌≡◌, ℕ, ◌+◌, ◌-◌, ◌<◌, ◌≤◌, ◌^◌, Bool, ◌&&◌, nat_lt, nat_le, min}
use Rattle.std.specs.Prelude.{if◌then◌else◌, List, [], ◌∷◌, ◌++◌, Option, None, Some, IfSome, option_and_then, sum_by}
use Rattle.std.specs.List.{slice_range}
use Rattle.packet_heads.specs.code.Order.{PayloadsRise}
use Rattle.packet_heads.specs.declared.packets.Packet.{Packet}
use Rattle.packet_heads.specs.declared.packets.Segment.{Segment}
use Rattle.tcp_streams.specs.declared.interval.Interval.{Interval}
use Rattle.tcp_streams.specs.declared.started_side.StartedSide.{StartedSide}
use Rattle.tcp_streams.specs.declared.flows.Arrival.{Arrival}
use Rattle.tcp_streams.specs.Members.{is_sent_by}
use Rattle.tcp_streams.specs.Packets.{segment_of}
use Rattle.tcp_streams.specs.Sequence.{Source, end_of_offsets, modulus, payload_length, start_of}

-- not empty, of offsets that count, and with room for its indexes
pub record IsInterval (x : Interval) : Type 0 where
  pub some : x.from < x.upto
  pub counts : x.upto ≤ end_of_offsets
  pub room : x.index + (x.upto - x.from) < 2 ^ 32

-- an interval of bytes of a capture of this size
pub record IsInside (size : ℕ) (x : Interval) : Type 0 where
  pub interval : IsInterval x
  pub captured : x.index + (x.upto - x.from) ≤ size

abbrev pub holds : Interval → ℕ → Bool
holds x o = nat_le x.from o && nat_lt o x.upto

-- what the interval brings to an offset that it holds
abbrev pub source_in : Interval → ℕ → Source
source_in x o = record { rec = x.rec; nanos = x.nanos; index = x.index + (o - x.from) }

-- what the first interval that holds the offset brings to it
abbrev pub at : List Interval → ℕ → Option Source
at [] o = None
at (x ∷ xs) o = if holds x o then Some (source_in x o) else at xs o

-- the two bring the same to each offset that counts
abbrev pub IsSame : (ℕ → Option Source) → (ℕ → Option Source) → Type 0
IsSame F G = (o : ℕ) → o < end_of_offsets → F o ≡ G o

-- how many offsets the intervals hold, each counted as often as it is held
abbrev pub width : Interval → ℕ
width x = x.upto - x.from

abbrev pub size_of : List Interval → ℕ
size_of xs = sum_by width xs

-- the part of an interval between two offsets in it
abbrev pub part_of : Interval → ℕ → ℕ → Interval
part_of x low high = record { from = low; upto = high; index = x.index + (low - x.from); rec = x.rec; nanos = x.nanos }

-- the offsets from one up to another, from the payload byte `skipped` of the segment on, if there are any
abbrev pub stretch : Segment → ℕ → ℕ → ℕ → Option Interval
stretch s skipped from upto =
    if nat_lt from upto
    then Some (record { from = from; upto = upto; index = s.lo + skipped; rec = s.rec; nanos = s.nanos })
    else None

-- the offsets that count which the segment covers: its payload begins at one of them, or comes round to 0
abbrev pub piece : ℕ → Segment → Option Interval
piece initial_number s =
    if nat_lt (start_of initial_number s) end_of_offsets
    then stretch s 0 (start_of initial_number s) (min (start_of initial_number s + payload_length s) end_of_offsets)
    else stretch s (modulus - start_of initial_number s) 0 (start_of initial_number s + payload_length s - modulus)

-- the segment of a member, if it is the side's
abbrev pub side_segment : StartedSide → ℕ → Option Segment
side_segment of m =
    option_and_then (λ s. if is_sent_by of.connection.now of.side s then Some s else None)
    (segment_of of.packets.now m)

-- the piece of a member, if it is the side's
abbrev pub member_piece : StartedSide → ℕ → Option Interval
member_piece of m = option_and_then (piece of.initial_number) (side_segment of m)

-- the payloads stand one after the other, none past 2 ^ 31
abbrev pub PayloadsFit : List Packet → Type 0
PayloadsFit packets = (size : ℕ) × (size < 2 ^ 31) × PayloadsRise 0 size packets

-- the bytes of the intervals, one after the other
abbrev pub bytes_in : List ℕ → List Interval → List ℕ
bytes_in capture [] = []
bytes_in capture (x ∷ xs) = slice_range capture x.index (x.index + width x) ++ bytes_in capture xs

-- bytes up to an offset arrive with the interval's record
abbrev pub arrival_to : Interval → ℕ → Arrival
arrival_to x upto = record { upto = upto; rec = x.rec; nanos = x.nanos }

-- the byte stands in the capture, and its record has a number and a time
abbrev pub IsCaptured : ℕ → Source → Type 0
IsCaptured size s = (s.index < size) × (0 < s.rec) × (s.nanos < 2 ^ 63)

abbrev pub AreCaptured : ℕ → (ℕ → Option Source) → Type 0
AreCaptured size sources = (o : ℕ) → o < end_of_offsets → IfSome (sources o) (IsCaptured size)
