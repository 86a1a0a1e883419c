-- The frames of both sides as they were captured. A frame is there when its last byte arrives.
use Rattle.std.specs.Prelude.{ℕ, ◌+◌, ◌-◌, Bool, ◌==◌, ◌&&◌, ◌||◌, nat_lt, List, [], ◌∷◌, ◌++◌, unwrap_or}
use Rattle.tcp_streams.specs.declared.flows.Arrival.{Arrival}
use Rattle.tcp_streams.specs.Flow.{arrival_at}
use Rattle.audit_terms.specs.declared.sides.Side.{Side}
use Rattle.audit_terms.specs.declared.frames.Frame.{Frame}
use Rattle.h2_frames.specs.declared.side_frames.SideFrame.{SideFrame}
use Rattle.audit_terms.specs.Side.{side_order}
use Rattle.audit_terms.specs.Order.{ordered_by}
use Rattle.h2_frames.specs.declared.spelling.Spelled.{Spelled}

-- the arrival of the byte at this offset; each byte of a flow has one
abbrev pub byte_arrival : List Arrival → (offset : ℕ) → Arrival
byte_arrival arrivals offset =
    unwrap_or (arrival_at arrivals offset) (record { upto = 0; rec = 0; nanos = 0 })

-- a side's frame of this number within the side, whose last byte arrived so
abbrev pub captured : Side → (number : ℕ) → Arrival → Spelled → SideFrame
captured side number arrival frame = record {
  frame = record {
    number = number;
    side = side;
    rec = arrival.rec;
    nanos = arrival.nanos;
    code = frame.header.code;
    flags = frame.header.flags;
    stream = frame.header.stream;
    length = frame.header.length;
    body = frame.body;
  };
}

-- a side's frames, numbered within the side, the first of them from this number and this offset of the flow on
abbrev pub captured_from : Side → List Arrival → (number offset : ℕ) → List Spelled → List SideFrame
captured_from side arrivals number offset [] = []
captured_from side arrivals number offset (frame ∷ later) =
    let upto = offset + (9 + frame.header.length) in
    captured side number (byte_arrival arrivals (upto - 1)) frame ∷ captured_from side arrivals (number + 1) upto later

-- by the record at which the last byte arrived, then by the number within the side, then Client before Server
abbrev pub comes_after : SideFrame → SideFrame → Bool
comes_after x y =
    nat_lt y.frame.rec x.frame.rec
    || ((x.frame.rec == y.frame.rec)
    && (nat_lt y.frame.number x.frame.number
    || ((x.frame.number == y.frame.number) && nat_lt (side_order y.frame.side) (side_order x.frame.side))))

-- the frames of the connection, numbered one after the other, from this number on
abbrev pub numbered : (number : ℕ) → List SideFrame → List Frame
numbered number [] = []
numbered number (x ∷ later) = record x.frame { number = number } ∷ numbered (number + 1) later

-- the frames of both sides in the order of their capture, numbered from 1
abbrev pub capture_order : (client server : List SideFrame) → List Frame
capture_order client server = numbered 1 (ordered_by comes_after (client ++ server))
