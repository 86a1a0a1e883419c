-- Worked examples of the preface and of frame headers (RFC 9113, 3.4 and 4.1), and of the order in which frames were
-- captured.
use Rattle.std.specs.Prelude.{◌≡◌, ℕ, ◌*◌, [], ◌∷◌, map}
use Rattle.audit_terms.specs.declared.frames.Body.TheVariants.{Ping, Content}
use Rattle.audit_terms.specs.declared.frames.Frame.{Frame}
use Rattle.h2_frames.specs.declared.side_frames.SideFrame.{SideFrame}
use Rattle.audit_terms.specs.declared.sides.Side.{Side}
use Rattle.audit_terms.specs.declared.sides.Side.TheVariants.{Client, Server}
use Rattle.tcp_streams.specs.declared.flows.Arrival.{Arrival}
use Rattle.h2_frames.specs.declared.spelling.Spelled.{Spelled}
use Rattle.h2_frames.specs.Header.{header_of}
use Rattle.h2_frames.specs.Preface.{preface}
use Rattle.h2_frames.specs.CaptureOrder.{captured, captured_from, capture_order}

-- the octets of a client's connection preface (3.4)
abbrev pub PrefaceOctets : Type 0
PrefaceOctets =
    preface
    ≡ 80 ∷ 82 ∷ 73 ∷ 32 ∷ 42 ∷ 32 ∷ 72 ∷ 84 ∷ 84 ∷ 80 ∷ 47 ∷ 50 ∷ 46 ∷ 48 ∷ 13 ∷ 10 ∷ 13 ∷ 10
    ∷ 83 ∷ 77 ∷ 13 ∷ 10 ∷ 13 ∷ 10 ∷ []

-- lengths of 24 bits, streams of 31: the bit before a stream has no meaning
abbrev pub FrameHeaders : Type 0
FrameHeaders =
    map header_of (
    (0 ∷ 0 ∷ 5 ∷ 0 ∷ 9 ∷ 128 ∷ 0 ∷ 0 ∷ 1 ∷ [])
    ∷ (1 ∷ 17 ∷ 112 ∷ 3 ∷ 4 ∷ 1 ∷ 2 ∷ 3 ∷ 4 ∷ [])
    ∷ (255 ∷ 255 ∷ 255 ∷ 255 ∷ 255 ∷ 255 ∷ 255 ∷ 255 ∷ 255 ∷ [])
    ∷ [])
    ≡ record { length = 5; code = 0; flags = 9; stream = 1 }
    ∷ record { length = 70000; code = 3; flags = 4; stream = 16909060 }
    ∷ record { length = 16777215; code = 255; flags = 255; stream = 2147483647 }
    ∷ []

abbrev arrived : (upto number : ℕ) → Arrival
arrived upto number = record { upto = upto; rec = number; nanos = number * 1000 }

-- a PING (17 bytes) and an empty DATA (9 bytes)
abbrev a_ping : Spelled
a_ping = record { header = record { length = 8; code = 6; flags = 0; stream = 0 }; body = Ping }

abbrev some_data : Spelled
some_data = record { header = record { length = 0; code = 0; flags = 0; stream = 1 }; body = Content }

-- a frame is there with its last byte: the PING begins in record 3 and ends in record 7, in which the first DATA stands
-- to the record's last byte; the second stands in record 8
abbrev pub LastByteArrives : Type 0
LastByteArrives =
    captured_from Client (arrived 24 2 ∷ arrived 28 3 ∷ arrived 50 7 ∷ arrived 59 8 ∷ []) 1 24
    (a_ping ∷ some_data ∷ some_data ∷ [])
    ≡ captured Client 1 (arrived 50 7) a_ping
    ∷ captured Client 2 (arrived 50 7) some_data
    ∷ captured Client 3 (arrived 59 8) some_data
    ∷ []

-- a frame of a side in this record, told by its type
abbrev frame : Side → (number in_record code : ℕ) → Frame
frame side number in_record code = record {
  number = number;
  side = side;
  rec = in_record;
  nanos = in_record * 1000;
  code = code;
  flags = 0;
  stream = 0;
  length = 0;
  body = Ping;
}

-- the same, before it has its number in the connection: this number is the one within its side
abbrev sent : Side → (number in_record code : ℕ) → SideFrame
sent side number in_record code = record { frame = frame side number in_record code }

-- by record, then by the number within the side, then the client's first; numbered from 1
abbrev pub FramesInOrder : Type 0
FramesInOrder =
    capture_order
    (sent Client 1 3 10 ∷ sent Client 2 5 11 ∷ sent Client 3 5 12 ∷ sent Client 4 9 13 ∷ [])
    (sent Server 1 4 20 ∷ sent Server 2 5 21 ∷ sent Server 3 5 22 ∷ sent Server 4 5 23 ∷ [])
    ≡ frame Client 1 3 10
    ∷ frame Server 2 4 20
    ∷ frame Client 3 5 11
    ∷ frame Server 4 5 21
    ∷ frame Client 5 5 12
    ∷ frame Server 6 5 22
    ∷ frame Server 7 5 23
    ∷ frame Client 8 9 13
    ∷ []

-- record 3 completes a frame of the client, record 5 two of the server, and record 7 one of the client: each time the
-- frames that were there stay where they are
abbrev pub FramesAsTheyCome : Type 0
FramesAsTheyCome =
    (capture_order (sent Client 1 3 10 ∷ []) [] ≡ frame Client 1 3 10 ∷ [])
    × (capture_order (sent Client 1 3 10 ∷ []) (sent Server 1 5 20 ∷ sent Server 2 5 21 ∷ [])
    ≡ frame Client 1 3 10 ∷ frame Server 2 5 20 ∷ frame Server 3 5 21 ∷ [])
    × (capture_order (sent Client 1 3 10 ∷ sent Client 2 7 11 ∷ []) (sent Server 1 5 20 ∷ sent Server 2 5 21 ∷ [])
    ≡ frame Client 1 3 10 ∷ frame Server 2 5 20 ∷ frame Server 3 5 21 ∷ frame Client 4 7 11 ∷ [])
