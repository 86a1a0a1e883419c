-- Worked examples: the findings of a connection, and the stalls that they tell of.
use Rattle.std.specs.Prelude.{◌≡◌, ℕ, ◌*◌, pos, ◌-ℤ◌, ℤ, List, [], ◌∷◌, Option, Some, None}
use Rattle.audit_terms.specs.declared.sides.Side.{Side}
use Rattle.audit_terms.specs.declared.sides.Side.TheVariants.{Client, Server}
use Rattle.audit_terms.specs.declared.frames.Body.TheVariants.{Ping}
use Rattle.audit_terms.specs.declared.frames.Frame.{Frame}
use Rattle.audit_terms.specs.declared.kinds.Kind.TheVariants.{ConnectionStallBegin, ConnectionStallEnd}
use Rattle.audit_terms.specs.declared.kinds.Kind.TheVariants.{StreamStallBegin, StreamStallEnd, StreamOverrun}
use Rattle.audit_terms.specs.declared.kinds.Kind.TheVariants.{NotOpened}
use Rattle.audit_terms.specs.Finding.{finding_at}
use Rattle.audit_report.specs.Stalls.{stalls}
use Rattle.audit_report.specs.declared.stalls.Stall.{Stall}

-- a frame of this number, captured at this many microseconds
abbrev frame_at : (number micros : ℕ) → Frame
frame_at number micros = record {
  number = number;
  side = Client;
  rec = number;
  nanos = micros * 1000;
  code = 6;
  flags = 0;
  stream = 0;
  length = 8;
  body = Ping;
}

abbrev stall : Side → (stream from : ℕ) → (to : Option ℕ) → (nanos : ℤ) → Stall
stall side stream from to nanos = record { side = side; stream = stream; from = from; to = to; nanos = nanos }

abbrev frames : List Frame
frames = frame_at 9 11 ∷ frame_at 10 12 ∷ frame_at 11 13 ∷ frame_at 13 15 ∷ []

-- the connection's credit is used up, granted, and used up again
abbrev pub StallEndsThenOverrun : Type 0
StallEndsThenOverrun = stalls frames (
    finding_at ConnectionStallBegin 9 0 Client (pos 0) ∷ finding_at StreamStallBegin 9 1 Client (pos 0)
    ∷ finding_at ConnectionStallEnd 10 0 Client (pos 1) ∷ finding_at StreamOverrun 11 1 Client (pos 0 -ℤ pos 1)
    ∷ finding_at ConnectionStallBegin 11 0 Client (pos 0) ∷ [])
    ≡ stall Client 0 9 (Some 10) (pos 1000) ∷ stall Client 1 9 None (pos 0) ∷ stall Client 0 11 None (pos 0) ∷ []

-- a connection error is the last finding: what would end the stalls stands past it
abbrev pub StallsStayOpen : Type 0
StallsStayOpen = stalls frames (
    finding_at ConnectionStallBegin 9 0 Client (pos 0) ∷ finding_at StreamStallBegin 9 1 Client (pos 0)
    ∷ finding_at NotOpened 10 7 Client (pos 0) ∷ [])
    ≡ stall Client 0 9 None (pos 0) ∷ stall Client 1 9 None (pos 0) ∷ []

-- two ends of one window stand after its begin
abbrev pub FirstEndCounts : Type 0
FirstEndCounts = stalls frames (
    finding_at ConnectionStallBegin 10 0 Client (pos 0) ∷ finding_at StreamStallBegin 10 1 Client (pos 0)
    ∷ finding_at StreamStallEnd 11 1 Client (pos 0) ∷ finding_at StreamStallEnd 13 1 Client (pos 0) ∷ [])
    ≡ stall Client 0 10 None (pos 0) ∷ stall Client 1 10 (Some 11) (pos 1000) ∷ []

-- the server's end on stream 1 ends the server's stall there, and not the client's, which began first
abbrev pub BothSidesStall : Type 0
BothSidesStall = stalls frames (
    finding_at StreamStallBegin 9 1 Client (pos 0) ∷ finding_at StreamStallBegin 10 1 Server (pos 0)
    ∷ finding_at StreamStallEnd 11 1 Server (pos 5) ∷ finding_at StreamStallEnd 13 1 Client (pos 7) ∷ [])
    ≡ stall Client 1 9 (Some 13) (pos 4000) ∷ stall Server 1 10 (Some 11) (pos 1000) ∷ []

-- frame 2 has the earlier time
abbrev pub ClockGoesBack : Type 0
ClockGoesBack = stalls (frame_at 1 5 ∷ frame_at 2 3 ∷ []) (
    finding_at StreamStallBegin 1 5 Client (pos 0) ∷ finding_at StreamStallEnd 2 5 Client (pos 7) ∷ [])
    ≡ stall Client 5 1 (Some 2) (pos 0 -ℤ pos 2000) ∷ []
