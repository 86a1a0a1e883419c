-- The pass stands in order: what is said at a frame has the frame's number, and the numbers rise.
use Rattle.audit_core.proofs.Words.{AllByRecursion, AreFrom, at-connection, comes_after_is, settings_said, streams_said}
use Rattle.audit_core.proofs.Words.{AreAt, at-in_order, at-settings, comes_after, each-filter, from-append, precedes-at}
use Rattle.audit_core.proofs.Words.{Finding, at-append, at-local, at-stream, first_of, from-from, full_from, in_order}
use Rattle.audit_core.proofs.Words.{Frame, at-nil, from-at, full, item_of, next, said, side_of, step_of}
use Rattle.audit_core.proofs.Words.{IsInOrder, IsInRange, IsOrderly, PassState, local_said, promised_by, streams_of}
use Rattle.audit_core.proofs.Words.{IsOrderlyFrom, connection_said, in_order-append, in_order-ordered, ordered-in_order}
use Rattle.std.proofs.Common.{List, [], arith, ℕ, ◌++◌, ◌+◌, ◌<◌, ◌^◌, ◌∷◌, ◌≡◌}

-- all streams have 31 bits
abbrev pub AreStreams : List ℕ → Type 0
AreStreams streams = AllByRecursion (λ stream. stream < 2 ^ 31) streams

pub at-streams : (streams : List ℕ) (state : PassState) (frame : Frame) → AreStreams streams →
    AreAt frame.number (streams_said streams state frame)
at-streams [] state frame h = at-nil _
at-streams (stream ∷ streams) state frame h =
    at-append frame.number _ _
    (at-stream stream state.in_force.initial (state.streams stream) (step_of state.in_force frame stream) h.0)
    (at-streams streams state frame h.1)

-- what is said at a frame, before it is put in order
abbrev pub rows_of : List ℕ → PassState → Frame → List Finding
rows_of streams state frame =
    local_said (side_of frame.side state.previous) frame ++ settings_said state.in_force frame
    ++ connection_said state.connection (item_of state frame) ++ streams_said streams state frame

-- what is said at a frame has its number
pub at-said : (streams : List ℕ) (state : PassState) (frame : Frame) → AreStreams streams → IsInRange frame →
    AreAt frame.number (said streams state frame)
at-said streams state frame small h =
    at-in_order frame.number _ (at-append frame.number _ _ (at-append frame.number _ _
    (at-append frame.number _ _ (at-local frame h.stream (side_of frame.side state.previous))
    (at-settings frame h.stream state.in_force)) (at-connection state.connection (item_of state frame) h))
    (at-streams streams state frame small))

pub from-full_from : (streams : List ℕ) (state : PassState) (low : ℕ) (frames : List Frame) → AreStreams streams →
    IsOrderlyFrom low frames → AreFrom low (full_from streams state frames)
from-full_from streams state low [] small h = tt
from-full_from streams state low (frame ∷ frames) small h =
    from-append low _ _ (from-at low frame.number _ h.0 (at-said streams state frame small h.1).within)
    (from-from low (frame.number + 1) _ (omega arith)
    (from-full_from streams (next state frame) (frame.number + 1) frames small h.2))

-- the whole pass stands in order
pub in_order-full_from : (streams : List ℕ) (state : PassState) (low : ℕ) (frames : List Frame) → AreStreams streams →
    IsOrderlyFrom low frames → IsInOrder comes_after comes_after_is (full_from streams state frames)
in_order-full_from streams state low [] small h = tt
in_order-full_from streams state low (frame ∷ frames) small h =
    in_order-append comes_after comes_after_is (said streams state frame) (full_from streams (next state frame) frames)
    (in_order-ordered comes_after comes_after_is (rows_of streams state frame))
    (in_order-full_from streams (next state frame) (frame.number + 1) frames small h.2)
    (precedes-at frame.number _ _ (at-said streams state frame small h.1).within
    (from-full_from streams (next state frame) (frame.number + 1) frames small h.2))

streams-first_of : (stream : ℕ) (streams : List ℕ) → stream < 2 ^ 31 → AreStreams streams →
    AreStreams (first_of stream streams)
streams-first_of stream streams p h = grind (arith, each-filter)

-- the streams that orderly frames name
pub streams-streams_of : (low : ℕ) (frames : List Frame) → IsOrderlyFrom low frames → AreStreams (streams_of frames)
streams-streams_of low [] h = tt
streams-streams_of low (frame ∷ frames) h =
    streams-first_of frame.stream _ h.1.stream (streams-first_of (promised_by frame) _ (grind (arith, h.1.promised))
    (streams-streams_of (frame.number + 1) frames h.2))

pub findings_stand_in_order : (frames : List Frame) → IsOrderly frames → in_order (full frames) ≡ full frames
findings_stand_in_order frames h =
    grind (arith, ordered-in_order, comes_after_is, in_order-full_from, streams-streams_of)
