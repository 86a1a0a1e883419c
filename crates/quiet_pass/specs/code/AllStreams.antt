-- All streams, in rows or in full. No public clause cites this.
use Rattle.std.specs.Prelude.{◌≡◌, ◌≢◌, ℕ, ◌<◌, Bool, true, is_some}
use Rattle.audit_terms.specs.declared.stream_state.Stream.{Stream}
use Rattle.quiet_pass.specs.code.Streams.{AreStreams}
use Rattle.quiet_pass.specs.code.WholeStreams.{AreListed, HaveRoomIn}
use Rattle.quiet_pass.specs.declared.all_streams.AllStreams.{AllStreams}
use Rattle.quiet_pass.specs.declared.all_streams.AllStreams.TheVariants.{Rows, Whole}

-- the streams that are kept so
abbrev pub AreKept : (streams : ℕ → Stream) → AllStreams → Type 0
AreKept streams (Rows rows) = AreStreams streams rows
AreKept streams (Whole whole) = AreListed streams whole.list.items

-- there are streams that are kept so, and their credits have room
abbrev pub HoldRoom : AllStreams → Type 0
HoldRoom kept = (streams : ℕ → Stream) × AreKept streams kept × HaveRoomIn streams

-- this is a stream now, and no other stream changes
abbrev pub IsKeptNow : (stream : ℕ) → (entry : Stream) → (old new : AllStreams) → Type 0
IsKeptNow stream entry old new = (streams next : ℕ → Stream) → (0 < stream → next stream ≡ entry)
    → ((other : ℕ) → 0 < other → other ≢ stream → next other ≡ streams other) → AreKept streams old → AreKept next new

-- a change moves no row
abbrev pub moves_none : AllStreams → Bool
moves_none (Rows rows) = is_some rows.shifted
moves_none (Whole whole) = true
