-- Worked examples of the server's windows, as those of the client stand in the other modules.
use Rattle.std.specs.Prelude.{◌≡◌, pos, ◌-ℤ◌, [], ◌∷◌}
use Rattle.audit_terms.specs.declared.sides.Side.TheVariants.{Client, Server}
use Rattle.audit_terms.specs.declared.kinds.Kind.TheVariants.{ConnectionOverrun, ConnectionStallBegin, SettingOverflow}
use Rattle.audit_terms.specs.declared.kinds.Kind.TheVariants.{StreamOverflow, StreamOverrun, StreamStallBegin}
use Rattle.audit_terms.specs.Finding.{finding_at}
use Rattle.audit_terms.specs.examples.Script.{headers_frame, data_frame, update_frame, initial_window_frame, ack_frame}
use Rattle.audit_core.specs.examples.Script.{audit_of}

-- 11 bytes on a stream where the client's settings left 10
abbrev pub ServerOverrunsStream : Type 0
ServerOverrunsStream =
    audit_of (
    initial_window_frame 5 Client 10 ∷ ack_frame 6 Server ∷ headers_frame 7 Client 1 ∷ data_frame 8 Server 1 11 ∷ [])
    ≡ finding_at StreamOverrun 8 1 Server (pos 0 -ℤ pos 1) ∷ finding_at StreamStallBegin 8 1 Server (pos 0 -ℤ pos 1)
    ∷ []

-- 65,536 bytes on the connection, on a stream that was granted more
abbrev pub ServerOverrunsConnection : Type 0
ServerOverrunsConnection =
    audit_of (
    headers_frame 5 Client 1 ∷ update_frame 6 Client 1 1000
    ∷ data_frame 7 Server 1 16384 ∷ data_frame 8 Server 1 16384 ∷ data_frame 9 Server 1 16384
    ∷ data_frame 10 Server 1 16384
    ∷ [])
    ≡ finding_at ConnectionOverrun 10 0 Server (pos 0 -ℤ pos 1)
    ∷ finding_at ConnectionStallBegin 10 0 Server (pos 0 -ℤ pos 1) ∷ []

-- a grant of the client that brings a stream one above the largest window
abbrev pub ServerOverflowsStream : Type 0
ServerOverflowsStream =
    audit_of (headers_frame 5 Client 1 ∷ update_frame 6 Client 1 2147418113 ∷ [])
    ≡ finding_at StreamOverflow 6 1 Server (pos 2147483648) ∷ []

-- an initial window of the client, one higher, that brings a stream one above the largest window
abbrev pub ServerOverflowsBySetting : Type 0
ServerOverflowsBySetting =
    audit_of (
    headers_frame 5 Client 1 ∷ update_frame 6 Client 1 2147418112 ∷ initial_window_frame 7 Client 65536
    ∷ ack_frame 8 Server ∷ [])
    ≡ finding_at SettingOverflow 8 1 Server (pos 2147483648) ∷ []
