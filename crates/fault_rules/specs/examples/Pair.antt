-- Worked examples: which SETTINGS an acknowledgement takes, and what it brings (RFC 9113, 6.5.3).
use Rattle.std.specs.Prelude.{◌≡◌, pos, List, [], ◌∷◌, ◌++◌}
use Rattle.audit_terms.specs.declared.sides.Side.TheVariants.{Client, Server}
use Rattle.audit_terms.specs.declared.kinds.Kind.TheVariants.{UnmatchedAck}
use Rattle.audit_terms.specs.declared.frames.Frame.{Frame}
use Rattle.audit_terms.specs.code.runs.Changes.{changes_of, settings_run}
use Rattle.audit_terms.specs.Finding.{finding_at}
use Rattle.audit_terms.specs.examples.Script.{data_frame, headers_frame, update_frame, initial_window_frame, ack_frame}
use Rattle.audit_terms.specs.examples.Script.{opening_frames, empty_change, window_change}

-- both sides' empty settings, then the server's initial window of 0, which counts from the client's acknowledgement
abbrev pub negative_window_script : List Frame
negative_window_script =
    opening_frames ++ headers_frame 5 Client 1 ∷ data_frame 6 Client 1 100
    ∷ initial_window_frame 7 Server 0 ∷ ack_frame 8 Client ∷ update_frame 9 Server 1 100 ∷ []

abbrev pub NegativeWindow : Type 0
NegativeWindow =
    (changes_of negative_window_script ≡ empty_change 3 Client ∷ empty_change 4 Server ∷ window_change 8 Client 0 ∷ [])
    × (settings_run negative_window_script ≡ [])

-- the oldest SETTINGS of the other side are taken first; a side's own are not taken by it
abbrev pub oldest_first_script : List Frame
oldest_first_script =
    initial_window_frame 1 Server 5 ∷ ack_frame 2 Server ∷ initial_window_frame 3 Server 6 ∷ ack_frame 4 Client
    ∷ ack_frame 5 Client ∷ ack_frame 6 Client ∷ []

abbrev pub OldestFirst : Type 0
OldestFirst =
    (changes_of oldest_first_script ≡ window_change 4 Client 5 ∷ window_change 5 Client 6 ∷ [])
    × (settings_run oldest_first_script
    ≡ finding_at UnmatchedAck 2 0 Server (pos 0) ∷ finding_at UnmatchedAck 6 0 Client (pos 0) ∷ [])

-- an acknowledgement takes nothing that is sent after it; without one, nothing comes into force
abbrev pub NothingToTake : Type 0
NothingToTake =
    (changes_of (ack_frame 1 Client ∷ initial_window_frame 2 Server 5 ∷ []) ≡ [])
    × (settings_run (ack_frame 1 Client ∷ initial_window_frame 2 Server 5 ∷ [])
    ≡ finding_at UnmatchedAck 1 0 Client (pos 0) ∷ [])
