-- Worked examples: what the life of a stream shows, its opening, its ends, and which windows live (RFC 9113, 5.1,
-- 5.1.1, 6.6). No frame here has content and no settings change, so a live window keeps its first credit, 65535.
use Rattle.std.specs.Prelude.{◌≡◌, ℕ, ℤ, pos, true, false, List, [], ◌∷◌, Option, Some, None}
use Rattle.audit_terms.specs.declared.sides.Side.TheVariants.{Client, Server}
use Rattle.audit_terms.specs.declared.sides.Sides.{Sides}
use Rattle.audit_terms.specs.declared.kinds.Kind.TheVariants.{NotOpened, AfterEnd}
use Rattle.audit_terms.specs.declared.frames.Body.TheVariants.{Ping}
use Rattle.audit_terms.specs.declared.frames.Frame.{Frame}
use Rattle.audit_terms.specs.declared.stream_state.Stream.{Stream}
use Rattle.audit_terms.specs.declared.findings.Finding.{Finding}
use Rattle.audit_terms.specs.FrameType.{data_type, headers_type, rst_stream_type, push_promise_type, ping_type}
use Rattle.audit_terms.specs.FrameType.{window_update_type}
use Rattle.audit_terms.specs.Finding.{finding_at, shown}
use Rattle.audit_terms.specs.code.runs.Streams.{frames_of, stream_run, stream_at_end}
use Rattle.audit_terms.specs.examples.Script.{scripted, data_frame, last_data_frame, headers_frame, last_headers_frame}
use Rattle.audit_terms.specs.examples.Script.{reset_frame, update_frame, promise_frame}

-- what is shown of a stream over the frames of a connection, where credits are not
abbrev pub shows : (stream : ℕ) → List Frame → List Finding
shows stream script = shown false (stream_run stream (frames_of stream script) [])

-- the stream after them
abbrev pub after_script : (stream : ℕ) → List Frame → Stream
after_script stream script = stream_at_end stream (frames_of stream script) []

-- which windows live: both, the client's, the server's, neither
abbrev pub both_live : Sides (Option ℤ)
both_live = record { client = Some (pos 65535); server = Some (pos 65535) }

abbrev pub client_lives : Sides (Option ℤ)
client_lives = record { client = Some (pos 65535); server = None }

abbrev pub server_lives : Sides (Option ℤ)
server_lives = record { client = None; server = Some (pos 65535) }

abbrev pub none_lives : Sides (Option ℤ)
none_lives = record { client = None; server = None }

-- both sides end a stream, each for itself; DATA before its opening finds none
abbrev pub BothSidesEnd : Type 0
BothSidesEnd =
    (shows 1 (
    data_frame 4 Client 1 0 ∷ headers_frame 5 Client 1 ∷ data_frame 6 Client 1 0 ∷ last_data_frame 7 Client 1 0
    ∷ data_frame 8 Client 1 0 ∷ data_frame 9 Server 1 0 ∷ last_headers_frame 10 Server 1 ∷ headers_frame 11 Server 1
    ∷ [])
    ≡ finding_at NotOpened 4 1 Client (pos data_type) ∷ finding_at AfterEnd 8 1 Client (pos data_type)
    ∷ finding_at AfterEnd 11 1 Server (pos headers_type) ∷ [])
    × ((after_script 1 (headers_frame 5 Client 1 ∷ data_frame 6 Client 1 0 ∷ [])).window ≡ both_live)
    × ((after_script 1 (headers_frame 5 Client 1 ∷ last_data_frame 7 Client 1 0 ∷ [])).window ≡ server_lives)
    × ((after_script 1 (headers_frame 5 Client 1 ∷ last_headers_frame 10 Server 1 ∷ [])).window ≡ client_lives)

-- a RST_STREAM takes both windows and ends the stream for its sender; DATA of the side that was reset is no use after
-- an end of its own
abbrev pub AfterReset : Type 0
AfterReset =
    (shows 3 (
    headers_frame 6 Client 3 ∷ headers_frame 7 Client 1 ∷ reset_frame 13 Server 3 ∷ data_frame 14 Client 3 0
    ∷ data_frame 15 Server 3 0 ∷ [])
    ≡ finding_at AfterEnd 15 3 Server (pos data_type) ∷ [])
    × ((after_script 3 (headers_frame 6 Client 3 ∷ reset_frame 13 Server 3 ∷ [])).window ≡ none_lives)
    × ((after_script 3 (headers_frame 6 Client 3 ∷ reset_frame 13 Server 3 ∷ [])).life.ended
    ≡ record { client = false; server = true })

-- HEADERS that end the stream open it too: the client's window is never live, and its next HEADERS come after its end
abbrev pub OpensAndEnds : Type 0
OpensAndEnds =
    (shows 1 (last_headers_frame 5 Client 1 ∷ headers_frame 6 Client 1 ∷ [])
    ≡ finding_at AfterEnd 6 1 Client (pos headers_type) ∷ [])
    × ((after_script 1 (last_headers_frame 5 Client 1 ∷ [])).window ≡ server_lives)
    × ((after_script 1 (last_headers_frame 5 Client 1 ∷ [])).life.opened ≡ Some 5)

-- what opens no stream: HEADERS of the server, HEADERS on an even stream, RST_STREAM, WINDOW_UPDATE; PING needs none
abbrev pub NothingOpens : Type 0
NothingOpens =
    (shows 1 (
    headers_frame 5 Server 1 ∷ reset_frame 6 Client 1 ∷ update_frame 7 Server 1 1
    ∷ scripted 8 Client ping_type 0 1 8 Ping ∷ [])
    ≡ finding_at NotOpened 5 1 Server (pos headers_type) ∷ finding_at NotOpened 6 1 Client (pos rst_stream_type)
    ∷ finding_at NotOpened 7 1 Server (pos window_update_type) ∷ [])
    × (shows 2 (headers_frame 5 Client 2 ∷ []) ≡ finding_at NotOpened 5 2 Client (pos headers_type) ∷ [])
    × ((after_script 2 (headers_frame 5 Client 2 ∷ [])).life.opened ≡ None)

-- a promise of stream 2, on which the server sends and the client, which never can, does
abbrev pub promise_script : List Frame
promise_script =
    headers_frame 5 Client 1 ∷ promise_frame 6 Server 1 2 ∷ headers_frame 7 Server 2 ∷ data_frame 8 Server 2 0
    ∷ data_frame 12 Client 2 0 ∷ reset_frame 13 Client 2 ∷ data_frame 14 Server 2 0 ∷ []

-- the promise opens the promised stream for the server, and is nothing to the stream that carries it
abbrev pub PromiseOpens : Type 0
PromiseOpens =
    (shows 1 promise_script ≡ [])
    × ((after_script 1 promise_script).life.opened ≡ Some 5)
    × (shows 2 promise_script ≡ finding_at AfterEnd 12 2 Client (pos data_type) ∷ [])
    × ((after_script 2 promise_script).life.opened ≡ Some 6)
    × ((after_script 2 promise_script).window ≡ none_lives)
    × ((after_script 2 (promise_frame 6 Server 1 2 ∷ [])).window ≡ server_lives)

-- a second promise of a stream, and a promise by the client, are nothing to the promised stream
abbrev pub PromiseOpensOnce : Type 0
PromiseOpensOnce =
    (shows 2 (promise_frame 6 Server 1 2 ∷ promise_frame 7 Server 3 2 ∷ []) ≡ [])
    × ((after_script 2 (promise_frame 6 Server 1 2 ∷ promise_frame 7 Server 3 2 ∷ [])).life.opened ≡ Some 6)
    × (shows 2 (promise_frame 6 Client 1 2 ∷ data_frame 7 Server 2 0 ∷ [])
    ≡ finding_at NotOpened 7 2 Server (pos data_type) ∷ [])

-- a promise on a stream that is not opened, on one of the server's own, or on one that the server has ended: it opens
-- the promised stream all the same, unless that is the stream that carries it; after the client's RST_STREAM it stands
abbrev pub MisplacedPromise : Type 0
MisplacedPromise =
    (shows 1 (promise_frame 5 Server 1 2 ∷ []) ≡ finding_at NotOpened 5 1 Server (pos push_promise_type) ∷ [])
    × (shows 2 (promise_frame 5 Server 1 2 ∷ []) ≡ [])
    × ((after_script 2 (promise_frame 5 Server 1 2 ∷ [])).life.opened ≡ Some 5)
    × (shows 2 (promise_frame 5 Server 2 2 ∷ data_frame 6 Server 2 0 ∷ [])
    ≡ finding_at NotOpened 5 2 Server (pos push_promise_type) ∷ finding_at NotOpened 6 2 Server (pos data_type) ∷ [])
    × (shows 2 (promise_frame 5 Server 1 2 ∷ promise_frame 6 Server 2 4 ∷ [])
    ≡ finding_at NotOpened 6 2 Server (pos push_promise_type) ∷ [])
    × (shows 1 (headers_frame 5 Client 1 ∷ last_headers_frame 6 Server 1 ∷ promise_frame 7 Server 1 2 ∷ [])
    ≡ finding_at NotOpened 7 1 Server (pos push_promise_type) ∷ [])
    × (shows 1 (headers_frame 5 Client 1 ∷ reset_frame 6 Client 1 ∷ promise_frame 7 Server 1 2 ∷ []) ≡ [])
