-- Worked examples of server push (RFC 9113, 5.1.1, 6.6, 8.4).
use Rattle.std.specs.Prelude.{◌≡◌, pos, List, [], ◌∷◌, ◌++◌}
use Rattle.audit_terms.specs.declared.sides.Side.TheVariants.{Client, Server}
use Rattle.audit_terms.specs.declared.kinds.Kind.TheVariants.{WrongStream, Push, NotOpened, IdNotGreater, AfterEnd}
use Rattle.audit_terms.specs.declared.kinds.Kind.TheVariants.{ConnectionStallBegin, StreamStallEnd, StreamStallBegin}
use Rattle.audit_terms.specs.declared.kinds.Kind.TheVariants.{ConnectionCredit, StreamCredit}
use Rattle.audit_terms.specs.declared.frames.Frame.{Frame}
use Rattle.audit_terms.specs.declared.findings.Finding.{Finding}
use Rattle.audit_terms.specs.Finding.{finding_at}
use Rattle.audit_terms.specs.examples.Script.{headers_frame, data_frame, reset_frame, update_frame, promise_frame}
use Rattle.audit_terms.specs.examples.Script.{ack_frame}
use Rattle.audit_core.specs.examples.Script.{enable_push_frame, audit_of, audit_with_credits_of, all_of}
use Rattle.audit_core.specs.examples.Script.{all_with_credits_of}

-- a stream's opening by the client shows the credit of both sides
abbrev opening_credits : List Finding
opening_credits = finding_at StreamCredit 5 1 Client (pos 65535) ∷ finding_at StreamCredit 5 1 Server (pos 65535) ∷ []

-- the server promises a stream: no finding; the promise makes the server's window live and no other
abbrev promise_script : List Frame
promise_script = headers_frame 5 Client 1 ∷ promise_frame 6 Server 1 2 ∷ []

abbrev pub Promised : Type 0
Promised = audit_of promise_script ≡ []

abbrev pub PromisedCredits : Type 0
PromisedCredits = audit_with_credits_of promise_script ≡ opening_credits
    ++ finding_at StreamCredit 6 2 Server (pos 65535) ∷ []

-- the client takes no push, from the server's acknowledgement on
abbrev no_push_script : List Frame
no_push_script =
    enable_push_frame 5 Client 0 ∷ ack_frame 6 Server ∷ headers_frame 7 Client 1 ∷ promise_frame 8 Server 1 2 ∷ []

abbrev pub PushForbidden : Type 0
PushForbidden = audit_of no_push_script ≡ finding_at Push 8 1 Server (pos 0) ∷ []

abbrev pub PushForbiddenCredits : Type 0
PushForbiddenCredits =
    audit_with_credits_of no_push_script
    ≡ finding_at StreamCredit 7 1 Client (pos 65535) ∷ finding_at StreamCredit 7 1 Server (pos 65535)
    ∷ finding_at Push 8 1 Server (pos 0) ∷ []

abbrev pub PushUntilAcknowledged : Type 0
PushUntilAcknowledged =
    audit_of (enable_push_frame 5 Client 0 ∷ headers_frame 6 Client 1 ∷ promise_frame 7 Server 1 2 ∷ []) ≡ []

-- and may take it again; what the server says of push governs nothing
abbrev pub PushAllowedAgain : Type 0
PushAllowedAgain =
    audit_of (
    enable_push_frame 5 Client 0 ∷ ack_frame 6 Server ∷ enable_push_frame 7 Client 1 ∷ ack_frame 8 Server
    ∷ headers_frame 9 Client 1 ∷ promise_frame 10 Server 1 2 ∷ []) ≡ []

abbrev pub PushOfServer : Type 0
PushOfServer =
    audit_of (enable_push_frame 5 Server 0 ∷ ack_frame 6 Client ∷ headers_frame 7 Client 1 ∷ promise_frame 8 Server 1 2
    ∷ []) ≡ []

-- promises in falling order, and of an odd stream
abbrev pub PromisesFall : Type 0
PromisesFall =
    audit_of (headers_frame 5 Client 1 ∷ promise_frame 6 Server 1 4 ∷ promise_frame 7 Server 1 2 ∷ [])
    ≡ finding_at IdNotGreater 7 2 Server (pos 4) ∷ []

abbrev pub OddPromise : Type 0
OddPromise =
    audit_of (headers_frame 5 Client 1 ∷ promise_frame 6 Server 1 4 ∷ promise_frame 7 Server 1 3 ∷ [])
    ≡ finding_at IdNotGreater 7 3 Server (pos 4) ∷ []

abbrev pub OddPromiseCredits : Type 0
OddPromiseCredits =
    audit_with_credits_of (headers_frame 5 Client 1 ∷ promise_frame 6 Server 1 4 ∷ promise_frame 7 Server 1 3 ∷ [])
    ≡ opening_credits ++ finding_at StreamCredit 6 4 Server (pos 65535)
    ∷ finding_at IdNotGreater 7 3 Server (pos 4) ∷ []

-- a promise of stream 0 stands at stream 0
abbrev pub PromiseOfZero : Type 0
PromiseOfZero =
    all_with_credits_of (headers_frame 5 Client 1 ∷ promise_frame 6 Server 1 0 ∷ [])
    ≡ opening_credits ++ finding_at IdNotGreater 6 0 Server (pos 0) ∷ []

-- promises count among the even identifiers alone, and HEADERS of the client among the odd ones
abbrev pub HeadersBelowPromise : Type 0
HeadersBelowPromise =
    audit_of (headers_frame 5 Client 1 ∷ promise_frame 6 Server 1 4 ∷ headers_frame 7 Client 3 ∷ []) ≡ []

abbrev pub HeadersBelowHeaders : Type 0
HeadersBelowHeaders =
    audit_of (headers_frame 5 Client 5 ∷ promise_frame 6 Server 5 8 ∷ headers_frame 7 Client 3 ∷ [])
    ≡ finding_at IdNotGreater 7 3 Client (pos 5) ∷ []

-- a promise on a stream that is not opened; it opens its promised stream all the same
abbrev pub PromiseOnIdle : Type 0
PromiseOnIdle = audit_of (promise_frame 5 Server 1 2 ∷ []) ≡ finding_at NotOpened 5 1 Server (pos 5) ∷ []

abbrev pub PromiseOnIdleOpens : Type 0
PromiseOnIdleOpens =
    all_with_credits_of (promise_frame 5 Server 1 2 ∷ [])
    ≡ finding_at NotOpened 5 1 Server (pos 5) ∷ finding_at StreamCredit 5 2 Server (pos 65535) ∷ []

-- a promise on stream 0 is on the wrong stream and no other fault; it opens its promised stream
abbrev pub PromiseOnZero : Type 0
PromiseOnZero =
    all_with_credits_of (promise_frame 5 Server 0 2 ∷ [])
    ≡ finding_at WrongStream 5 0 Server (pos 5) ∷ finding_at StreamCredit 5 2 Server (pos 65535) ∷ []

-- a promise of its own stream opens nothing, and counts among the promises
abbrev pub PromiseOfItself : Type 0
PromiseOfItself =
    all_with_credits_of (headers_frame 5 Client 1 ∷ promise_frame 6 Server 2 2 ∷ promise_frame 7 Server 1 2 ∷ [])
    ≡ opening_credits
    ++ finding_at NotOpened 6 2 Server (pos 5)
    ∷ finding_at IdNotGreater 7 2 Server (pos 2) ∷ finding_at StreamCredit 7 2 Server (pos 65535) ∷ []

-- a promise on a promised stream
abbrev pub PromiseOnPromised : Type 0
PromiseOnPromised =
    audit_of (headers_frame 5 Client 1 ∷ promise_frame 6 Server 1 2 ∷ promise_frame 7 Server 2 4 ∷ [])
    ≡ finding_at NotOpened 7 2 Server (pos 5) ∷ []

-- three faults of one promise
abbrev pub ThreeFaults : Type 0
ThreeFaults =
    all_of (enable_push_frame 5 Client 0 ∷ ack_frame 6 Server ∷ promise_frame 7 Server 1 3 ∷ [])
    ≡ finding_at Push 7 1 Server (pos 0) ∷ finding_at NotOpened 7 1 Server (pos 5)
    ∷ finding_at IdNotGreater 7 3 Server (pos 0) ∷ []

-- after the client's reset the server may promise, after its own it may not
abbrev pub PromiseAfterReset : Type 0
PromiseAfterReset =
    audit_of (headers_frame 5 Client 1 ∷ reset_frame 6 Client 1 ∷ promise_frame 7 Server 1 2 ∷ []) ≡ []

abbrev pub PromiseAfterOwnReset : Type 0
PromiseAfterOwnReset =
    audit_of (headers_frame 5 Client 1 ∷ reset_frame 6 Server 1 ∷ promise_frame 7 Server 1 2 ∷ [])
    ≡ finding_at NotOpened 7 1 Server (pos 5) ∷ []

-- a second promise of a stream changes nothing of it
abbrev pub PromisedTwice : Type 0
PromisedTwice =
    all_with_credits_of (headers_frame 5 Client 1 ∷ promise_frame 6 Server 1 2 ∷ data_frame 7 Server 2 5
    ∷ promise_frame 8 Server 1 2 ∷ [])
    ≡ opening_credits
    ++ finding_at StreamCredit 6 2 Server (pos 65535)
    ∷ finding_at ConnectionCredit 7 0 Server (pos 65530) ∷ finding_at StreamCredit 7 2 Server (pos 65530)
    ∷ finding_at IdNotGreater 8 2 Server (pos 2) ∷ []

-- the server uses up a promised stream, on which the client may not send; the client resets it
abbrev pushed_script : List Frame
pushed_script =
    headers_frame 5 Client 1 ∷ promise_frame 6 Server 1 2 ∷ headers_frame 7 Server 2
    ∷ data_frame 8 Server 2 16384 ∷ data_frame 9 Server 2 16384 ∷ data_frame 10 Server 2 16384
    ∷ data_frame 11 Server 2 16383 ∷ data_frame 12 Client 2 1 ∷ reset_frame 13 Client 2 ∷ []

abbrev pub PushedStall : Type 0
PushedStall =
    audit_of pushed_script
    ≡ finding_at ConnectionStallBegin 11 0 Server (pos 0) ∷ finding_at StreamStallBegin 11 2 Server (pos 0)
    ∷ finding_at AfterEnd 12 2 Client (pos 0) ∷ finding_at StreamStallEnd 13 2 Server (pos 0) ∷ []

abbrev pub PushedStallCredits : Type 0
PushedStallCredits =
    audit_with_credits_of pushed_script
    ≡ opening_credits
    ++ finding_at StreamCredit 6 2 Server (pos 65535)
    ∷ finding_at ConnectionCredit 8 0 Server (pos 49151) ∷ finding_at StreamCredit 8 2 Server (pos 49151)
    ∷ finding_at ConnectionCredit 9 0 Server (pos 32767) ∷ finding_at StreamCredit 9 2 Server (pos 32767)
    ∷ finding_at ConnectionCredit 10 0 Server (pos 16383) ∷ finding_at StreamCredit 10 2 Server (pos 16383)
    ∷ finding_at ConnectionStallBegin 11 0 Server (pos 0) ∷ finding_at StreamStallBegin 11 2 Server (pos 0)
    ∷ finding_at ConnectionCredit 11 0 Server (pos 0) ∷ finding_at StreamCredit 11 2 Server (pos 0)
    ∷ finding_at AfterEnd 12 2 Client (pos 0) ∷ finding_at ConnectionCredit 12 0 Client (pos 65534)
    ∷ finding_at StreamStallEnd 13 2 Server (pos 0) ∷ []

-- the client grants on a promised stream and resets it: then no window of the stream is live
abbrev pub PromisedGrant : Type 0
PromisedGrant =
    audit_with_credits_of (
    headers_frame 5 Client 1 ∷ promise_frame 6 Server 1 2 ∷ update_frame 7 Client 2 10
    ∷ reset_frame 8 Client 2 ∷ data_frame 9 Server 2 1 ∷ [])
    ≡ opening_credits
    ++ finding_at StreamCredit 6 2 Server (pos 65535) ∷ finding_at StreamCredit 7 2 Server (pos 65545)
    ∷ finding_at ConnectionCredit 9 0 Server (pos 65534) ∷ []

-- a promise of the client opens nothing
abbrev pub ClientPromise : Type 0
ClientPromise = audit_of (headers_frame 5 Client 1 ∷ promise_frame 6 Client 1 2 ∷ [])
    ≡ finding_at Push 6 1 Client (pos 0) ∷ []

abbrev pub ClientPromiseOpensNothing : Type 0
ClientPromiseOpensNothing =
    all_with_credits_of (headers_frame 5 Client 1 ∷ promise_frame 6 Client 1 2 ∷ data_frame 7 Server 2 1 ∷ [])
    ≡ opening_credits
    ++ finding_at Push 6 1 Client (pos 0)
    ∷ finding_at NotOpened 7 2 Server (pos 0) ∷ finding_at ConnectionCredit 7 0 Server (pos 65534) ∷ []
