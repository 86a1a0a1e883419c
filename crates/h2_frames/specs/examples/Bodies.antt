-- Worked examples of what payloads say, each type on the lengths next to which its answer changes (RFC 9113, 6.1 to
-- 6.10). Types and flags are the numbers that the sections give them.
use Rattle.std.specs.Prelude.{◌≡◌, ℕ, List, [], ◌∷◌, ◌++◌, map, replicate, Some}
use Rattle.audit_terms.specs.declared.frames.Body.TheVariants.{Content, Headers, Priority, RstStream}
use Rattle.audit_terms.specs.declared.frames.Body.TheVariants.{Settings as SettingsBody, SettingsAck, PushPromise, Ping}
use Rattle.audit_terms.specs.declared.frames.Body.TheVariants.{GoAway, WindowUpdate, Continuation, Unknown, Unreadable}
use Rattle.audit_terms.specs.code.Settings.{no_settings}
use Rattle.audit_terms.specs.declared.kinds.Kind.TheVariants.{WrongSize, BadPadding, BadPriority}
use Rattle.h2_frames.specs.Body.{body_of}
use Rattle.h2_frames.specs.Settings.{settings_of}

abbrev zeros : ℕ → List ℕ
zeros n = replicate n 0

-- payloads of zero bytes, of these lengths
abbrev all_zeros : List ℕ → List (List ℕ)
all_zeros lengths = map zeros lengths

-- DATA without padding, of any length and with END_STREAM
abbrev pub Data : Type 0
Data = map (body_of 0 1) (all_zeros (0 ∷ 1 ∷ 5 ∷ [])) ≡ Content ∷ Content ∷ Content ∷ []

-- DATA with PADDED: no room for the pad length; a pad length of 0; padding as long as the payload, and one byte shorter
abbrev pub PaddedData : Type 0
PaddedData =
    map (body_of 0 8) ([] ∷ zeros 1 ∷ (1 ∷ []) ∷ (4 ∷ zeros 4) ∷ (5 ∷ zeros 4) ∷ (255 ∷ zeros 4) ∷ [])
    ≡ Unreadable WrongSize 0 ∷ Content ∷ Unreadable BadPadding 1
    ∷ Content ∷ Unreadable BadPadding 5 ∷ Unreadable BadPadding 255 ∷ []

-- HEADERS: without flags; with PADDED; with PRIORITY; with both
abbrev pub HeadersPlain : Type 0
HeadersPlain = map (body_of 1 4) (all_zeros (0 ∷ 1 ∷ [])) ≡ Headers ∷ Headers ∷ []

abbrev pub HeadersPadded : Type 0
HeadersPadded =
    map (body_of 1 8) ([] ∷ zeros 1 ∷ (1 ∷ []) ∷ (1 ∷ zeros 1) ∷ [])
    ≡ Unreadable WrongSize 0 ∷ Headers ∷ Unreadable BadPadding 1 ∷ Headers ∷ []

abbrev pub HeadersWithPriority : Type 0
HeadersWithPriority = map (body_of 1 32) (all_zeros (4 ∷ 5 ∷ 6 ∷ [])) ≡ Unreadable WrongSize 4 ∷ Headers ∷ Headers ∷ []

abbrev pub HeadersWithBoth : Type 0
HeadersWithBoth =
    map (body_of 1 40) (zeros 5 ∷ zeros 6 ∷ (1 ∷ zeros 5) ∷ (1 ∷ zeros 6) ∷ [])
    ≡ Unreadable WrongSize 5 ∷ Headers ∷ Unreadable BadPadding 1 ∷ Headers ∷ []

-- PRIORITY has five bytes, RST_STREAM four, PING eight, GOAWAY eight or more, WINDOW_UPDATE four
abbrev pub PriorityLengths : Type 0
PriorityLengths =
    map (body_of 2 0) (all_zeros (4 ∷ 5 ∷ 6 ∷ [])) ≡ Unreadable BadPriority 4 ∷ Priority ∷ Unreadable BadPriority 6 ∷ []

abbrev pub RstStreamLengths : Type 0
RstStreamLengths =
    map (body_of 3 0) (all_zeros (3 ∷ 4 ∷ 5 ∷ [])) ≡ Unreadable WrongSize 3 ∷ RstStream ∷ Unreadable WrongSize 5 ∷ []

abbrev pub PingLengths : Type 0
PingLengths =
    map (body_of 6 1) (all_zeros (7 ∷ 8 ∷ 9 ∷ [])) ≡ Unreadable WrongSize 7 ∷ Ping ∷ Unreadable WrongSize 9 ∷ []

abbrev pub GoAwayLengths : Type 0
GoAwayLengths = map (body_of 7 0) (all_zeros (7 ∷ 8 ∷ 9 ∷ [])) ≡ Unreadable WrongSize 7 ∷ GoAway ∷ GoAway ∷ []

abbrev pub WindowUpdateLengths : Type 0
WindowUpdateLengths =
    map (body_of 8 0) (all_zeros (3 ∷ 4 ∷ 5 ∷ []))
    ≡ Unreadable WrongSize 3 ∷ WindowUpdate 0 ∷ Unreadable WrongSize 5 ∷ []

-- the bit before an increment has no meaning
abbrev pub Increments : Type 0
Increments =
    map (body_of 8 0) ((127 ∷ 255 ∷ 0 ∷ 0 ∷ []) ∷ (255 ∷ 255 ∷ 0 ∷ 1 ∷ []) ∷ [])
    ≡ WindowUpdate 2147418112 ∷ WindowUpdate 2147418113 ∷ []

-- SETTINGS: whole pairs of six bytes, and nothing in an acknowledgement
abbrev pub SettingsLengths : Type 0
SettingsLengths =
    map (body_of 4 0) (all_zeros (0 ∷ 5 ∷ 6 ∷ 7 ∷ 12 ∷ []))
    ≡ SettingsBody no_settings ∷ Unreadable WrongSize 5 ∷ SettingsBody no_settings ∷ Unreadable WrongSize 7
    ∷ SettingsBody no_settings ∷ []

abbrev pub SettingsAckLengths : Type 0
SettingsAckLengths =
    map (body_of 4 1) (all_zeros (0 ∷ 1 ∷ 6 ∷ [])) ≡ SettingsAck ∷ Unreadable WrongSize 1 ∷ Unreadable WrongSize 6 ∷ []

-- PUSH_PROMISE without padding, and with it; the bit before the promised stream has no meaning
abbrev pub PushPromises : Type 0
PushPromises =
    map (body_of 5 4) (zeros 3 ∷ (0 ∷ 0 ∷ 0 ∷ 2 ∷ []) ∷ (128 ∷ 0 ∷ 0 ∷ 2 ∷ 9 ∷ []) ∷ [])
    ≡ Unreadable WrongSize 3 ∷ PushPromise 2 ∷ PushPromise 2 ∷ []

abbrev pub PaddedPushPromises : Type 0
PaddedPushPromises =
    map (body_of 5 12)
    (zeros 4 ∷ (0 ∷ 0 ∷ 0 ∷ 0 ∷ 2 ∷ []) ∷ (1 ∷ 0 ∷ 0 ∷ 0 ∷ 2 ∷ []) ∷ (1 ∷ 0 ∷ 0 ∷ 0 ∷ 2 ∷ 0 ∷ []) ∷ [])
    ≡ Unreadable WrongSize 4 ∷ PushPromise 2 ∷ Unreadable BadPadding 1 ∷ PushPromise 2 ∷ []

-- CONTINUATION and types that RFC 9113 does not define, of any length and with any flags
abbrev pub Continuations : Type 0
Continuations = map (body_of 9 4) (all_zeros (0 ∷ 1 ∷ [])) ≡ Continuation ∷ Continuation ∷ []

abbrev pub UnknownTypes : Type 0
UnknownTypes = body_of 10 0 (zeros 2) ∷ body_of 12 41 [] ∷ body_of 255 255 [] ∷ [] ≡ Unknown ∷ Unknown ∷ Unknown ∷ []

-- ---- the values of settings (6.5.2), in pairs of an identifier and a value

abbrev pair : (identifier a b c d : ℕ) → List ℕ
pair identifier a b c d = 0 ∷ identifier ∷ a ∷ b ∷ c ∷ d ∷ []

-- ENABLE_PUSH (2) is 0 or 1
abbrev pub PushRange : Type 0
PushRange =
    map settings_of (pair 2 0 0 0 0 ∷ pair 2 0 0 0 1 ∷ pair 2 0 0 0 2 ∷ [])
    ≡ record no_settings { push = Some 0 }
    ∷ record no_settings { push = Some 1 }
    ∷ record no_settings { push = Some 2; bad = Some 2 }
    ∷ []

-- INITIAL_WINDOW_SIZE (4) is at most 2^31 - 1
abbrev pub InitialWindowRange : Type 0
InitialWindowRange =
    map settings_of (pair 4 127 255 255 255 ∷ pair 4 128 0 0 0 ∷ [])
    ≡ record no_settings { initial = Some 2147483647 }
    ∷ record no_settings { initial = Some 2147483648; bad = Some 4 }
    ∷ []

-- MAX_FRAME_SIZE (5) is from 2^14 to 2^24 - 1
abbrev pub MaxFrameSizeRange : Type 0
MaxFrameSizeRange =
    map settings_of (pair 5 0 0 63 255 ∷ pair 5 0 0 64 0 ∷ pair 5 0 255 255 255 ∷ pair 5 1 0 0 0 ∷ [])
    ≡ record no_settings { max_frame = Some 16383; bad = Some 5 }
    ∷ record no_settings { max_frame = Some 16384 }
    ∷ record no_settings { max_frame = Some 16777215 }
    ∷ record no_settings { max_frame = Some 16777216; bad = Some 5 }
    ∷ []

-- identifiers have 16 bits; those that an audit does not use have no range
abbrev pub OtherSettings : Type 0
OtherSettings =
    map settings_of (pair 3 255 255 255 255 ∷ pair 1 0 0 0 0 ∷ (1 ∷ 4 ∷ 0 ∷ 0 ∷ 0 ∷ 3 ∷ []) ∷ [])
    ≡ no_settings ∷ no_settings ∷ no_settings ∷ []

-- repeated pairs: the last value of an identifier counts, in range or not, and the first pair out of range is named,
-- also where a later one of its identifier is in range
abbrev pub FirstPairOutOfRange : Type 0
FirstPairOutOfRange =
    settings_of (pair 4 128 0 0 0 ++ pair 2 0 0 0 5 ++ pair 4 0 0 0 7 ++ pair 5 0 0 64 0 ++ [])
    ≡ record { push = Some 5; initial = Some 7; max_frame = Some 16384; bad = Some 4 }

abbrev pub LaterPairOutOfRange : Type 0
LaterPairOutOfRange =
    settings_of (pair 2 0 0 0 1 ++ pair 4 0 0 0 7 ++ pair 5 0 0 0 1 ++ pair 4 128 0 0 0 ++ [])
    ≡ record { push = Some 1; initial = Some 2147483648; max_frame = Some 1; bad = Some 5 }

-- 000400000064 000480000000, and 000500000005
abbrev pub LastValueOutOfRange : Type 0
LastValueOutOfRange =
    map settings_of ((pair 4 0 0 0 100 ++ pair 4 128 0 0 0) ∷ pair 5 0 0 0 5 ∷ [])
    ≡ record no_settings { initial = Some 2147483648; bad = Some 4 }
    ∷ record no_settings { max_frame = Some 5; bad = Some 5 }
    ∷ []
