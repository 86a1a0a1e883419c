-- What is said at one frame stands in different rows of the table, or is of different streams.
use Rattle.std.proofs.Common.{Option, Some, [], ap, append_assoc, arith, false, if◌then◌else◌, is_some, nat_le, nat_lt}
use Rattle.std.proofs.Common.{pos, refl, subst, sym, true, ℕ, ℤ, ◌&&◌, ◌++◌, ◌+◌, ◌<◌, ◌^◌, ◌∙◌, ◌∷◌, ◌≡◌, ◌≢◌, ◌≤◌}
use Rattle.{audit_core.proofs.Words.window_step, std.proofs.Common.Bool, std.proofs.Common.List, std.proofs.Common.None}
use Rattle.audit_core.proofs.Meetings.{change-ack}
use Rattle.audit_terms.proofs.Pairs.{across-by, pairs-append}
use Rattle.audit_core.proofs.PassOrder.{AreStreams, rows_of}
use Rattle.audit_core.proofs.TableRows.{AreRows, IsRow, is_row, quiet, row-say, rows-nil, rows-say_of, told, ◌⊕◌}
use Rattle.audit_core.proofs.Words.{AllByRecursion, AreApart, Body, Change, Client, ConnectionState, EachPair, Finding}
use Rattle.audit_core.proofs.Words.{Frame, InForce, IsInRange, Kind, PassState, Server, SettingsBody, Side, Sides, Step}
use Rattle.audit_core.proofs.Words.{Stream, Unreadable, body_said, change_of, cond_both, connection_said}
use Rattle.audit_core.proofs.Words.{connection_window_said, credit_after_step, credit_after, each-append, each-weaker}
use Rattle.audit_core.proofs.Words.{fault}
use Rattle.audit_core.proofs.Words.{finding_at, frame_said, ints, length_said, live_window_said, local_said, meets}
use Rattle.audit_core.proofs.Words.{new_limit, opening_order_said, opens, opens_stream, other, overflows, place_stream}
use Rattle.audit_core.proofs.Words.{promise_order_said, promised_in, push_said, rank_of, reading_fault, say, say_of}
use Rattle.audit_core.proofs.Words.{side_of, step_of, stream_said, stream_window_said, streams_said, window_at_opening}
use Rattle.audit_terms.specs.declared.kinds.Kind.TheVariants as K

-- ---- why some errors are said of one endpoint

-- a connection window rises only by a grant of the sender to the other endpoint
granted-side : (d : Side) (before : ℤ) (frame : Frame) → overflows before (credit_after d before frame) ≡ true
    → d ≡ other frame.side
granted-side d before frame o = grind (arith, ints)

-- a change moves only the windows of the side that acknowledges
module _ (d : Side) (stream : ℕ) (now : InForce) (initial : Sides ℕ) (frame : Frame) (before : ℤ) where
  moved-side : (is_some (change_of now frame) && overflows before
      (credit_after_step d stream initial (step_of now frame stream) before)) ≡ true → d ≡ frame.side
  moved-side o = let ack = change-ack now frame in grind (arith, ints)

-- ---- the rows

-- any stream
abbrev pub Any : ℕ → Type 0
Any stream = Unit {0}

-- the one stream
abbrev Only : (stream : ℕ) → ℕ → Type 0
Only stream other = other ≡ stream

-- the rows of an endpoint's windows, of the connection and of a stream
abbrev connection_row : Side → ℕ → ℕ
connection_row Client k = 9 + k
connection_row Server k = 15 + k

abbrev stream_row : Side → ℕ → ℕ
stream_row Client k = 24 + k
stream_row Server k = 30 + k

-- what is said of a frame by itself and of the connection
module _ (frame : Frame) (h : IsInRange frame) where
  abbrev Rows : (low high : ℕ) → List Finding → Type 0
  Rows low high xs = AreRows frame.side Any low high xs

  said : (kind : Kind) (low high : ℕ) (value : ℤ) (holds : Bool) → nat_le low high ≡ true →
      (is_row Client Client (rank_of kind) low high && is_row Server Server (rank_of kind) low high) ≡ true →
      Rows low high (say holds (finding_at kind frame.number frame.stream frame.side value))
  said = told frame.side Any frame.number frame.stream h.stream tt

  rows-reading_fault : (kind : Kind) (value : ℕ) → Rows 3 4 (reading_fault kind frame value)
  rows-reading_fault K.WrongSize value = said K.WrongSize 3 4 (pos value) true refl refl
  rows-reading_fault K.BadPadding value = said K.BadPadding 3 4 (pos value) true refl refl
  rows-reading_fault K.BadPriority value = said K.BadPriority 3 4 (pos value) true refl refl
  rows-reading_fault _ value = rows-nil _ _ 3 4 (omega arith)

  rows-body : (body : Body) → Rows 3 4 (body_said frame body)
  rows-body (Unreadable kind value) = rows-reading_fault kind value
  rows-body (SettingsBody words) =
      rows-say_of _ _ 3 4 (λ identifier. fault K.BadSetting frame identifier ∷ []) words.bad (omega arith)
      (λ identifier. said K.BadSetting 3 4 (pos identifier) true refl refl)
  rows-body _ = rows-nil _ _ 3 4 (omega arith)

  rows-local : (previous : Option Frame) → Rows 0 5 (local_said previous frame)
  rows-local previous =
      said K.BadPreface 0 1 _ _ refl refl ⊕ said K.BrokenBlock 1 2 _ _ refl refl
      ⊕ said K.WrongStream 2 3 _ _ refl refl ⊕ rows-body frame.body
      ⊕ row-say frame.side Any frame.number frame.stream h.stream tt K.Push frame.side 4 5 _ _ (omega arith)
      (λ e. grind arith)

  rows-length : (limit : ℕ) → Rows 6 7 (length_said limit frame)
  rows-length limit = by_kind _ where
    by_kind : (b : Bool) → Rows 6 7 (say (nat_lt limit frame.length) (finding_at (if b then K.TooLong else K.LongFrame)
        frame.number frame.stream frame.side (pos frame.length)))
    by_kind true = said K.TooLong 6 7 _ _ refl refl
    by_kind false = said K.LongFrame 6 7 _ _ refl refl

  -- one finding of two that exclude each other
  rows-one_of : (low high : ℕ) (a b : Bool) (x y : Finding) → (a ≡ true → b ≡ true → ⊥) → Rows low high (say a x) →
      Rows low high (say b y) → Rows low high (say a x ++ say b y)
  rows-one_of low high true true x y n p q = absurd (n refl refl)
  rows-one_of low high true false x y n p q = p
  rows-one_of low high false b x y n p q = q

  -- HEADERS open their own stream, and a promise opens another
  rows-order : (opened promised : ℕ) (opens : Bool) (change : Option Change) →
      Rows 8 9 (opening_order_said opened (record { frame = frame; opens = opens; change = change })
      ++ promise_order_said promised frame)
  rows-order opened promised opens change =
      rows-one_of 8 9 _ _ _ _ (λ p q. grind arith) (said K.IdNotGreater 8 9 _ _ refl refl)
      (told frame.side Any frame.number (promised_in frame.body) h.promised tt K.IdNotGreater 8 9 _ _ refl refl)

  rows-connection_window : (d : Side) (before : ℤ) →
      Rows (connection_row d 0) (connection_row d 6) (connection_window_said d before frame)
  rows-connection_window d before =
      let zero : 0 < 2 ^ 31 = omega arith in
      let still = quiet frame.side Any frame.number 0 zero tt connection_row d in
      row-say frame.side Any frame.number 0 zero tt K.ZeroConnectionGrant (other d) (connection_row d 0)
      (connection_row d 1) _ _ (grind arith) (λ e. grind arith)
      ⊕ row-say frame.side Any frame.number 0 zero tt K.ConnectionOverflow d (connection_row d 1)
      (connection_row d 2) _ _ (grind arith) (λ e. let of = granted-side d before frame e in grind arith)
      ⊕ still K.ConnectionOverrun 2 3 _ _ refl refl ⊕ still K.ConnectionStallEnd 3 4 _ _ refl refl
      ⊕ still K.ConnectionStallBegin 4 5 _ _ refl refl ⊕ still K.ConnectionCredit 5 6 _ _ refl refl

  rows-connection : (now : ConnectionState) (opens : Bool) (change : Option Change) →
      Rows 6 21 (connection_said now (record { frame = frame; opens = opens; change = change }))
  rows-connection now opens change =
      let limit = new_limit change frame.side (side_of frame.side now.limit) in
      subst (Rows 6 9) (sym (append_assoc (length_said limit frame ++ push_said now.push frame)
      (opening_order_said now.opened (record { frame = frame; opens = opens; change = change }))
      (promise_order_said now.promised frame))) (rows-length limit
      ⊕ row-say frame.side Any frame.number frame.stream h.stream tt K.Push frame.side 7 8 _ _ (omega arith)
      (λ e. grind arith) ⊕ rows-order now.opened now.promised opens change)
      ⊕ (rows-connection_window Client now.credit.client ⊕ rows-connection_window Server now.credit.server)

-- what is said of a stream
module _ (frame : Frame) (now : InForce) (on : ℕ → Type 0) (stream : ℕ) (small : stream < 2 ^ 31)
    (here : on stream) (initial : Sides ℕ) (entry : Stream) where
  abbrev step : Step
  step = step_of now frame stream

  abbrev Told : (low high : ℕ) → List Finding → Type 0
  Told low high xs = AreRows frame.side on low high xs

  rows-frame : (met : Bool) → Told 21 24 (say_of (frame_said stream entry step) (if met then Some frame else None))
  rows-frame true =
      let sent = told frame.side on frame.number stream small here in
      sent K.NotOpened 21 22 _ _ refl refl ⊕ sent K.AfterEnd 22 23 _ _ refl refl
      ⊕ sent K.ZeroStreamGrant 23 24 _ _ refl refl
  rows-frame false = rows-nil _ _ 21 24 (omega arith)

  rows-live_window : (d : Side) (before : ℤ) →
      Told (stream_row d 0) (stream_row d 6) (live_window_said d stream step (window_step d stream initial step before))
  rows-live_window d before =
      let still = quiet frame.side on frame.number stream small here stream_row d in
      row-say frame.side on frame.number stream small here K.SettingOverflow d (stream_row d 0) (stream_row d 1) _ _
      (grind arith) (λ e. let of = moved-side d stream now initial frame before e in grind arith)
      ⊕ still K.StreamOverrun 1 2 _ _ refl refl ⊕ still K.StreamOverflow 2 3 _ _ refl refl
      ⊕ still K.StreamStallEnd 3 4 _ _ refl refl ⊕ still K.StreamStallBegin 4 5 _ _ refl refl
      ⊕ still K.StreamCredit 5 6 _ _ refl refl

  rows-window : (d : Side) → Told (stream_row d 0) (stream_row d 6) (stream_window_said d stream initial entry step)
  rows-window d =
      let still = quiet frame.side on frame.number stream small here stream_row d in
      let up : stream_row d 0 ≤ stream_row d 6 = grind arith in
      cond_both (opens stream entry step) _ _ (Told (stream_row d 0) (stream_row d 6))
      (λ _. rows-say_of _ _ _ _ _ (window_at_opening d stream initial step) up
      (λ credit. still K.StreamStallBegin 0 5 _ _ refl refl ⊕ still K.StreamCredit 5 6 _ true refl refl))
      (λ _. rows-say_of _ _ _ _ _ (side_of d entry.window) up (rows-live_window d))

  rows-stream : Told 21 36 (stream_said stream initial entry step)
  rows-stream = rows-frame (meets stream frame) ⊕ rows-window Client ⊕ rows-window Server

-- what is said of streams that are all different, each of this sort
module _ (state : PassState) (frame : Frame) where
  rows-streams : (on : ℕ → Type 0) (streams : List ℕ) → AreStreams streams → EachPair ◌≢◌ streams →
      AllByRecursion on streams → AreRows frame.side on 21 36 (streams_said streams state frame)
  rows-streams on [] h d all = rows-nil _ _ 21 36 (omega arith)
  rows-streams on (stream ∷ streams) h d all =
      let one = rows-one on all.0 in
      let others = rows-streams on streams h.1 d.1 all.1 in record {
        rising = omega arith;
        within = each-append (IsRow frame.side on 21 36) _ _ one.within others.within;
        apart = pairs-append AreApart _ _ one.apart others.apart
            (across-by AreApart (IsRow frame.side (Only stream) 21 36)
            (IsRow frame.side (λ other. stream ≢ other) 21 36)
            (λ x y p q e s. q.stream (sym p.stream ∙ ap place_stream e)) _ _ (rows-one (Only stream) refl).within
            (rows-streams (λ other. stream ≢ other) streams h.1 d.1 d.0).within);
      } where
        rows-one : (sort : ℕ → Type 0) → sort stream → AreRows frame.side sort 21 36 (stream_said stream
            state.in_force.initial (state.streams stream) (step_of state.in_force frame stream))
        rows-one sort here =
            rows-stream frame state.in_force sort stream h.0 here state.in_force.initial (state.streams stream)

-- no two findings at a frame share place and side, and errors are of the sides that they may be of
pub rows-at : (streams : List ℕ) (state : PassState) (frame : Frame) → AreStreams streams → EachPair ◌≢◌ streams →
    IsInRange frame → AreRows frame.side Any 0 36 (rows_of streams state frame)
rows-at streams state frame small distinct h =
    rows-local frame h (side_of frame.side state.previous) ⊕ said frame h K.UnmatchedAck 5 6 _ _ refl refl
    ⊕ rows-connection frame h state.connection (opens_stream state frame) (change_of state.in_force frame)
    ⊕ rows-streams state frame Any streams small distinct (each-weaker _ Any (λ s k. tt) streams small)
