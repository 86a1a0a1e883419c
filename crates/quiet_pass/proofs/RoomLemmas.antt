-- Credits between frames in order: there are fewer than 2^28 frames, and none moves a credit by more than 2^32.
use Rattle.audit_terms.proofs.Bounds.{room-wider}
use Rattle.audit_terms.proofs.FindingLists.{each-append}
use Rattle.audit_terms.proofs.OrderlyFrames.{length-orderly}
use Rattle.audit_terms.specs.Change.{new_initial}
use Rattle.audit_terms.specs.Connection.{credit_after}
use Rattle.audit_terms.specs.Frame.{content_by, grant_to, increment, is_ack, is_content, meets, settings_in}
use Rattle.audit_terms.specs.InForce.{InForce, change_of, change_taking, taken}
use Rattle.audit_terms.specs.Life.{ends_window, is_last_of}
use Rattle.audit_terms.specs.Pass.{PassState, next, pass_start, step_of}
use Rattle.audit_terms.specs.{Side.is_side, Side.other, Sides.side_of}
use Rattle.audit_terms.specs.Stream.{opens, step_amount, step_test, window_after, window_at_opening}
use Rattle.audit_terms.specs.Stream.{window_step}
use Rattle.audit_terms.specs.code.Room.{HasRoom, HaveRoom, WindowHasRoom}
use Rattle.audit_terms.specs.code.runs.Orderly.{IsInRange, IsOrderly, IsOrderlyFrom}
use Rattle.audit_terms.specs.code.runs.States.{state_after, state_from}
use Rattle.audit_terms.specs.declared.connection_state.ConnectionState.{ConnectionState}
use Rattle.audit_terms.specs.declared.{frames.Body.Body, frames.Body.TheVariants.SettingsAck, frames.Frame.Frame}
use Rattle.audit_terms.specs.declared.{items.Change.Change, settings.Settings.Settings, sides.Side.Side}
use Rattle.audit_terms.specs.declared.sides.{Side.TheVariants.Client, Side.TheVariants.Server}
use Rattle.audit_terms.specs.declared.stream_state.Stream.{Stream}
use Rattle.std.proofs.Common.{Bool, List, None, Option, Some, [], ap, arith, false, if◌then◌else◌, inl, inr, length}
use Rattle.std.proofs.Common.{pos, refl, slice_get, subst, suc, true, zero, ℕ, ℤ, ◌&&◌, ◌*◌, ◌++◌, ◌+◌, ◌+ℤ◌, ◌-ℤ◌, ◌<◌}
use Rattle.std.proofs.Common.{◌∷◌, ◌≡◌, ◌≤◌, ◌⊎◌, ◌^◌, ◌==◌, ◌||◌, length-append, ◌∙◌, append-nil, sym}
use Rattle.std.proofs.Math.Bool.{and-false}
use Rattle.std.proofs.lemmas.Bool.{cond_both}
use Rattle.std.proofs.lemmas.Int.{ints}
use Rattle.std.specs.List.{AllByRecursion}
use Rattle.std.specs.Option.{ForSome, option_map_or, unwrap_or}
use Rattle.quiet_pass.proofs.FoundLemmas.{orderly-upto}
use Rattle.quiet_pass.specs.code.FoundPass.{IsFoundAfter}
use Rattle.quiet_pass.specs.code.AllStreams.{HoldRoom}
use Rattle.quiet_pass.specs.code.QuietPass.{HasRoomKept, HasRoomLeft, IsInitialSmall, MovesLittle}
use Rattle.quiet_pass.specs.declared.found_passes.FoundPass.{FoundPass}
use Rattle.quiet_pass.specs.declared.passes.QuietPass.{QuietPass}

-- ---- one credit

abbrev IsSmall : ℕ → Type 0
IsSmall n = n < 2 ^ 32

moved-room : (bound grant content : ℕ) (credit : ℤ) → IsSmall grant → IsSmall content → HasRoom bound credit
    → HasRoom (bound + 2 ^ 32) (credit +ℤ (pos grant -ℤ pos content))
moved-room bound grant content credit g c room =
    let low = room.0 in let high = room.1 in (omega (arith, ints), omega (arith, ints))

small-content : (d : Side) (frame : Frame) → IsInRange frame → IsSmall (content_by d frame)
small-content d frame range =
    let length = range.length in cond_both (is_side d frame.side && is_content frame.body) _ _ IsSmall
    (λ _. omega arith) (λ _. omega arith)

small-grant : (d : Side) (stream : ℕ) (frame : Frame) → MovesLittle frame → IsSmall (grant_to d stream frame)
small-grant d stream frame little =
    let grant = little.grant in cond_both (is_side (other d) frame.side && (frame.stream == stream)) _ _ IsSmall
    (λ _. omega arith) (λ _. omega arith)

connection-room : (d : Side) (bound : ℕ) (credit : ℤ) (frame : Frame) → IsInRange frame → MovesLittle frame
    → HasRoom bound credit → HasRoom (bound + 2 ^ 32) (credit_after d credit frame)
connection-room d bound credit frame range little room =
    moved-room bound _ _ credit (small-grant d 0 frame little) (small-content d frame range) room

-- ---- settings

small-or : (initial : Option ℕ) (before : ℕ) → ForSome initial IsSmall → IsSmall before
    → IsSmall (unwrap_or initial before)
small-or None before h small = small
small-or (Some initial) before h small = h initial refl

small-new : (d : Side) (change : Option Change) (before : ℕ)
    → ForSome change (λ (change : Change). ForSome change.initial IsSmall) → IsSmall before
    → IsSmall (new_initial change d before)
small-new d None before h small = small
small-new d (Some change) before h small =
    cond_both (is_side d change.side) _ _ IsSmall (λ _. small-or change.initial before (h change refl) small)
    (λ _. small)

small-at : (sent : List Settings) (at : ℕ) → AllByRecursion IsInitialSmall sent
    → ForSome (slice_get sent at) IsInitialSmall
small-at [] at h = λ settings e. absurd cc
small-at (settings ∷ sent) zero h = λ other e. let same : settings ≡ other = cc in subst IsInitialSmall same h.0
small-at (settings ∷ sent) (suc at) h = small-at sent at h.1

small-taking : (frame : Frame) (taken : Option Settings) → ForSome taken IsInitialSmall
    → ForSome (change_taking frame taken) (λ (change : Change). ForSome change.initial IsSmall)
small-taking frame None h = λ change e. absurd cc
small-taking frame (Some settings) h = λ change e.
    let same : settings.initial ≡ change.initial =
    ap (λ (one : Option Change). (unwrap_or one change).initial) e in
    subst (λ (initial : Option ℕ). ForSome initial IsSmall) same (h settings refl)

small-taken : (now : InForce) (frame : Frame)
    → AllByRecursion IsInitialSmall (side_of (other frame.side) now.sent) → ForSome (taken now frame) IsInitialSmall
small-taken now frame h =
    cond_both (is_ack frame.body) _ _ (λ (taken : Option Settings). ForSome taken IsInitialSmall)
    (λ _. small-at (side_of (other frame.side) now.sent) (side_of frame.side now.paired) h)
    (λ _ settings e. absurd cc)

small-change : (now : InForce) (frame : Frame)
    → AllByRecursion IsInitialSmall (side_of (other frame.side) now.sent)
    → ForSome (change_of now frame) (λ (change : Change). ForSome change.initial IsSmall)
small-change now frame h = small-taking frame (taken now frame) (small-taken now frame h)

small-sent : (b : Bool) (sent : List Settings) (frame : Frame) → AllByRecursion IsInitialSmall sent
    → MovesLittle frame → AllByRecursion IsInitialSmall (sent ++ (if b then settings_in frame.body else []))
small-sent b sent frame h little =
    each-append IsInitialSmall sent _ h
    (cond_both b _ _ (AllByRecursion IsInitialSmall) (λ _. little.initial) (λ _. tt))

-- ---- a window of a stream

room-unless : (b : Bool) (bound : ℕ) (credit : ℤ) → HasRoom bound credit
    → WindowHasRoom bound (if b then None else Some credit)
room-unless true bound credit room = λ other e. absurd cc
room-unless false bound credit room = λ other e. let same : credit ≡ other = cc in subst (HasRoom bound) same room

step-room : (bound grant content before after : ℕ) (credit : ℤ) → IsSmall grant → IsSmall content → IsSmall before
    → IsSmall after → (after ≡ before) ⊎ ((grant ≡ 0) × (content ≡ 0)) → HasRoom bound credit
    → HasRoom (bound + 2 ^ 32) (credit +ℤ ((pos grant -ℤ pos content) +ℤ (pos after -ℤ pos before)))
step-room bound grant content before after credit g c b a (inl e) room =
    let low = room.0 in let high = room.1 in (omega (arith, ints), omega (arith, ints))
step-room bound grant content before after credit g c b a (inr e) room =
    let low = room.0 in
    let high = room.1 in
    let first = e.0 in
    let second = e.1 in
    (omega (arith, ints), omega (arith, ints))

amount-of : (P : ℕ → Type 0) (amount : Frame → ℕ) (b : Bool) (frame : Frame) → P (amount frame) → P 0
    → P (option_map_or amount (if b then Some frame else None) 0)
amount-of P amount true frame h k = h
amount-of P amount false frame h k = k

ack-moves-nothing : (body : Body) → is_ack body ≡ true → (increment body ≡ 0) × (is_content body ≡ false)
ack-moves-nothing SettingsAck e = (refl, refl)
ack-moves-nothing _ e = absurd cc

acked-grant : (d : Side) (stream : ℕ) (frame : Frame) → increment frame.body ≡ 0 → grant_to d stream frame ≡ 0
acked-grant d stream frame none =
    cond_both (is_side (other d) frame.side && (frame.stream == stream)) _ _ (λ n. n ≡ 0) (λ _. none) (λ _. refl)

acked-content : (d : Side) (frame : Frame) → is_content frame.body ≡ false → content_by d frame ≡ 0
acked-content d frame none = simp (none, and-false)

moves-by-one : (d : Side) (stream : ℕ) (now : InForce) (frame : Frame) (before : ℕ)
    → (new_initial (change_of now frame) d before ≡ before)
    ⊎ ((step_amount (grant_to d stream) (step_of now frame stream) ≡ 0)
    × (step_amount (content_by d) (step_of now frame stream) ≡ 0))
moves-by-one d stream now frame before = by-ack (is_ack frame.body) refl
  where
    by-ack : (b : Bool) → is_ack frame.body ≡ b
        → (new_initial (change_of now frame) d before ≡ before)
        ⊎ ((step_amount (grant_to d stream) (step_of now frame stream) ≡ 0)
        × (step_amount (content_by d) (step_of now frame stream) ≡ 0))
    by-ack false e = inl (rw e refl)
    by-ack true e =
        let nothing = ack-moves-nothing frame.body e in
        inr (
          amount-of (λ n. n ≡ 0) (grant_to d stream) (meets stream frame) frame
              (acked-grant d stream frame nothing.0) refl,
          amount-of (λ n. n ≡ 0) (content_by d) (meets stream frame) frame (acked-content d frame nothing.1) refl,
        )

module _ (d : Side) (bound : ℕ) (stream : ℕ) (now : InForce) (frame : Frame) (range : IsInRange frame)
    (little : MovesLittle frame) (small : IsSmall (side_of d now.initial))
    (said : AllByRecursion IsInitialSmall (side_of (other frame.side) now.sent)) where
  after-small : IsSmall (new_initial (change_of now frame) d (side_of d now.initial))
  after-small = small-new d (change_of now frame) (side_of d now.initial) (small-change now frame said) small

  live-room : (window : Option ℤ) → WindowHasRoom bound window
      → WindowHasRoom (bound + 2 ^ 32) (window_after d stream now.initial (step_of now frame stream) window)
  live-room None room = λ credit e. absurd cc
  live-room (Some before) room =
      let step = step_of now frame stream in
      room-unless
      (step_test (ends_window d) step || (window_step d stream now.initial step before).overflowing)
      (bound + 2 ^ 32) _
      (step-room bound (step_amount (grant_to d stream) step) (step_amount (content_by d) step) (side_of d now.initial)
      (new_initial (change_of now frame) d (side_of d now.initial)) before
      (amount-of IsSmall (grant_to d stream) (meets stream frame) frame (small-grant d stream frame little)
      (omega arith))
      (amount-of IsSmall (content_by d) (meets stream frame) frame (small-content d frame range) (omega arith)) small
      after-small (moves-by-one d stream now frame (side_of d now.initial)) (room before refl))

  opening-room : WindowHasRoom (bound + 2 ^ 32) (window_at_opening d stream now.initial (step_of now frame stream))
  opening-room =
      room-unless (step_test (is_last_of d stream) (step_of now frame stream)) (bound + 2 ^ 32) _
      (omega (arith, ints, small), omega (arith, ints, small))

  window-room : (entry : Stream) → WindowHasRoom bound (side_of d entry.window)
      → WindowHasRoom (bound + 2 ^ 32)
      (if opens stream entry (step_of now frame stream)
      then window_at_opening d stream now.initial (step_of now frame stream)
      else window_after d stream now.initial (step_of now frame stream) (side_of d entry.window))
  window-room entry room =
      cond_both (opens stream entry (step_of now frame stream)) _ _ (WindowHasRoom (bound + 2 ^ 32))
      (λ _. opening-room) (λ _. live-room (side_of d entry.window) room)

-- ---- all credits of a state

-- no credit is further from 0 than this, and initial windows are of 32 bits
pub record IsBounded (bound : ℕ) (state : PassState) : Type 0 where
  pub connection : (d : Side) → HasRoom bound (side_of d state.connection.credit)
  pub window : (d : Side) (stream : ℕ) → WindowHasRoom bound (side_of d (state.streams stream).window)
  pub initial : (d : Side) → IsSmall (side_of d state.in_force.initial)
  pub sent : (d : Side) → AllByRecursion IsInitialSmall (side_of d state.in_force.sent)

bounded-start : IsBounded (2 ^ 32) pass_start
bounded-start = record { connection = connection; window = window; initial = initial; sent = sent }
  where
    connection : (d : Side) → HasRoom (2 ^ 32) (side_of d pass_start.connection.credit)
    connection Client = (omega (arith, ints), omega (arith, ints))
    connection Server = (omega (arith, ints), omega (arith, ints))

    window : (d : Side) (stream : ℕ) → WindowHasRoom (2 ^ 32) (side_of d (pass_start.streams stream).window)
    window Client stream = λ credit e. absurd cc
    window Server stream = λ credit e. absurd cc

    initial : (d : Side) → IsSmall (side_of d pass_start.in_force.initial)
    initial Client = omega arith
    initial Server = omega arith

    sent : (d : Side) → AllByRecursion IsInitialSmall (side_of d pass_start.in_force.sent)
    sent Client = tt
    sent Server = tt

module _ (bound : ℕ) (state : PassState) (frame : Frame) (range : IsInRange frame) (little : MovesLittle frame)
    (is : IsBounded bound state) where
  bounded-next : IsBounded (bound + 2 ^ 32) (next state frame)
  bounded-next = record { connection = connection; window = window; initial = initial; sent = sent }
    where
      connection : (d : Side) → HasRoom (bound + 2 ^ 32) (side_of d (next state frame).connection.credit)
      connection Client = connection-room Client bound state.connection.credit.client frame range little
          (is.connection Client)
      connection Server = connection-room Server bound state.connection.credit.server frame range little
          (is.connection Server)

      window : (d : Side) (stream : ℕ)
          → WindowHasRoom (bound + 2 ^ 32) (side_of d ((next state frame).streams stream).window)
      window Client stream =
          window-room Client bound stream state.in_force frame range little (is.initial Client)
          (is.sent (other frame.side)) (state.streams stream) (is.window Client stream)
      window Server stream =
          window-room Server bound stream state.in_force frame range little (is.initial Server)
          (is.sent (other frame.side)) (state.streams stream) (is.window Server stream)

      initial : (d : Side) → IsSmall (side_of d (next state frame).in_force.initial)
      initial Client =
          after-small Client bound 0 state.in_force frame range little (is.initial Client) (is.sent (other frame.side))
      initial Server =
          after-small Server bound 0 state.in_force frame range little (is.initial Server) (is.sent (other frame.side))

      sent : (d : Side) → AllByRecursion IsInitialSmall (side_of d (next state frame).in_force.sent)
      sent Client = small-sent (is_side Client frame.side) state.in_force.sent.client frame (is.sent Client) little
      sent Server = small-sent (is_side Server frame.side) state.in_force.sent.server frame (is.sent Server) little

wider : (bound more : ℕ) (state : PassState) → bound ≤ more → IsBounded bound state → IsBounded more state
wider bound more state le is = record {
  connection = λ d. room-wider bound more _ le (is.connection d);
  window = λ d stream credit e. room-wider bound more credit le (is.window d stream credit e);
  initial = is.initial;
  sent = is.sent;
}

bounded-after : (bound low : ℕ) (state : PassState) (frames : List Frame) → IsOrderlyFrom low frames
    → AllByRecursion MovesLittle frames → IsBounded bound state
    → IsBounded (bound + 2 ^ 32 * length frames) (state_from state frames)
bounded-after bound low state [] orderly little is = wider bound _ state (omega arith) is
bounded-after bound low state (frame ∷ frames) orderly little is =
    wider (bound + 2 ^ 32 + 2 ^ 32 * length frames) _ (state_from (next state frame) frames) (omega arith)
    (bounded-after (bound + 2 ^ 32) (frame.number + 1) (next state frame) frames orderly.2 little.1
    (bounded-next bound state frame orderly.1 little.0 is))

-- before a frame that follows in order, a credit has room for what that moves
pub have-room : (frames : List Frame) (frame : Frame) → AllByRecursion MovesLittle frames
    → IsOrderly (frames ++ frame ∷ []) → HasRoomLeft (state_after frames)
have-room frames frame little orderly =
    let few : length (frames ++ frame ∷ []) < 2 ^ 28 =
    omega (arith, length-orderly 0 (frames ++ frame ∷ []) (omega arith) orderly) in
    let bounded : IsBounded (2 ^ 60) (state_after frames) =
    wider (2 ^ 32 + 2 ^ 32 * length frames) (2 ^ 60) (state_after frames)
    (omega (arith, length-append frames (frame ∷ [])))
    (bounded-after (2 ^ 32) 0 pass_start frames (orderly-upto 0 frames (frame ∷ []) orderly) little bounded-start) in
    record {
      connection = (bounded.connection Client, bounded.connection Server);
      client = bounded.window Client;
      server = bounded.window Server;
    }

-- ---- the machine

pub found-room : {frames : List Frame} {machine : FoundPass} (frame : Frame) → IsFoundAfter frames machine
    → machine.has_stopped ≡ false → IsOrderly (frames ++ frame ∷ []) → HasRoomKept machine.pass
found-room {frames} frame h on orderly =
    let goes_on = h.goes_on on in
    let whole : frames ≡ h.met = h.parts ∙ ap (λ l. h.met ++ l) goes_on.0 ∙ append-nil h.met in
    record {
      state = state_after h.met;
      connection = goes_on.1.connection;
      streams = goes_on.1.streams;
      room = have-room h.met frame h.little (subst (λ l. IsOrderly (l ++ frame ∷ [])) whole orderly);
    }

pub connection-kept : {machine : QuietPass} → HasRoomKept machine
    → HaveRoom (2 ^ 60) machine.connection.state.credit
connection-kept kept =
    subst (λ (now : ConnectionState). HaveRoom (2 ^ 60) now.credit) (sym kept.connection) kept.room.connection

pub streams-kept : {machine : QuietPass} → HasRoomKept machine → HoldRoom machine.streams
streams-kept kept =
    (kept.state.streams, kept.streams, record { client = kept.room.client; server = kept.room.server })
