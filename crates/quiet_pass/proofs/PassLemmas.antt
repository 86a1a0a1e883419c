-- What the machine stands for, from frame to frame.
use Rattle.stream_credit.proofs.Words.{◌≡◌, Option, is_none, eq-eqb, Client, Server, Finding, is_side, side_of, InForce}
use Rattle.stream_credit.proofs.Words.{ℕ, ◌<◌, ◌&&◌, not, List, [], ◌∷◌, ◌++◌, Some, None, refl, sym, ap, ◌∙◌, Side}
use Rattle.stream_credit.proofs.Words.{◌+◌, ◌==◌, Bool, true, subst, arith, Sides, Frame, Change, Stream, is_ack, taken}
use Rattle.stream_credit.proofs.Words.{false, is_some, nat_tests, append-nil, and-false, Settings, change_of}
use Rattle.stream_credit.proofs.Words.{if◌then◌else◌, initial_after, ConnectionState, connection_said, connection_after}
use Rattle.stream_credit.proofs.Words.{append_assoc, stream_said, each-in_order, flat_map, change_taking, settings_said}
use Rattle.std.proofs.Common.{◌%◌, filter}
use Rattle.audit_terms.specs.Frame.{is_server_promise, meets, promised_by}
use Rattle.audit_terms.specs.declared.items.Item.{Item}
use Rattle.audit_terms.specs.Life.{is_opening}
use Rattle.audit_terms.specs.LocalFault.{local_said}
use Rattle.audit_terms.specs.Pass.{PassState, step_of, opens_stream, next, streams_said, said, full_from}
use Rattle.audit_terms.specs.Pass.{first_of, streams_of, item_of}
use Rattle.audit_terms.specs.code.runs.States.{state_from}
use Rattle.stream_credit.proofs.QuietSteps.{both, unsaid}
use Rattle.audit_terms.specs.declared.last_frames.LastFrame.{LastFrame}
use Rattle.fault_rules.specs.declared.pending_settings.Pending.{Pending}
use Rattle.quiet_pass.specs.declared.passes.QuietPass.{QuietPass}
use Rattle.quiet_pass.specs.declared.all_streams.AllStreams.{AllStreams}
use Rattle.stream_credit.specs.code.Standings.{IsQuiet, AreQuiet}
use Rattle.audit_terms.specs.code.LastFrame.{last_of}
use Rattle.fault_rules.specs.code.Pending.{IsPending, IsBrought}
use Rattle.quiet_pass.specs.code.Connection.{as_item, IsConnectionAfter}
use Rattle.quiet_pass.specs.code.AllStreams.{AreKept}
use Rattle.quiet_pass.specs.code.Streams.{AreMet, AreMetOn}
use Rattle.quiet_pass.specs.code.QuietPass.{AreNamed, BringsNothing, HasBrought, IsQuietStep, IsRestMet, StandsFor}
use Rattle.stream_credit.proofs.StandingLemmas.{promises-other}
use Rattle.quiet_pass.proofs.AllLemmas.{kept-same}
use Rattle.quiet_pass.proofs.StreamLemmas.{all-past}

-- ---- the connection and the streams

-- a frame on stream 0 opens no stream
pub unopened : (frame : Frame) (entry : Stream) → frame.stream ≡ 0 → is_opening frame.stream entry.life frame ≡ false
unopened frame entry zero =
    let even : (frame.stream % 2 == 1) ≡ false = rw zero refl in simp (even, promises-other, and-false)

-- a frame that is no SETTINGS and no acknowledgement brings nothing
pub plain-brought : (frame : Frame) (now : InForce) (pending : Pending) → BringsNothing frame → IsPending now pending
    → IsBrought now frame None pending
plain-brought frame now pending plain p = record {
  brings = rw plain.ack refl;
  kept = record {
    client = let none = plain.settings in grind (arith, p.client, append-nil now.sent.client);
    server = let none = plain.settings in grind (arith, p.server, append-nil now.sent.server);
    by_client = p.by_client ∙ unpaired Client;
    by_server = p.by_server ∙ unpaired Server;
  };
}
  where
    unpaired : (d : Side) → side_of d now.paired
        ≡ side_of d now.paired + (if is_side d frame.side && is_some (taken now frame) then 1 else 0)
    unpaired d = rw plain.ack (simp and-false (omega arith))

-- SETTINGS or an acknowledgement that moves no window of a stream
pub rest-still : {frame : Frame} {change : Option Change} {old new : QuietPass} (mid : QuietPass)
    → HasBrought frame change old mid → (is_ack frame.body && is_none change) ≡ false → frame.stream ≡ 0
    → is_server_promise frame ≡ false → IsConnectionAfter frame false change mid.connection new.connection
    → mid.initial ≡ initial_after change mid.initial → new.pending ≡ mid.pending → new.last ≡ mid.last
    → new.initial ≡ mid.initial → new.streams ≡ mid.streams → IsRestMet frame old new
rest-still {frame} {change} {old} {new} mid b answered zero unpromised c is p l i s = record {
  change = change;
  opens = false;
  brought = λ now h. rw p (b.brought now h);
  answered = answered;
  connection = rw (← b.connection) c;
  opening = λ streams h. unopened frame (streams frame.stream) zero;
  streams = λ streams h.
      subst (λ (kept : AllStreams). AreMet old.initial frame change streams (λ next. AreKept next kept))
      (sym (s ∙ b.streams))
      (all-past old.initial frame change (λ next. AreKept next old.streams) (kept-same old.streams) streams zero
      unpromised (rw b.initial at is) h);
  initial = i ∙ is ∙ ap (initial_after change) b.initial;
  last = l ∙ b.last;
}

pub rest-stream : {frame : Frame} {opens : Bool} {old new : QuietPass} → BringsNothing frame
    → ((streams : ℕ → Stream) → AreKept streams old.streams
    → AreMetOn old.initial frame opens streams (λ next. AreKept next new.streams))
    → IsConnectionAfter frame opens None old.connection new.connection → new.pending ≡ old.pending
    → new.last ≡ old.last → new.initial ≡ old.initial → IsRestMet frame old new
rest-stream {frame} {opens} {old} plain met c p l i = record {
  change = None;
  opens = opens;
  brought = λ now h. rw p (plain-brought frame now old.pending plain h);
  answered = rw plain.ack refl;
  connection = c;
  opening = λ streams h. (met streams h).opening;
  streams = λ streams h. (met streams h).met;
  initial = i;
  last = l;
}

-- a frame on stream 0
pub unmet : {frame : Frame} (initial : Sides ℕ) (streams : ℕ → Stream) (kept : AllStreams) → frame.stream ≡ 0
    → is_server_promise frame ≡ false → AreKept streams kept
    → AreMetOn initial frame false streams (λ next. AreKept next kept)
unmet {frame} initial streams kept zero unpromised h = record {
  opening = unopened frame (streams frame.stream) zero;
  met = all-past initial frame None (λ next. AreKept next kept) (kept-same kept) streams zero unpromised refl h;
}

-- ---- one frame

pub last-if : (b : Bool) (frame : Frame) (previous : Option Frame) (last : LastFrame) → last ≡ last_of previous
    → (if b then last_of (Some frame) else last) ≡ last_of (if b then Some frame else previous)
last-if b frame previous last e = grind arith

pub flat-quiet : (rule : ℕ → List Finding) (streams : List ℕ)
    → AreNamed streams → ((s : ℕ) → 0 < s → AreQuiet (rule s)) → AreQuiet (flat_map rule streams)
flat-quiet rule [] named h = tt
flat-quiet rule (s ∷ streams) named h = both _ _ (h s named.0) (flat-quiet rule streams named.1 h)

pub none-taken : (frame : Frame) (settings : Option Settings)
    → is_none (change_taking frame settings) ≡ is_none settings
none-taken frame None = refl
none-taken frame (Some settings) = refl

module _ (frame : Frame) (old mid : QuietPass) (state : PassState) (stands : StandsFor old state)
    (rest : IsRestMet frame old mid) where
  own-last : (d : Side) → side_of d old.last ≡ last_of (side_of d state.previous)
  own-last Client = stands.client
  own-last Server = stands.server

  opens-is : opens_stream state frame ≡ is_opening frame.stream (state.streams frame.stream).life frame
  opens-is = let met : meets frame.stream frame ≡ true = rw (eq-eqb frame.stream frame.stream refl) refl in rw met refl

  own : IsBrought state.in_force frame rest.change mid.pending
  own = rest.brought state.in_force stands.pending

  all : AreMet state.in_force.initial frame (change_of state.in_force frame) state.streams
      (λ next. AreKept next mid.streams)
  all = rw (own.brings, ← stands.initial) (rest.streams state.streams stands.streams)

  item : as_item frame rest.opens rest.change ≡ item_of state frame
  item = rw (opens-is, rest.opening state.streams stands.streams, own.brings) refl

  settings-quiet : AreQuiet (settings_said state.in_force frame)
  settings-quiet =
      unsaid _ _ (ap (λ b. is_ack frame.body && b) (sym (none-taken frame (taken state.in_force frame)))
      ∙ ap (λ (c : Option Change). is_ack frame.body && is_none c) own.brings ∙ rest.answered)

  connection-quiet : AreQuiet (connection_said state.connection (item_of state frame))
  connection-quiet =
      subst (λ (now : ConnectionState). AreQuiet (connection_said now (item_of state frame))) stands.connection
      (subst (λ (item : Item). AreQuiet (connection_said old.connection.state item)) item
      rest.connection.said)

  pub step-met : (last : Sides LastFrame)
      → ((previous : Option Frame) → side_of frame.side old.last ≡ last_of previous → local_said previous frame ≡ [])
      → last.client ≡ (if is_side Client frame.side then last_of (Some frame) else mid.last.client)
      → last.server ≡ (if is_side Server frame.side then last_of (Some frame) else mid.last.server)
      → IsQuietStep state frame (record mid { last = last })
  step-met last followed client server = record {
    shown = λ streams named.
        each-in_order IsQuiet _
        (both _ (streams_said streams state frame)
        (both _ _ (both (local_said (side_of frame.side state.previous) frame) _
        (rw (followed (side_of frame.side state.previous) (own-last frame.side)) tt) settings-quiet)
        connection-quiet)
        (flat-quiet
        (λ s. stream_said s state.in_force.initial (state.streams s) (step_of state.in_force frame s)) streams named
        all.said));
    stands = record {
      client = client ∙ last-if _ frame state.previous.client mid.last.client (rw rest.last stands.client);
      server = server ∙ last-if _ frame state.previous.server mid.last.server (rw rest.last stands.server);
      pending = own.kept;
      initial = rest.initial ∙ ap (λ (c : Option Change). initial_after c old.initial) (sym own.brings)
          ∙ ap (initial_after (change_of state.in_force frame)) stands.initial;
      connection = rest.connection.after
          ∙ ap (λ (item : Item). connection_after old.connection.state item) item
          ∙ ap (λ (now : ConnectionState). connection_after now (item_of state frame)) stands.connection;
      streams = all.after;
    };
  }

-- ---- the frames so far

pub full-append : (streams : List ℕ) (state : PassState) (front rest : List Frame)
    → full_from streams state (front ++ rest)
    ≡ full_from streams state front ++ full_from streams (state_from state front) rest
full-append streams state [] rest = refl
full-append streams state (one ∷ front) rest =
    rw (full-append streams (next state one) front rest, append_assoc (said streams state one)) refl

pub full-more : (streams : List ℕ) (frame : Frame) (state : PassState) (frames : List Frame)
    → full_from streams state (frames ++ frame ∷ [])
    ≡ full_from streams state frames ++ said streams (state_from state frames) frame
full-more streams frame state frames =
    full-append streams state frames (frame ∷ [])
    ∙ ap (λ l. full_from streams state frames ++ l) (append-nil (said streams (state_from state frames) frame))

pub state-more : (frame : Frame) (state : PassState) (frames : List Frame)
    → state_from state (frames ++ frame ∷ []) ≡ next (state_from state frames) frame
state-more frame state [] = refl
state-more frame state (one ∷ frames) = state-more frame (next state one) frames

-- ---- the streams that are named

named-left : (test : ℕ → Bool) (streams : List ℕ) → AreNamed streams → AreNamed (filter test streams)
named-left test [] h = tt
named-left test (s ∷ streams) h = grind (arith, named-left test streams h.1)

pub named-first : (s : ℕ) (streams : List ℕ) → AreNamed streams → AreNamed (first_of s streams)
named-first s streams h = grind (arith, nat_tests, named-left (λ other. not (other == s)) streams h)

pub named-all : (frames : List Frame) → AreNamed (streams_of frames)
named-all [] = tt
named-all (frame ∷ frames) =
    named-first frame.stream (first_of (promised_by frame) (streams_of frames))
    (named-first (promised_by frame) (streams_of frames) (named-all frames))
