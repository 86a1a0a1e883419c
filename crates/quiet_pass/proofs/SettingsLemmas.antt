-- What SETTINGS and acknowledgements show, and the machine after them.
use Rattle.std.specs.List.{list_any}
use Rattle.audit_terms.specs.Finding.{finding_at, stops}
use Rattle.audit_terms.specs.Pass.{PassState, item_of, opens_stream, step_of, streams_said}
use Rattle.audit_terms.specs.code.runs.Orderly.{IsInRange}
use Rattle.audit_terms.specs.declared.kinds.Kind.TheVariants.{UnmatchedAck}
use Rattle.quiet_pass.proofs.ChangeLemmas.{quiet-said}
use Rattle.quiet_pass.proofs.PassLemmas.{last-if, none-taken}
use Rattle.quiet_pass.proofs.SaidLemmas.{AreAllSaid, opens-as, said-step, said_of, spoken-next}
use Rattle.quiet_pass.proofs.StreamFrames.{after-still, said-still, unopened-still}
use Rattle.quiet_pass.proofs.AllLemmas.{kept-same}
use Rattle.quiet_pass.specs.code.Connection.{as_item}
use Rattle.quiet_pass.specs.code.QuietPass.{MovesNoStream, StandsFor}
use Rattle.quiet_pass.specs.code.SaidFrames.{IsBroughtSaying, IsConnectionKept, IsConnectionSaid, IsSaidStep}
use Rattle.quiet_pass.specs.code.SaidFrames.{change_alone}
use Rattle.quiet_pass.specs.code.AllStreams.{AreKept}
use Rattle.quiet_pass.specs.code.Streams.{IsChangeSaid}
use Rattle.quiet_pass.specs.declared.all_streams.AllStreams.{AllStreams}
use Rattle.quiet_pass.specs.declared.passes.QuietPass.{QuietPass}
use Rattle.fault_rules.specs.code.Pending.{IsBrought, IsPending}
use Rattle.stream_credit.proofs.Words.{◌≡◌, ℕ, ◌&&◌, Bool, false, List, [], ◌∷◌, ◌++◌, Option, refl, sym}
use Rattle.stream_credit.proofs.Words.{ap, ◌∙◌, subst, is_ack, is_none, pos, say}
use Rattle.stream_credit.proofs.Words.{Change, ConnectionState, Finding, Frame, InForce, Sides}
use Rattle.stream_credit.proofs.Words.{flat_map, in_order, initial_after}
use Rattle.stream_credit.proofs.Words.{settings_said, shown, stream_after, stream_said, taken}

spoken-of : {old mid : QuietPass} {frame : Frame} {change : Option Change} {before after : List Finding}
    {connection : ConnectionState} → mid.last ≡ old.last → mid.connection ≡ old.connection
    → IsConnectionSaid mid frame false change before after connection
    → IsConnectionSaid old frame false change before after connection
spoken-of last same spoken = record {
  said = λ previous e. rw (← same) (spoken.said previous (rw last e));
  next = rw (← same) spoken.next;
}

flat-same : (f g : ℕ → List Finding) (some : List ℕ) → ((s : ℕ) → f s ≡ g s) → flat_map f some ≡ flat_map g some
flat-same f g [] same = refl
flat-same f g (s ∷ some) same = rw (same s, flat-same f g some same) refl

-- where the windows stay as they are
pub brought-quietly : (frames_shown : Bool) {frame : Frame} {change : Option Change} (machine : QuietPass)
    (found : List Finding)
    → machine.initial ≡ initial_after change machine.initial
    → IsBroughtSaying frames_shown frame change machine machine found found
brought-quietly frames_shown {frame} {change} machine found is = record {
  initial = is;
  streams = quiet-said frames_shown machine.initial frame.number change (λ streams. AreKept streams machine.streams)
      (kept-same machine.streams) found is;
  connection = refl;
  last = refl;
  pending = refl;
}

module _ {frames_shown : Bool} {frame : Frame} {old mid moved new : QuietPass} {change : Option Change}
    {connection : ConnectionState} {start before after found : List Finding} (range : IsInRange frame)
    (still : MovesNoStream frame)
    (brought : (now : InForce) → IsPending now old.pending → IsBrought now frame change mid.pending)
    (ml : mid.last ≡ old.last) (mi : mid.initial ≡ old.initial) (mc : mid.connection ≡ old.connection)
    (ms : mid.streams ≡ old.streams)
    (unmatched : start ≡ say (is_ack frame.body && is_none change)
    (finding_at UnmatchedAck frame.number frame.stream frame.side (pos 0)))
    (spoken : IsConnectionSaid mid frame false change start before connection)
    (m : IsBroughtSaying frames_shown frame change mid moved before after) (is : found
    ≡ shown frames_shown (in_order after))
    (kept : list_any stops found ≡ false
    → IsConnectionKept frame connection moved new × (new.streams ≡ moved.streams)) where
  module _ (state : PassState) (stands : StandsFor old state) where
    own : IsBrought state.in_force frame change mid.pending
    own = brought state.in_force stands.pending

    item : as_item frame false change ≡ item_of state frame
    item =
        ap (λ (opens : Bool). as_item frame opens change)
        (opens-as frame state false (state.streams frame.stream) (λ _. refl)
        (sym (unopened-still frame still frame.stream state.in_force.initial (state.streams frame.stream))))
        ∙ ap (λ (c : Option Change). as_item frame (opens_stream state frame) c) (sym own.brings)

    settings : start ≡ settings_said state.in_force frame
    settings =
        unmatched
        ∙ ap (λ b. say (is_ack frame.body && b)
        (finding_at UnmatchedAck frame.number frame.stream frame.side (pos 0)))
        (ap (λ (c : Option Change). is_none c) (sym own.brings) ∙ none-taken frame (taken state.in_force frame))

    told : IsChangeSaid frames_shown state.in_force.initial (change_alone frame change)
        (λ streams. AreKept streams old.streams)
        (λ streams. AreKept streams moved.streams) before after
    told =
        subst (λ (i : Sides ℕ). IsChangeSaid frames_shown i (change_alone frame change)
        (λ streams. AreKept streams old.streams)
        (λ streams. AreKept streams moved.streams) before after) (mi ∙ stands.initial)
        (subst (λ (k : AllStreams). IsChangeSaid frames_shown mid.initial (change_alone frame change)
        (λ streams. AreKept streams k) (λ streams. AreKept streams moved.streams) before after) ms m.streams)

    said-is : (s : ℕ) → said_of state frame s
        ≡ stream_said s state.in_force.initial (state.streams s) (change_alone frame change)
    said-is s =
        ap (λ (c : Option Change). stream_said s state.in_force.initial (state.streams s)
        (record { number = frame.number; frame = (step_of state.in_force frame s).frame; change = c })) own.brings
        ∙ said-still frame still s state.in_force.initial (state.streams s) change

    after-is : (s : ℕ) → stream_after s state.in_force.initial (state.streams s) (step_of state.in_force frame s)
        ≡ stream_after s state.in_force.initial (state.streams s) (change_alone frame change)
    after-is s =
        ap (λ (c : Option Change). stream_after s state.in_force.initial (state.streams s)
        (record { number = frame.number; frame = (step_of state.in_force frame s).frame; change = c })) own.brings
        ∙ after-still frame still s state.in_force.initial (state.streams s) change

    all-said : AreAllSaid frames_shown state frame told.some
    all-said = record {
      named = (told.names state.streams stands.streams).named;
      once = (told.names state.streams stands.streams).once;
      small = (told.names state.streams stands.streams).small;
      others = λ other above none.
          ap (shown frames_shown) (said-is other) ∙ told.others state.streams stands.streams other above none;
    }

    shown-is : shown frames_shown after
        ≡ shown frames_shown before ++ shown frames_shown (streams_said told.some state frame)
    shown-is =
        told.said state.streams stands.streams
        ∙ ap (λ l. shown frames_shown before ++ shown frames_shown l)
        (sym (flat-same (said_of state frame)
        (λ s. stream_said s state.in_force.initial (state.streams s) (change_alone frame change)) told.some said-is))

    pub said-on-settings : IsSaidStep frames_shown state frame found new
    said-on-settings =
        let heard = spoken-of ml mc spoken in
        said-step stands heard item frames_shown after told.some all-said range settings shown-is is
        (λ on.
        let keeps = (kept on).0 in
        let same = (kept on).1 in record {
          client = keeps.client
              ∙ last-if _ frame state.previous.client moved.last.client (rw (m.last, ml) stands.client);
          server = keeps.server
              ∙ last-if _ frame state.previous.server moved.last.server (rw (m.last, ml) stands.server);
          pending = rw (keeps.pending, m.pending) own.kept;
          initial = keeps.initial ∙ m.initial ∙ ap (initial_after change) (mi ∙ stands.initial)
              ∙ ap (λ (c : Option Change). initial_after c state.in_force.initial) (sym own.brings);
          connection = keeps.kept ∙ spoken-next stands heard item;
          streams = rw same
              (kept-same moved.streams
              (λ s. stream_after s state.in_force.initial (state.streams s) (change_alone frame change))
              (λ s. stream_after s state.in_force.initial (state.streams s) (step_of state.in_force frame s))
              (λ s above. sym (after-is s)) (told.met state.streams stands.streams));
        })
