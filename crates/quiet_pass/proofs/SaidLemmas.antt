-- What a frame shows, and the machine after it.
use Rattle.std.proofs.Common.{◌≢◌, ap₂}
use Rattle.std.specs.List.{IsDistinct, list_any}
use Rattle.audit_terms.proofs.SaidPlaces.{AreAt, at-append, at-connection, at-in_order, at-local, at-settings}
use Rattle.audit_terms.proofs.SaidPlaces.{at-nil, at-stream, numbered-at}
use Rattle.audit_terms.proofs.FindingLists.{each-append, each-filter}
use Rattle.audit_terms.proofs.FindingOrder.{in_order-alike, in_order-append_comm}
use Rattle.audit_terms.proofs.ShownFindings.{shown-append, shown-flat_map}
use Rattle.audit_terms.specs.Frame.{meets, promised_by, promised_in, promises}
use Rattle.audit_terms.specs.Finding.{stops}
use Rattle.audit_terms.specs.Life.{is_opening}
use Rattle.audit_terms.specs.LocalFault.{local_said}
use Rattle.audit_terms.specs.Pass.{PassState, first_of, item_of, next, opens_stream, step_of, streams_said}
use Rattle.audit_terms.specs.code.LastFrame.{last_of}
use Rattle.audit_terms.specs.code.runs.Orderly.{IsInRange}
use Rattle.quiet_pass.proofs.AlikeLemmas.{alike-parts, alike-shown, same-order}
use Rattle.quiet_pass.proofs.ChangeLemmas.{none-both}
use Rattle.quiet_pass.proofs.PassLemmas.{last-if, named-first, plain-brought, unopened}
use Rattle.quiet_pass.proofs.StillLemmas.{unshown-change}
use Rattle.quiet_pass.proofs.StreamLemmas.{step-past, unmoved-entry}
use Rattle.quiet_pass.specs.code.Connection.{as_item}
use Rattle.quiet_pass.specs.code.QuietPass.{AreNamed, BringsNothing, StandsFor}
use Rattle.quiet_pass.specs.code.SaidFrames.{HaveOwn, IsConnectionKept, IsConnectionSaid, IsEntrySaid, IsKeptAfter}
use Rattle.quiet_pass.specs.code.SaidFrames.{IsSaidStep}
use Rattle.quiet_pass.specs.code.AllStreams.{AreKept}
use Rattle.quiet_pass.specs.code.Streams.{as_step}
use Rattle.audit_terms.specs.declared.items.Item.{Item}
use Rattle.audit_terms.specs.declared.last_frames.LastFrame.{LastFrame}
use Rattle.audit_terms.specs.declared.sides.Side.{Side}
use Rattle.quiet_pass.specs.declared.passes.QuietPass.{QuietPass}
use Rattle.stream_credit.proofs.Words.{◌≡◌, ℕ, ◌<◌, ◌^◌, ◌==◌, Bool, true, false, List, [], ◌∷◌, ◌++◌, None, refl, sym}
use Rattle.stream_credit.proofs.Words.{ap, ◌∙◌, subst, arith, append-nil, append_assoc, eq-eqb, ne_eqb, cases_Bool}
use Rattle.stream_credit.proofs.Words.{cases_eq, inl, inr, nat_tests, if◌then◌else◌, ◌||◌, and-false}
use Rattle.stream_credit.proofs.Words.{AllByRecursion, Change, Client, ConnectionState, Finding, Frame, Option, Server}
use Rattle.stream_credit.proofs.Words.{Sides, Step, Stream, change_of, connection_after, connection_said, flat_map}
use Rattle.stream_credit.proofs.Words.{flat_map-append, frame_step, idle_stream, in_order, initial_after}
use Rattle.stream_credit.proofs.Words.{settings_said, shown, side_of, stream_after, stream_said}

-- the audit stops, so it does not go on
pub never : {A : Type 0} (stops : Bool) → stops ≡ true → stops ≡ false → A
never true p q = cc
never false p q = cc

-- ---- what a frame shows of all streams

-- what a frame shows of one
abbrev pub said_of : PassState → Frame → ℕ → List Finding
said_of state frame s = stream_said s state.in_force.initial (state.streams s) (step_of state.in_force frame s)

-- of others than these streams a frame shows nothing
pub record AreAllSaid (frames_shown : Bool) (state : PassState) (frame : Frame) (some : List ℕ) : Type 0 where
  pub named : AreNamed some
  pub once : IsDistinct ◌==◌ some
  pub small : AllByRecursion (λ stream. stream < 2 ^ 31) some
  pub others : (other : ℕ) → 0 < other → list_any (λ one. one == other) some ≡ false
      → shown frames_shown (said_of state frame other) ≡ []

module _ (frames_shown : Bool) (state : PassState) (frame : Frame) where
  idle-unsaid : (s : ℕ) → state.streams s ≡ idle_stream → meets s frame ≡ false
      → shown frames_shown (said_of state frame s) ≡ []
  idle-unsaid s idle unmet = rw (idle, unmet) refl

  unnamed-unmet : (streams : List ℕ) → HaveOwn state frame streams → (s : ℕ) → 0 < s
      → list_any (λ other. other == s) streams ≡ false → meets s frame ≡ false
  unnamed-unmet streams name s some none = elim (cases_Bool (meets s frame)) [
    | inl met ↦ never (list_any (λ other. other == s) streams) (name.own s some met) none
    | inr unmet ↦ unmet
  ]

  of-some : (streams some : List ℕ) → HaveOwn state frame streams → AreAllSaid frames_shown state frame some
      → in_order (shown frames_shown (streams_said streams state frame))
      ≡ in_order (shown frames_shown (streams_said some state frame))
  of-some streams some name all =
      ap in_order (shown-flat_map frames_shown (said_of state frame) streams)
      ∙ same-order (λ s. shown frames_shown
      (said_of state frame s)) streams some name.named all.named name.once all.once
      (λ s above none. idle-unsaid s (name.live s above none) (unnamed-unmet streams name s above none)) all.others
      ∙ ap in_order (sym (shown-flat_map frames_shown (said_of state frame) some))

  at-some : (some : List ℕ) → AllByRecursion (λ stream. stream < 2 ^ 31) some
      → AreAt frame.number (streams_said some state frame)
  at-some [] h = at-nil frame.number
  at-some (s ∷ some) h =
      at-append frame.number (said_of state frame s) (streams_said some state frame)
      (at-stream s state.in_force.initial (state.streams s) (step_of state.in_force frame s) h.0) (at-some some h.1)

-- ---- whether a frame opens its stream

opens-own : (frame : Frame) (state : PassState)
    → opens_stream state frame ≡ is_opening frame.stream (state.streams frame.stream).life frame
opens-own frame state =
    let met : meets frame.stream frame ≡ true = rw (eq-eqb frame.stream frame.stream refl) refl in rw met refl

pub opens-as : (frame : Frame) (state : PassState) (opens : Bool) (own : Stream)
    → (0 < frame.stream → state.streams frame.stream ≡ own) → opens ≡ is_opening frame.stream own.life frame
    → opens ≡ opens_stream state frame
opens-as frame state opens own is opening = elim (cases_eq frame.stream 0) [
  | inl zero ↦
      opening ∙ unopened frame own zero ∙ sym (unopened frame (state.streams frame.stream) zero)
      ∙ sym (opens-own frame state)
  | inr some ↦
      opening
      ∙ ap (λ (one : Stream). is_opening frame.stream one.life frame) (sym (is (omega (arith, some))))
      ∙ sym (opens-own frame state)
]

-- ---- what a frame shows by itself and of the connection

own-last : (machine : QuietPass) (state : PassState) → StandsFor machine state → (d : Side)
    → side_of d machine.last ≡ last_of (side_of d state.previous)
own-last machine state stands Client = stands.client
own-last machine state stands Server = stands.server

-- what a frame shows by itself and of the connection, as the machine keeps them
pub spoken-alone : {machine : QuietPass} {frame : Frame} {opens : Bool} {change : Option Change}
    {before mid after : List Finding} {last : LastFrame} {now connection : ConnectionState}
    → last ≡ side_of frame.side machine.last
    → ((previous : Option Frame) → last ≡ last_of previous → mid ≡ before ++ local_said previous frame)
    → now ≡ machine.connection.state → after ≡ mid ++ connection_said now (as_item frame opens change)
    → connection ≡ connection_after now (as_item frame opens change)
    → IsConnectionSaid machine frame opens change before after connection
spoken-alone {machine} {frame} {opens} {change} {before} {mid} last-is local now-is is next-is = record {
  said = λ previous e.
      is
      ∙ ap (λ (now : ConnectionState). mid ++ connection_said now (as_item frame opens change)) now-is
      ∙ ap (λ l. l ++ connection_said machine.connection.state (as_item frame opens change))
      (local previous (last-is ∙ e));
  next = next-is ∙ ap (λ (now : ConnectionState). connection_after now (as_item frame opens change)) now-is;
}

-- ---- the whole of a step

module _ {frame : Frame} {old : QuietPass} {opens : Bool} {change : Option Change} {connection : ConnectionState}
    {start before : List Finding} {state : PassState} (stands : StandsFor old state)
    (spoken : IsConnectionSaid old frame opens change start before connection)
    (item : as_item frame opens change ≡ item_of state frame) where
  abbrev local : List Finding
  local = local_said (side_of frame.side state.previous) frame

  abbrev of-connection : List Finding
  of-connection = connection_said state.connection (item_of state frame)

  spoken-front : before ≡ (start ++ local) ++ of-connection
  spoken-front =
      spoken.said (side_of frame.side state.previous) (own-last old state stands frame.side)
      ∙ ap (λ (now : ConnectionState). (start ++ local) ++ connection_said now (as_item frame opens change))
      stands.connection
      ∙ ap (λ (item : Item). (start ++ local) ++ connection_said state.connection item) item

  pub spoken-next : connection ≡ connection_after state.connection (item_of state frame)
  spoken-next =
      spoken.next
      ∙ ap (λ (now : ConnectionState). connection_after now (as_item frame opens change)) stands.connection
      ∙ ap (connection_after state.connection) item

  -- the code has the finding of an acknowledgement first, and streams in an order of its own
  pub said-step : (frames_shown : Bool) {new : QuietPass} (after : List Finding) {found : List Finding} (some : List ℕ)
      → AreAllSaid frames_shown state frame some → IsInRange frame → start ≡ settings_said state.in_force frame
      → shown frames_shown after ≡ shown frames_shown before ++ shown frames_shown (streams_said some state frame)
      → found ≡ shown frames_shown (in_order after)
      → (list_any stops found ≡ false → StandsFor new (next state frame))
      → IsSaidStep frames_shown state frame found new
  said-step frames_shown {new} after {found} some all range settings is ordered goes_on =
      let of-settings = settings_said state.in_force frame in
      let of-streams = streams_said some state frame in
      let front : before ≡ (of-settings ++ local) ++ of-connection =
      spoken-front ∙ ap (λ l. (l ++ local) ++ of-connection) settings in
      let whole : found ≡ shown frames_shown (in_order (((of-settings ++ local) ++ of-connection) ++ of-streams)) =
      ordered
      ∙ alike-shown frames_shown after (((of-settings ++ local) ++ of-connection) ++ of-streams)
      (is ∙ sym (shown-append frames_shown before of-streams) ∙ ap (λ l. shown frames_shown (l
      ++ of-streams)) front) in record {
        shown = λ streams name.
            alike-parts frames_shown ((local ++ of-settings) ++ of-connection) ((of-settings ++ local) ++ of-connection)
            (streams_said streams state frame) of-streams
            (in_order-alike (local ++ of-settings) (of-settings ++ local) of-connection of-connection
            (in_order-append_comm local of-settings) refl)
            (of-some frames_shown state frame streams some name all) ∙ sym whole;
        goes_on = goes_on;
        numbered = rw whole
            (each-filter _ _ _
            (numbered-at frame.number _
            (at-in_order frame.number _
            (at-append frame.number _ of-streams
            (at-append frame.number _ of-connection
            (at-append frame.number of-settings local (at-settings frame range.stream state.in_force)
            (at-local frame range.stream (side_of frame.side state.previous)))
            (at-connection state.connection (item_of state frame) range))
            (at-some frames_shown state frame some all.small)))));
      }

-- ---- the streams that meet a frame

module _ (s : ℕ) where
  flat-first : (f g : ℕ → List Finding) → (0 < s → f s ≡ g s) → flat_map f (first_of s []) ≡ flat_map g (first_of s [])
  flat-first f g same = elim (cases_eq s 0) [
    | inl zero ↦ rw (eq-eqb s 0 zero) refl
    | inr some ↦ rw (ne_eqb s 0 some) (ap (λ l. l ++ []) (same (omega (arith, some))))
  ]

  small-first : s < 2 ^ 31 → AllByRecursion (λ stream. stream < 2 ^ 31) (first_of s [])
  small-first small = elim (cases_eq s 0) [
    | inl zero ↦ rw (eq-eqb s 0 zero) tt
    | inr some ↦ rw (ne_eqb s 0 some) (small, tt)
  ]

  among-first : (o : ℕ) → 0 < o → list_any (λ one. one == o) (first_of s []) ≡ false → o ≢ s
  among-first o above none same =
      let some : (s == 0) ≡ false = ne_eqb s 0 (λ zero. absurd (omega (arith, above, same, zero))) in
      let met : list_any (λ one. one == o) (first_of s []) ≡ true = rw (some, eq-eqb s o (sym same)) refl in
      never (list_any (λ one. one == o) (first_of s [])) met none

once-first : (s p : ℕ) → (0 < p → s ≢ p) → IsDistinct ◌==◌ (first_of s [] ++ first_of p [])
unfolding IsDistinct
once-first s p apart = elim (cases_eq s 0) [
  | inl zero ↦ rw (eq-eqb s 0 zero) (elim (cases_eq p 0) [
    | inl none ↦ rw (eq-eqb p 0 none) tt
    | inr other ↦ rw (ne_eqb p 0 other) (tt, tt)
  ])
  | inr some ↦ rw (ne_eqb s 0 some) (elim (cases_eq p 0) [
    | inl none ↦ rw (eq-eqb p 0 none) (tt, tt)
    | inr other ↦ rw (ne_eqb p 0 other) ((ne_eqb s p (apart (omega (arith, other))), tt), (tt, tt))
  ])
]

module _ (frame : Frame) where
  abbrev met-by : List ℕ
  met-by = first_of frame.stream [] ++ first_of (promised_by frame) []

  own-met : meets frame.stream frame ≡ true
  own-met = rw (eq-eqb frame.stream frame.stream refl) refl

  promised-promises : 0 < promised_by frame → promises (promised_by frame) frame ≡ true
  promised-promises some = elim (cases_Bool (promises (promised_in frame.body) frame)) [
    | inl met ↦ rw met met
    | inr unmet ↦ absurd (let none : promised_by frame ≡ 0 = rw unmet refl in omega (arith, some, none))
  ]

  promised-met : 0 < promised_by frame → meets (promised_by frame) frame ≡ true
  promised-met some = rw (promised-promises some) (or-true (frame.stream == promised_by frame))
    where
      or-true : (b : Bool) → (b || true) ≡ true
      or-true true = refl
      or-true false = refl

  promised-other : 0 < promised_by frame → frame.stream ≢ promised_by frame
  promised-other some same =
      let met = promised-promises some in
      never (promises (promised_by frame) frame) met
      (rw (eq-eqb frame.stream (promised_by frame) same) (and-false _))

  promises-own : (o : ℕ) → promises o frame ≡ true → promised_by frame ≡ o
  promises-own o met =
      let is : promised_in frame.body ≡ o = grind (arith, nat_tests, met) in
      let own : promises (promised_in frame.body) frame ≡ true =
      subst (λ (n : ℕ). promises n frame ≡ true) (sym is) met in
      rw own is

  unmet-other : (o : ℕ) → o ≢ frame.stream → o ≢ promised_by frame → meets o frame ≡ false
  unmet-other o differ apart = elim (cases_Bool (promises o frame)) [
    | inl met ↦ absurd (apart (sym (promises-own o met)))
    | inr unmet ↦ rw (unmet, ne_eqb frame.stream o (λ e. differ (sym e))) refl
  ]

  pub promised-small : IsInRange frame → promised_by frame < 2 ^ 31
  promised-small range = elim (cases_Bool (promises (promised_in frame.body) frame)) [
    | inl met ↦ rw met range.promised
    | inr unmet ↦ rw unmet (omega arith)
  ]

-- what the code adds of stream 0, and of another
pub entry-skipped : {s : ℕ} {initial : Sides ℕ} {frame : Frame} (entry : Stream) (found : List Finding) → s ≡ 0
    → IsEntrySaid s initial frame entry entry found found
entry-skipped {s} entry found zero = record {
  said = rw (eq-eqb s 0 zero) (sym (append-nil found));
  next = λ some. absurd (omega (arith, some, zero));
}

pub entry-added : {s : ℕ} {initial : Sides ℕ} {frame : Frame} {old new : Stream} {before after : List Finding} → s ≢ 0
    → after ≡ before ++ stream_said s initial old (frame_step frame)
    → new ≡ stream_after s initial old (frame_step frame) → IsEntrySaid s initial frame old new before after
entry-added {s} {initial} {frame} {old} {new} {before} some said next = record {
  said = rw (ne_eqb s 0 some)
      (said ∙ ap (λ l. before ++ l) (sym (append-nil (stream_said s initial old (frame_step frame)))));
  next = λ _. next;
}

-- ---- a frame that brings nothing

module _ (frame : Frame) (old : QuietPass) (state : PassState) (stands : StandsFor old state)
    (plain : BringsNothing frame) where
  no-change : change_of state.in_force frame ≡ None
  no-change = (plain-brought frame state.in_force old.pending plain stands.pending).brings

  no-settings : settings_said state.in_force frame ≡ []
  no-settings = rw plain.ack refl

  met-step : (s : ℕ) → meets s frame ≡ true → step_of state.in_force frame s ≡ frame_step frame
  met-step s met = rw (met, no-change) refl

  abbrev after-of : ℕ → Stream
  after-of s = stream_after s state.in_force.initial (state.streams s) (as_step frame None s)

  past-frame : (s : ℕ) → meets s frame ≡ false → state.streams s ≡ after-of s
  past-frame s unmet = (step-past s state.in_force.initial frame (state.streams s) unmet).after

  all-met : (frames_shown : Bool) → IsInRange frame → AreAllSaid frames_shown state frame (met-by frame)
  all-met frames_shown range = record {
    named = each-append (λ (s : ℕ). 0 < s) (first_of frame.stream []) (first_of (promised_by frame) [])
        (named-first frame.stream [] tt) (named-first (promised_by frame) [] tt);
    once = once-first frame.stream (promised_by frame) (promised-other frame);
    small = each-append (λ (s : ℕ). s < 2 ^ 31) (first_of frame.stream []) (first_of (promised_by frame) [])
        (small-first frame.stream range.stream) (small-first (promised_by frame) (promised-small frame range));
    others = λ other above none.
        let parts = none-both (λ one. one == other) (first_of frame.stream []) (first_of (promised_by frame) []) none in
        let unmet = unmet-other frame other (among-first frame.stream other above parts.0)
        (among-first (promised_by frame) other above parts.1) in
        rw (no-change, unmet)
        (unshown-change frames_shown other state.in_force.initial state.in_force.initial frame.number None
        (state.streams other) (state.streams other)
        (unmoved-entry state.in_force.initial (state.streams other)) refl (λ _. refl) (λ _. refl));
  }

  -- what the code adds of a stream that meets the frame
  entry-said : (s : ℕ) (entry : Stream) → (0 < s → state.streams s ≡ entry) → (0 < s → meets s frame ≡ true)
      → flat_map (λ one. stream_said one old.initial entry (frame_step frame)) (first_of s [])
      ≡ flat_map (said_of state frame) (first_of s [])
  entry-said s entry is met =
      flat-first s (λ one. stream_said one old.initial entry (frame_step frame)) (said_of state frame)
      (λ some.
      ap (λ (initial : Sides ℕ). stream_said s initial entry (frame_step frame)) stands.initial
      ∙ ap (λ (one : Stream). stream_said s state.in_force.initial one (frame_step frame)) (sym (is some))
      ∙ ap (λ (step : Step). stream_said s state.in_force.initial (state.streams s) step) (sym (met-step s (met some))))

  -- what it keeps of one
  entry-next : (s : ℕ) (entry after : Stream) → (0 < s → state.streams s ≡ entry) → (0 < s → meets s frame ≡ true)
      → (0 < s → after ≡ stream_after s old.initial entry (frame_step frame)) → 0 < s → after-of s ≡ after
  entry-next s entry after is met next-is some =
      let step : as_step frame None s ≡ frame_step frame = rw (met some) refl in
      ap (λ (step : Step). stream_after s state.in_force.initial (state.streams s) step) step
      ∙ ap (λ (one : Stream). stream_after s state.in_force.initial one (frame_step frame)) (is some)
      ∙ ap (λ (initial : Sides ℕ). stream_after s initial entry (frame_step frame)) (sym stands.initial)
      ∙ sym (next-is some)

  -- the machine after the frame
  next-stands : (new : QuietPass) {connection : ConnectionState} → IsConnectionKept frame connection old new
      → connection ≡ connection_after state.connection (item_of state frame) → AreKept after-of new.streams
      → StandsFor new (next state frame)
  next-stands new keeps connection streams = record {
    client = keeps.client ∙ last-if _ frame state.previous.client old.last.client stands.client;
    server = keeps.server ∙ last-if _ frame state.previous.server old.last.server stands.server;
    pending = rw keeps.pending (plain-brought frame state.in_force old.pending plain stands.pending).kept;
    initial = keeps.initial ∙ stands.initial
        ∙ ap (λ (change : Option Change). initial_after change state.in_force.initial) (sym no-change);
    connection = keeps.kept ∙ connection;
    streams = subst (λ (change : Option Change). AreKept (λ s.
        stream_after s state.in_force.initial (state.streams s) (as_step frame change s)) new.streams) (sym no-change)
        streams;
  }

  module _ (own promised : Stream) (own-is : 0 < frame.stream → after-of frame.stream ≡ own)
      (promised-is : 0 < promised_by frame → after-of (promised_by frame) ≡ promised) where
    abbrev mid-of : ℕ → Stream
    mid-of s = if s == frame.stream then own else state.streams s

    mid-other : (s : ℕ) → s ≢ frame.stream → mid-of s ≡ state.streams s
    mid-other s differ = rw (ne_eqb s frame.stream differ) refl

    mid-own : (s : ℕ) → s ≡ frame.stream → mid-of s ≡ own
    mid-own s same = rw (eq-eqb s frame.stream same) refl

    after-mid : (s : ℕ) → 0 < s → s ≢ promised_by frame → after-of s ≡ mid-of s
    after-mid s above apart = elim (cases_eq s frame.stream) [
      | inl same ↦
          ap after-of same ∙ own-is (subst (λ n. 0 < n) same above) ∙ sym (mid-own s same)
      | inr differ ↦ sym (past-frame s (unmet-other frame s differ apart)) ∙ sym (mid-other s differ)
    ]

    kept-streams : {new : QuietPass} {connection : ConnectionState}
        → IsKeptAfter frame connection own promised old new → AreKept after-of new.streams
    kept-streams {new} kept =
        kept.other mid-of after-of promised-is after-mid
        (kept.one state.streams mid-of (λ some. mid-own frame.stream refl) (λ s above differ. mid-other s differ)
        stands.streams)

-- the whole of it
pub said-plain :
    (frames_shown : Bool) {frame : Frame} {old new : QuietPass} {opens : Bool} {connection : ConnectionState}
    {start before one after found : List Finding} {own-next promised-next : Stream} (own promised : Stream) (p : ℕ)
    → p ≡ promised_by frame → IsInRange frame → BringsNothing frame
    → (0 < frame.stream → (streams : ℕ → Stream) → AreKept streams old.streams → streams frame.stream ≡ own)
    → (0 < p → (streams : ℕ → Stream) → AreKept streams old.streams → streams p ≡ promised)
    → opens ≡ is_opening frame.stream own.life frame
    → IsConnectionSaid old frame opens None start before connection → start ≡ []
    → IsEntrySaid frame.stream old.initial frame own own-next before one
    → IsEntrySaid p old.initial frame promised promised-next one after
    → found ≡ shown frames_shown (in_order after)
    → (list_any stops found ≡ false → IsKeptAfter frame connection own-next promised-next old new)
    → (state : PassState) → StandsFor old state → IsSaidStep frames_shown state frame found new
said-plain frames_shown {frame} {old} {new} {opens} {connection} {start} {before} {one} {after} {found} {own-next}
    {promised-next} own promised p named range plain own-stood stood opening spoken empty said-own other-said is
    kept state stands =
    let promised-stood =
    subst (λ (n : ℕ). 0 < n → (streams : ℕ → Stream) → AreKept streams old.streams → streams n ≡ promised) named
    stood in
    let said-promised =
    subst (λ (n : ℕ). IsEntrySaid n old.initial frame promised promised-next one after) named other-said in
    let own-is = λ (some : 0 < frame.stream). own-stood some state.streams stands.streams in
    let promised-is = λ (some : 0 < promised_by frame). promised-stood some state.streams stands.streams in
    let item : as_item frame opens None ≡ item_of state frame =
    rw (opens-as frame state opens own own-is opening, no-change frame old state stands plain) refl in
    let whole : after ≡ before ++ streams_said (met-by frame) state frame =
    said-promised.said
    ∙ ap₂ (λ (a b : List Finding). a ++ b)
    (said-own.said
    ∙ ap (λ l. before ++ l)
    (entry-said frame old state stands plain frame.stream own own-is (λ _. own-met frame)))
    (entry-said frame old state stands plain (promised_by frame) promised promised-is (promised-met frame))
    ∙ append_assoc before (flat_map (said_of state frame) (first_of frame.stream []))
    (flat_map (said_of state frame) (first_of (promised_by frame) []))
    ∙ ap (λ l. before ++ l)
    (sym (flat_map-append (said_of state frame) (first_of frame.stream []) (first_of (promised_by frame) []))) in
    said-step stands spoken item frames_shown after (met-by frame)
    (all-met frame old state stands plain frames_shown range) range
    (empty ∙ sym (no-settings frame old state stands plain))
    (ap (shown frames_shown) whole ∙ shown-append frames_shown before (streams_said (met-by frame) state frame)) is
    (λ on.
    let keeps = kept on in
    next-stands frame old state stands plain new keeps.rest (spoken-next stands spoken item)
    (kept-streams frame old state stands plain own-next promised-next
    (entry-next frame old state stands plain frame.stream own own-next own-is (λ _. own-met frame) said-own.next)
    (entry-next frame old state stands plain (promised_by frame) promised promised-next promised-is
    (promised-met frame) said-promised.next) keeps))
