-- What the machine has said of the frames so far, and of all.
use Rattle.std.specs.List.{IsDistinct, list_any}
use Rattle.std.proofs.Common.{◌≢◌, ◌≤◌, drop, get_or, if◌then◌else◌, map, take, Global, Vec}
use Rattle.std.proofs.lemmas.List.{map-append, take-append-drop, take_all, take_more}
use Rattle.audit_terms.specs.laws.Pairs.{EachPair}
use Rattle.audit_terms.specs.laws.Streams.{StreamsAreNamedOnce, StreamsAreThoseMet}
use Rattle.audit_terms.proofs.FindingLists.{each-append, each-weaker}
use Rattle.audit_terms.proofs.ShownFindings.{shown-append}
use Rattle.audit_terms.proofs.UptoStop.{upto_stop-shown}
use Rattle.audit_terms.specs.Finding.{stops}
use Rattle.audit_terms.specs.Frame.{meets}
use Rattle.audit_terms.specs.Pass.{PassState, full_from, next, pass, pass_start, said, streams_of}
use Rattle.audit_terms.specs.Place.{place_number}
use Rattle.audit_terms.specs.Timed.{frame_numbered, timed}
use Rattle.audit_terms.specs.code.TimedFindings.{finding_in, timed_by}
use Rattle.audit_terms.specs.declared.timed_findings.TimedFinding.{TimedFinding}
use Rattle.audit_terms.specs.code.runs.Orderly.{IsInRange, IsOrderly, IsOrderlyFrom}
use Rattle.audit_terms.specs.code.runs.States.{state_after, state_from}
use Rattle.quiet_pass.proofs.PassLemmas.{full-append, full-more, named-all, state-more}
use Rattle.quiet_pass.specs.code.FoundPass.{AreBelow, HasSaid, HaveAllMet, IsAdded, IsFoundAfter, IsTimedIn}
use Rattle.quiet_pass.specs.code.QuietPass.{IsQuietStep, MovesLittle}
use Rattle.quiet_pass.specs.code.SaidFrames.{HaveOwn, IsSaidStep}
use Rattle.quiet_pass.specs.declared.found_passes.FoundPass.{FoundPass}
use Rattle.stream_credit.proofs.QuietSteps.{none-shown}
use Rattle.stream_credit.proofs.Words.{◌≡◌, ℕ, ◌+◌, ◌<◌, ◌==◌, Bool, true, false, List, [], ◌∷◌, ◌++◌, Some}
use Rattle.stream_credit.proofs.Words.{refl, sym, ap, ◌∙◌, arith, append-nil, append_assoc, is_some}
use Rattle.stream_credit.proofs.Words.{AllByRecursion, Finding, Frame, shown}
use Rattle.stream_credit.proofs.Words.{length}
use Rattle.stream_credit.proofs.Words.{cases_Bool, idle_stream, inl, inr, nat_tests, ne_eqb, or_parts, subst, upto_stop}

-- ---- lists

any-front : {X : Type 0} (test : X → Bool) (front rest : List X) → list_any test front ≡ true
    → list_any test (front ++ rest) ≡ true
any-front test [] rest h = cc
any-front test (x ∷ front) rest h = grind (arith, any-front test front rest)

any-back : {X : Type 0} (test : X → Bool) (front rest : List X) → list_any test rest ≡ true
    → list_any test (front ++ rest) ≡ true
any-back test [] rest h = h
any-back test (x ∷ front) rest h = grind (arith, any-back test front rest h)

-- nothing counts past a list in which one stops
upto-past : (front rest : List Finding) → list_any stops front ≡ true → upto_stop (front ++ rest) ≡ upto_stop front
upto-past [] rest h = cc
upto-past (x ∷ front) rest h = grind (arith, upto-past front rest)

each-upto : (P : Finding → Type 0) (found : List Finding) → AllByRecursion P found → AllByRecursion P (upto_stop found)
each-upto P [] h = tt
each-upto P (x ∷ found) h = grind (arith, each-upto P found h.1, h.0)

-- what is made of the elements of a list, one by one
pub mapped-more : {A B : Type 0} (f : A → B) (xs : List A) (i : ℕ) (x : A) (y : B) (made next : List B)
    → i < length xs → x ≡ get_or xs i x → made ≡ map f (take i xs) → y ≡ f x → next ≡ made ++ y ∷ []
    → next ≡ map f (take (i + 1) xs)
mapped-more f xs i x y made next low is so one more =
    more ∙ rw so (rw one (sym (map-append f (take i xs) (x ∷ []))))
    ∙ ap (map f) (sym (take_more xs i x low ∙ ap (λ z. take i xs ++ z ∷ []) (sym is)))

pub mapped-all : {A B : Type 0} (f : A → B) (xs : List A) (i : ℕ) → length xs ≤ i → map f (take i xs) ≡ map f xs
mapped-all f xs i all = ap (map f) (take_all i xs all)

-- so it is behind others
pub added-more : {A B : Type 0} (f : A → B) (xs : List A) (i : ℕ) (x : A) (y : B) (before made next : List B)
    → i < length xs → x ≡ get_or xs i x → made ≡ before ++ map f (take i xs) → y ≡ f x → next ≡ made ++ y ∷ []
    → next ≡ before ++ map f (take (i + 1) xs)
added-more f xs i x y before made next low is so one more =
    more ∙ ap (λ l. l ++ y ∷ []) so ∙ append_assoc before (map f (take i xs)) (y ∷ [])
    ∙ ap (λ l. before ++ l) (mapped-more f xs i x y (map f (take i xs)) (map f (take i xs) ++ y ∷ []) low is refl one
    refl)

-- ---- the streams that frames name

-- a stream that no frame met is as at the start
idle-next : (s : ℕ) (state : PassState) (frame : Frame) → state.streams s ≡ idle_stream → meets s frame ≡ false
    → (next state frame).streams s ≡ idle_stream
idle-next s state frame idle unmet = rw (unmet, idle) refl

idle-after : (s : ℕ) (state : PassState) (frames : List Frame) → state.streams s ≡ idle_stream
    → list_any (meets s) frames ≡ false → (state_from state frames).streams s ≡ idle_stream
idle-after s state [] idle unmet = idle
idle-after s state (frame ∷ frames) idle unmet =
    let parts = or_parts (meets s frame) (list_any (meets s) frames) unmet in
    idle-after s (next state frame) frames (idle-next s state frame idle parts.0) parts.1

have-front : {front : List Frame} (rest : List Frame) {streams : List ℕ} → HaveAllMet (front ++ rest) streams
    → HaveAllMet front streams
have-front {front} rest name = record {
  named = name.named;
  once = name.once;
  all = λ stream some met. name.all stream some (any-front (meets stream) front rest met);
}

have-own : (frames : List Frame) {frame : Frame} {streams : List ℕ} → HaveAllMet (frames ++ frame ∷ []) streams
    → HaveOwn (state_after frames) frame streams
have-own frames {frame} {streams} name = record {
  named = name.named;
  once = name.once;
  own = λ stream some met. name.all stream some (any-back (meets stream) frames (frame ∷ []) (rw met refl));
  live = λ stream some none. elim (cases_Bool (list_any (meets stream) frames)) [
    | inl met ↦
        absurd (differ (list_any (λ (other : ℕ). other == stream) streams)
        (name.all stream some (any-front (meets stream) frames (frame ∷ []) met)) none)
    | inr unmet ↦ idle-after stream pass_start frames refl unmet
  ];
}
  where
    differ : (b : Bool) → b ≡ true → b ≡ false → ⊥
    differ true p q = cc
    differ false p q = cc

distinct-pairs : (streams : List ℕ) → EachPair (λ stream other. stream ≢ other) streams
    → IsDistinct ◌==◌ streams
unfolding IsDistinct
distinct-pairs [] h = tt
distinct-pairs (stream ∷ streams) h = (
  each-weaker (λ other. stream ≢ other) (λ other. (stream == other) ≡ false) (λ other. ne_eqb stream other) streams
      h.0,
  distinct-pairs streams h.1,
)

have-all : StreamsAreThoseMet → StreamsAreNamedOnce → (frames : List Frame) → HaveAllMet frames (streams_of frames)
have-all met once frames = record {
  named = named-all frames;
  once = distinct-pairs (streams_of frames) (once frames);
  all = λ stream some meeting. met stream frames ∙ grind (arith, nat_tests, some, meeting);
}

-- ---- frames of rising numbers

orderly-least : (low : ℕ) (frames : List Frame) (frame : Frame) → IsOrderlyFrom low (frames ++ frame ∷ [])
    → low ≤ frame.number
orderly-least low [] frame h = h.0
orderly-least low (one ∷ frames) frame h = omega (arith, h.0, orderly-least (one.number + 1) frames frame h.2)

orderly-below : (low : ℕ) (frames : List Frame) (frame : Frame) → IsOrderlyFrom low (frames ++ frame ∷ [])
    → AreBelow frame.number frames
orderly-below low [] frame h = tt
orderly-below low (one ∷ frames) frame h =
    (omega (arith, orderly-least (one.number + 1) frames frame h.2), orderly-below (one.number + 1) frames frame h.2)

pub orderly-range : (low : ℕ) (frames : List Frame) (frame : Frame) → IsOrderlyFrom low (frames ++ frame ∷ [])
    → IsInRange frame
orderly-range low [] frame h = h.1
orderly-range low (one ∷ frames) frame h = orderly-range (one.number + 1) frames frame h.2

-- a front of such frames
pub orderly-upto : (low : ℕ) (front back : List Frame) → IsOrderlyFrom low (front ++ back) → IsOrderlyFrom low front
orderly-upto low [] back h = tt
orderly-upto low (one ∷ front) back h = (h.0, h.1, orderly-upto (one.number + 1) front back h.2)

-- ---- the frames that findings name

module _ (n : ℕ) where
  find-more : (frames : List Frame) (frame : Frame) → is_some (frame_numbered frames n) ≡ true
      → frame_numbered (frames ++ frame ∷ []) n ≡ frame_numbered frames n
  find-more [] frame h = cc
  find-more (one ∷ frames) frame h = grind (arith, nat_tests, find-more frames frame)

  find-new : (frames : List Frame) (frame : Frame) → AreBelow frame.number frames → n ≡ frame.number
      → frame_numbered (frames ++ frame ∷ []) n ≡ Some frame
  find-new [] frame below e = grind (arith, nat_tests, e)
  find-new (one ∷ frames) frame below e = grind (arith, nat_tests, find-new frames frame below.1 e, below.0, e)

timed-past : (frames : List Frame) (frame : Frame) (one : TimedFinding) → IsTimedIn frames one
    → IsTimedIn (frames ++ frame ∷ []) one
timed-past frames frame one h = record {
  frame = h.frame;
  there = find-more (place_number one.place) frames frame (ap is_some h.there) ∙ h.there;
  rec = h.rec;
  nanos = h.nanos;
}

-- one frame more, of which nothing is found
past : (frames : List Frame) (found : List TimedFinding) (frame : Frame) → AllByRecursion (IsTimedIn frames) found
    → AllByRecursion (IsTimedIn (frames ++ frame ∷ [])) found
past frames found frame h =
    each-weaker (IsTimedIn frames) (IsTimedIn (frames ++ frame ∷ [])) (timed-past frames frame) found h

-- what is found at the last frame
timed-here : (frames : List Frame) (frame : Frame) → AreBelow frame.number frames → (said : List Finding)
    → AllByRecursion (λ (finding : Finding). place_number finding.place ≡ frame.number) said
    → AllByRecursion (IsTimedIn (frames ++ frame ∷ [])) (map (timed_by frame) said)
timed-here frames frame low [] here = tt
timed-here frames frame low (one ∷ said) here = (
  record {
    frame = frame;
    there = find-new (place_number one.place) frames frame low here.0;
    rec = refl;
    nanos = refl;
  },
  timed-here frames frame low said here.1,
)

-- one frame more, at which this is found
more : (frames : List Frame) (found : List TimedFinding) (here : List Finding) (frame : Frame)
    → AllByRecursion (IsTimedIn frames) found → IsOrderly (frames ++ frame ∷ [])
    → AllByRecursion (λ (finding : Finding). place_number finding.place ≡ frame.number) here
    → AllByRecursion (IsTimedIn (frames ++ frame ∷ [])) (found ++ map (timed_by frame) here)
more frames found here frame h orderly numbered =
    each-append (IsTimedIn (frames ++ frame ∷ [])) found (map (timed_by frame) here) (past frames found frame h)
    (timed-here frames frame (orderly-below 0 frames frame orderly) here numbered)

-- what is found without its frame is what was said
said-alone : (frame : Frame) (said : List Finding) → map finding_in (map (timed_by frame) said) ≡ said
said-alone frame [] = refl
said-alone frame (one ∷ said) = ap (λ (l : List Finding). one ∷ l) (said-alone frame said)

found-more : (frame : Frame) (said : List Finding) (old new : FoundPass) → IsAdded frame said old new
    → map finding_in new.found.items ≡ map finding_in old.found.items ++ said
found-more frame said old new added =
    ap (map finding_in) added.found ∙ map-append finding_in old.found.items (map (timed_by frame) said)
    ∙ ap (λ l. map finding_in old.found.items ++ l) (said-alone frame said)

-- ---- one frame

-- the audit has stopped
pub stays : {frames : List Frame} {machine : FoundPass} (frame : Frame) → machine.has_stopped ≡ true
    → IsFoundAfter frames machine → IsOrderly (frames ++ frame ∷ []) → IsFoundAfter (frames ++ frame ∷ []) machine
stays {frames} {machine} frame stopped h orderly = record {
  met = h.met;
  rest = h.rest ++ frame ∷ [];
  parts = ap (λ l. l ++ frame ∷ []) h.parts ∙ append_assoc h.met h.rest (frame ∷ []);
  little = h.little;
  shown = h.shown;
  goes_on = λ e. absurd (differ machine.has_stopped stopped e);
  stopped = h.stopped;
  timed = λ _. past frames machine.found.items frame (h.timed (orderly-upto 0 frames (frame ∷ []) orderly));
}
  where
    differ : (b : Bool) → b ≡ true → b ≡ false → ⊥
    differ true p q = cc
    differ false p q = cc

module _ {frames : List Frame} {old : FoundPass} (frame : Frame) (h : IsFoundAfter frames old)
    (on : old.has_stopped ≡ false) (small : MovesLittle frame) (orderly : IsOrderly (frames ++ frame ∷ [])) where
  all-little : AllByRecursion MovesLittle (h.met ++ frame ∷ [])
  all-little = each-append MovesLittle h.met (frame ∷ []) h.little (small, tt)

  whole : frames ++ frame ∷ [] ≡ (h.met ++ frame ∷ []) ++ []
  whole =
      ap (λ l. l ++ frame ∷ []) (h.parts ∙ ap (λ l. h.met ++ l) (h.goes_on on).0 ∙ append-nil h.met)
      ∙ sym (append-nil (h.met ++ frame ∷ []))

  shown-here : (streams : List ℕ) (here : List Finding)
      → shown old.frames_shown (said streams (state_after h.met) frame) ≡ here
      → HaveAllMet (h.met ++ frame ∷ []) streams
      → shown old.frames_shown (full_from streams pass_start (h.met ++ frame ∷ []))
      ≡ map finding_in old.found.items ++ here
  shown-here streams here e name =
      ap (shown old.frames_shown) (full-more streams frame pass_start h.met)
      ∙ shown-append old.frames_shown (full_from streams pass_start h.met) (said streams (state_after h.met) frame)
      ∙ ap (λ l. l ++ shown old.frames_shown (said streams (state_after h.met) frame))
      (h.shown streams (have-front (frame ∷ []) name))
      ∙ ap (λ l. map finding_in old.found.items ++ l) e

  pub quiet-more : {new : FoundPass} → IsQuietStep (state_after h.met) frame new.pass → new.found ≡ old.found
      → new.has_stopped ≡ old.has_stopped → old.frames_shown ≡ false → new.frames_shown ≡ old.frames_shown
      → IsFoundAfter (frames ++ frame ∷ []) new
  quiet-more {new} step found stopped hidden same = record {
    met = h.met ++ frame ∷ [];
    rest = [];
    parts = whole;
    little = all-little;
    shown = λ streams name.
        ap (λ (shows : Bool). shown shows (full_from streams pass_start (h.met ++ frame ∷ []))) same
        ∙ shown-here streams []
        (ap (λ (shows : Bool). shown shows (said streams (state_after h.met) frame)) hidden
        ∙ none-shown _ (step.shown streams name.named)) name
        ∙ append-nil (map finding_in old.found.items)
        ∙ ap (λ (l : Vec TimedFinding Global). map finding_in l.items) (sym found);
    goes_on = λ e. (refl, rw (state-more frame pass_start h.met) step.stands);
    stopped = λ e. rw found (h.stopped (sym stopped ∙ e));
    timed = λ _. rw found (past frames old.found.items frame (h.timed (orderly-upto 0 frames (frame ∷ []) orderly)));
  }

  pub said-more : {new : FoundPass} (here : List Finding)
      → IsSaidStep old.frames_shown (state_after h.met) frame here new.pass
      → IsAdded frame here old new → IsFoundAfter (frames ++ frame ∷ []) new
  said-more {new} here step added = record {
    met = h.met ++ frame ∷ [];
    rest = [];
    parts = whole;
    little = all-little;
    shown = λ streams name.
        ap (λ (shows : Bool). shown shows (full_from streams pass_start (h.met ++ frame ∷ []))) added.same
        ∙ shown-here streams here (step.shown streams (have-own h.met name)) name
        ∙ sym (found-more frame here old new added);
    goes_on = λ e. (refl, rw (state-more frame pass_start h.met) (step.goes_on (sym added.stopped ∙ e)));
    stopped = λ e. rw (found-more frame here old new added)
        (any-back stops (map finding_in old.found.items) here (sym added.stopped ∙ e));
    timed = λ _. rw added.found
        (more frames old.found.items here frame (h.timed (orderly-upto 0 frames (frame ∷ []) orderly)) orderly
        step.numbered);
  }

-- the same of what the code says, whose machine did not meet the frame quietly just before
pub said-after : (frame : Frame) (old mid new : FoundPass) → old.has_stopped ≡ false → MovesLittle frame
    → mid.pass ≡ old.pass → HasSaid frame mid new → mid.found ≡ old.found → mid.frames_shown ≡ old.frames_shown
    → (frames : List Frame) → IsFoundAfter frames old → IsOrderly (frames ++ frame ∷ [])
    → IsFoundAfter (frames ++ frame ∷ []) new
said-after frame old mid new on small left has found same frames before orderly =
    said-more frame before on small orderly has.said
    (rw same at (has.step (state_after before.met) (rw left (before.goes_on on).1)))
    (record {
      found = rw (← found) has.added.found;
      stopped = has.added.stopped;
      same = has.added.same ∙ same;
    })

-- ---- all frames

-- the frames up to this one
pub with-next : (frames : List Frame) (i : ℕ) (f : Frame) → i < length frames → f ≡ get_or frames i f
    → take (i + 1) frames ≡ take i frames ++ f ∷ []
with-next frames i f low is =
    take_more frames i f low ∙ ap (λ (g : Frame). take i frames ++ g ∷ []) (sym is)

-- so they are orderly, behind those before them
pub met-next : (before frames : List Frame) (i : ℕ) (f : Frame) → i < length frames → f ≡ get_or frames i f
    → IsOrderly (before ++ frames) → IsOrderly ((before ++ take i frames) ++ f ∷ [])
met-next before frames i f low is orderly =
    let whole : (before ++ take (i + 1) frames) ++ drop (i + 1) frames ≡ before ++ frames =
    append_assoc before (take (i + 1) frames) (drop (i + 1) frames)
    ∙ ap (λ (l : List Frame). before ++ l) (take-append-drop (i + 1) frames) in
    let front = orderly-upto 0 (before ++ take (i + 1) frames) (drop (i + 1) frames)
    (subst IsOrderly (sym whole) orderly) in
    subst IsOrderly
    (ap (λ (l : List Frame). before ++ l) (with-next frames i f low is)
    ∙ sym (append_assoc before (take i frames) (f ∷ []))) front

-- a part that shows something is not cut away
upto-some : (found rest : List Finding) → found ≢ [] → upto_stop (found ++ rest) ≢ []
upto-some [] rest some e = some refl
upto-some (one ∷ found) rest some e = grind (arith, e)

some-mapped : {A B : Type 0} (f : A → B) (xs : List A) → xs ≢ [] → map f xs ≢ []
some-mapped f [] some e = some refl
some-mapped f (x ∷ xs) some e = absurd cc

-- a finding that has the record and the time of its frame is that of its frame
timed-same : (frames : List Frame) (one : TimedFinding) → IsTimedIn frames one → timed frames (finding_in one) ≡ one
timed-same frames one h = rw (h.there, ← h.rec, ← h.nanos) refl

upto-timed : (frames : List Frame) (found : List TimedFinding) → AllByRecursion (IsTimedIn frames) found
    → take (length (upto_stop (map finding_in found))) found ≡ map (timed frames) (upto_stop (map finding_in found))
upto-timed frames [] each = refl
upto-timed frames (one ∷ found) each = either (stops (finding_in one)) (upto-timed frames found each.1) where
  either : (b : Bool)
      → take (length (upto_stop (map finding_in found))) found ≡ map (timed frames) (upto_stop (map finding_in found))
      → take (length (if b then finding_in one ∷ [] else finding_in one ∷ upto_stop (map finding_in found)))
      (one ∷ found)
      ≡ map (timed frames) (if b then finding_in one ∷ [] else finding_in one ∷ upto_stop (map finding_in found))
  either true rest = ap (λ (x : TimedFinding). x ∷ []) (sym (timed-same frames one each.0))
  either false rest =
      ap (λ (l : List TimedFinding). one ∷ l) rest
      ∙ ap (λ (x : TimedFinding). x ∷ map (timed frames) (upto_stop (map finding_in found)))
      (sym (timed-same frames one each.0))

module _ (met : StreamsAreThoseMet) (once : StreamsAreNamedOnce) {frames : List Frame} {machine : FoundPass}
    (h : IsFoundAfter frames machine) where
  -- what all frames show, of which the machine met the first ones
  some-shown : (later whole : List Frame) → whole ≡ frames ++ later
      → shown machine.frames_shown (full_from (streams_of whole) pass_start whole)
      ≡ map finding_in machine.found.items
      ++ shown machine.frames_shown (full_from (streams_of whole) (state_after h.met) (h.rest ++ later))
  some-shown later whole parts =
      let all = parts ∙ ap (λ (l : List Frame). l ++ later) h.parts ∙ append_assoc h.met h.rest later in
      ap (λ l. shown machine.frames_shown (full_from (streams_of whole) pass_start l)) all
      ∙ ap (shown machine.frames_shown) (full-append (streams_of whole) pass_start h.met (h.rest ++ later))
      ∙ shown-append machine.frames_shown (full_from (streams_of whole) pass_start h.met)
      (full_from (streams_of whole) (state_after h.met) (h.rest ++ later))
      ∙ ap (λ l. l
      ++ shown machine.frames_shown (full_from (streams_of whole) (state_after h.met) (h.rest ++ later)))
      (h.shown (streams_of whole)
      (have-front (h.rest ++ later) (subst (λ l. HaveAllMet l (streams_of whole)) all (have-all met once whole))))

  -- so they show something if these do
  pub some-found : (later whole : List Frame) → whole ≡ frames ++ later → machine.found.items ≢ []
      → shown machine.frames_shown (pass whole) ≢ []
  some-found later whole parts some =
      subst (λ (l : List Finding). l ≢ [])
      (ap upto_stop (sym (some-shown later whole parts))
      ∙ upto_stop-shown machine.frames_shown (full_from (streams_of whole) pass_start whole))
      (upto-some (map finding_in machine.found.items)
      (shown machine.frames_shown (full_from (streams_of whole) (state_after h.met) (h.rest ++ later)))
      (some-mapped finding_in machine.found.items some))

  past-shown : List Finding
  past-shown = shown machine.frames_shown (full_from (streams_of frames) (state_after h.met) h.rest)

  all-shown : shown machine.frames_shown (full_from (streams_of frames) pass_start frames)
      ≡ map finding_in machine.found.items ++ past-shown
  unfolding past-shown
  all-shown =
      some-shown [] frames (sym (append-nil frames))
      ∙ ap (λ l. map finding_in machine.found.items
      ++ shown machine.frames_shown (full_from (streams_of frames) (state_after h.met) l)) (append-nil h.rest)

  upto-met : (stopped : Bool) → machine.has_stopped ≡ stopped
      → upto_stop (map finding_in machine.found.items)
      ≡ upto_stop (map finding_in machine.found.items ++ past-shown)
  unfolding past-shown
  upto-met true e = sym (upto-past (map finding_in machine.found.items) past-shown (h.stopped e))
  upto-met false e =
      ap upto_stop (sym (append-nil (map finding_in machine.found.items))
      ∙ ap (λ l. map finding_in machine.found.items
      ++ shown machine.frames_shown (full_from (streams_of frames) (state_after h.met) l))
      (sym (h.goes_on e).0))

  pub all-found : upto_stop (map finding_in machine.found.items) ≡ shown machine.frames_shown (pass frames)
  all-found =
      upto-met machine.has_stopped refl ∙ ap upto_stop (sym all-shown)
      ∙ upto_stop-shown machine.frames_shown (full_from (streams_of frames) pass_start frames)

  pub all-timed : IsOrderly frames
      → take (length (upto_stop (map finding_in machine.found.items))) machine.found.items
      ≡ map (timed frames) (shown machine.frames_shown (pass frames))
  all-timed orderly =
      upto-timed frames machine.found.items (h.timed orderly) ∙ ap (map (timed frames)) all-found

-- where credits are shown, all findings are
pub all-findings : (found : List Finding) → shown true found ≡ found
all-findings [] = refl
all-findings (one ∷ found) = ap (λ (l : List Finding). one ∷ l) (all-findings found)
