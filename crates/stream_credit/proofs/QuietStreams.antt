-- A stream of which nothing is shown, from one of its frames to the next.
use Rattle.audit_terms.proofs.OrderlyFrames.{orderly-earlier}
use Rattle.stream_credit.proofs.ChangeLemmas.{drop-next, initial-next, none-left, passed-each}
use Rattle.stream_credit.proofs.MergedLemmas.{acknowledge-all, merged-change, merged-first, steps_of-merged}
use Rattle.stream_credit.proofs.QuietSteps.{quiet-changes, none-shown, stream-moved, stream-shown}
use Rattle.stream_credit.proofs.Words.{Acknowledge, QuietStream, change_step, idle_stream, stream_said}
use Rattle.stream_credit.proofs.Words.{AreAcknowledged, AreOrderly, slice_get_within, stream_after_all, stream_run_from}
use Rattle.stream_credit.proofs.Words.{AreFrom, IsQuietToEnd, each-in_order, filter-append, initial_after, stream_after}
use Rattle.stream_credit.proofs.Words.{ArePassed, IsMovedBy, IsOrderly, frame_step, initial_at}
use Rattle.stream_credit.proofs.Words.{Bool, Change, IsNext, Stream, arith, false, length, merged, shown}
use Rattle.stream_credit.proofs.Words.{Finding, IsAhead, Sides, StartsAt, in_order, is_live, is_shown}
use Rattle.stream_credit.proofs.Words.{Frame, IsPassed, slice_get, stream_of, window_of}
use Rattle.stream_credit.proofs.Words.{List, None, Some, Step, drop, refl, sym, ℕ, ◌+◌, ◌-◌, ◌<◌, ◌^◌}
use Rattle.stream_credit.proofs.Words.{IsQuiet}
use Rattle.stream_credit.proofs.{WalkLemmas.none-live, Words.[], Words.ap, Words.◌∙◌, Words.◌∷◌, Words.◌≡◌, Words.◌≤◌}

-- ---- what a run comes to

-- what is shown from some steps on, and the stream after them
outcome : (stream : ℕ) → Sides ℕ → Stream → List Step → List Finding × Stream
outcome stream initial entry steps =
    (shown false (stream_run_from stream initial entry steps), stream_after_all stream initial entry steps)

-- a step of which nothing is shown
outcome-next : (stream : ℕ) (initial : Sides ℕ) (entry : Stream) (step : Step) (steps : List Step)
    → shown false (in_order (stream_said stream initial entry step)) ≡ []
    → outcome stream initial entry (step ∷ steps)
    ≡ outcome stream (initial_after step.change initial) (stream_after stream initial entry step) steps
unfolding outcome
outcome-next stream initial entry step steps h =
    rw (filter-append (is_shown false) (in_order (stream_said stream initial entry step)), h) refl

-- ---- from one step to the next

-- a stream that no frame has met
pub ahead-idle : (idle : QuietStream) → stream_of idle.standings ≡ idle_stream → idle.met ≡ 0 → (stream : ℕ)
    (changes : List Change) (all : List Frame) → stream < 2 ^ 31 → IsOrderly all → AreOrderly changes
    → AreAcknowledged all changes → IsAhead stream changes all all idle
ahead-idle idle is none stream changes all s o k a =
    let steps = steps_of-merged 0 all changes k in
    record {
      streamed = s;
      met = omega (arith, none);
      orderly = o;
      rise = k;
      acknowledged = acknowledge-all all changes a;
      shown = rw (none, is, steps) refl;
      end = rw (none, is, steps) refl;
    }

module _ {stream : ℕ} {changes : List Change} {all rest : List Frame} {old : QuietStream}
    (h : IsAhead stream changes all rest old) where
  abbrev initial : Sides ℕ
  initial = initial_at old.met changes

  abbrev left : List Change
  left = drop old.met changes

  ahead-by : {next : List Frame} {new : QuietStream} → new.met ≤ length changes → IsOrderly next
      → Acknowledge next changes
      → outcome stream initial (stream_of old.standings) (merged rest left)
      ≡ outcome stream (initial_at new.met changes) (stream_of new.standings) (merged next (drop new.met changes))
      → IsAhead stream changes all next new
  unfolding outcome
  ahead-by met orderly acknowledged e = record {
    streamed = h.streamed;
    met = met;
    orderly = orderly;
    rise = h.rise;
    acknowledged = acknowledged;
    shown = h.shown ∙ ap (λ (p : List Finding × Stream). p.0) e;
    end = h.end ∙ ap (λ (p : List Finding × Stream). p.1) e;
  }

  -- whether it is quiet says nothing of where it stands
  pub ahead-told : (is_quiet : Bool) → IsAhead stream changes all rest (record old { is_quiet = is_quiet })
  ahead-told is_quiet = ahead-by h.met h.orderly h.acknowledged refl

  pub ahead-change : {new : QuietStream} {change : Change} {after : Sides ℕ} (number : ℕ) → StartsAt number rest
      → slice_get changes old.met ≡ Some change → change.number < number → after ≡ initial_after (Some change) initial
      → IsPassed initial after old new → IsAhead stream changes all rest new
  ahead-change {new} {change} {after} number s e below a p =
      let quiet = quiet-changes stream initial change.number (Some change) after (stream_of old.standings).window
      (stream_of new.standings).window a p.moved.client.moved p.moved.server.moved p.moved.client.quiet
      p.moved.server.quiet in
      let step = change_step change in
      let entry : stream_of new.standings ≡ stream_after stream initial (stream_of old.standings) step =
      rw (p.moved.opened, p.moved.client.ended, p.moved.server.ended)
      (sym (stream-moved stream initial (stream_of old.standings) step (stream_of new.standings).window refl quiet)) in
      let met = p.met in
      ahead-by (omega (arith, slice_get_within changes old.met change e, met)) h.orderly h.acknowledged
      (rw (
        met,
        initial-next old.met changes change e,
        entry,
        drop-next old.met changes change e,
        merged-change number rest change (drop (old.met + 1) changes) s below,
      )
      (outcome-next stream initial (stream_of old.standings) step (merged rest (drop (old.met + 1) changes))
      (stream-shown stream initial (stream_of old.standings) step (stream_of new.standings).window refl quiet tt)))

-- a change moves no window that is not live
pub unmoved : (before after standing : ℕ) → window_of standing ≡ None → IsMovedBy before after standing standing
unmoved before after standing none = record {
  moved = rw none refl;
  quiet = rw none (λ x e. cc);
  ended = refl;
}

-- changes that find no live window
pub ahead-passed : {stream : ℕ} {changes : List Change} {all rest : List Frame} {old : QuietStream} {number next : ℕ}
    → StartsAt number rest → is_live (stream_of old.standings) ≡ false → ArePassed number changes old.met next
    → IsAhead stream changes all rest old → IsAhead stream changes all rest (record old { met = next })
ahead-passed {stream} {changes} {all} {rest} {old} {number} starts dead passed h =
    let none = none-live (window_of old.standings.client) (window_of old.standings.server) dead in
    passed-each (λ k. IsAhead stream changes all rest (record old { met = k })) passed
    (λ k change is below was. ahead-change was number starts is below refl (record {
      moved = record {
        opened = refl;
        client = unmoved _ _ old.standings.client none.0;
        server = unmoved _ _ old.standings.server none.1;
      };
      met = refl;
    })) h

-- a frame
pub ahead-frame : {stream : ℕ} {changes : List Change} {all rest : List Frame} {frame : Frame} {old new : QuietStream}
    → IsAhead stream changes all (frame ∷ rest) old → AreFrom (frame.number + 1) (drop old.met changes)
    → IsNext stream (initial_at old.met changes) frame old.standings new.standings → new.met ≡ old.met
    → IsAhead stream changes all rest new
ahead-frame {stream} {changes} {all} {rest} {frame} {old} {new} h f n met =
    let left = drop old.met changes in
    ahead-by h (rw met h.met) (orderly-earlier 0 (frame.number + 1) rest (omega arith) h.orderly.2) h.acknowledged.1
    (rw (met, n.after, merged-first frame rest left f)
    (outcome-next stream (initial_at old.met changes) (stream_of old.standings) (frame_step frame) (merged rest left)
    (none-shown _ (each-in_order IsQuiet _ n.said))))

-- the end
pub quiet-to-end : {stream : ℕ} {changes : List Change} {all : List Frame} {quiet : QuietStream}
    → IsAhead stream changes all [] quiet → AreFrom (2 ^ 32 - 1) (drop quiet.met changes)
    → IsQuietToEnd stream changes all quiet.standings.opened
quiet-to-end {changes = changes} {quiet = quiet} h f =
    let over = none-left 0 quiet.met changes h.rise f in
    record {
      shown = rw over at h.shown;
      end = ap (λ (entry : Stream). entry.life.opened) (rw over at h.end);
    }
