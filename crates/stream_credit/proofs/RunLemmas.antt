-- The run of a stream: it begins as the definition does, meets each frame behind the changes before it, and ends whole
-- or cut.
use Rattle.audit_terms.proofs.Watching.{ends, is-cut}
use Rattle.std.proofs.Common.{All}
use Rattle.stream_credit.proofs.ChangeLemmas.{brought-acknowledged, initial-brought, passed-each, within-brought}
use Rattle.stream_credit.proofs.MergedLemmas.{acknowledge-all, merged-brought, merged-change, steps_of-merged}
use Rattle.stream_credit.proofs.WalkLemmas.{HasNumber, fall-met, order-all, run-numbered, step-passed, upto-numbered}
use Rattle.stream_credit.proofs.Words.{Acknowledge, AreOrderly, HasStopped, change_step, idle_stream, step_numbers, sym}
use Rattle.stream_credit.proofs.Words.{All-from_recursion, AreAcknowledged, ArePassed, IsAcknowledged, initial_in_force}
use Rattle.stream_credit.proofs.Words.{AreFrom, if◌then◌else◌, initial_after, opened_up_to, place_number, stream_at_end}
use Rattle.stream_credit.proofs.Words.{Bool, IsAt, IsRun, List, None, Some, Walk, [], arith, false, shown, subst, up_to}
use Rattle.stream_credit.proofs.Words.{Change, Client, Frame, IsDue, IsSound, Option, Server, Stream, is_live, merged}
use Rattle.stream_credit.proofs.Words.{Finding, HasEnded, IsBegun, MatchBool, StartsAt, WholeRun, met_after, steps_of}
use Rattle.stream_credit.proofs.Words.{HasRoomAt, IsBrought, IsOrderly, append-nil, frame_with, initial_at, stream_run}
use Rattle.stream_credit.proofs.Words.{ap, drop, refl, true, ℕ, ◌+◌, ◌-◌, ◌<◌, ◌^◌, ◌∙◌, ◌∷◌, ◌≡◌, ◌≤◌}
use Rattle.stream_credit.proofs.{ChangeLemmas.drop-next, ChangeLemmas.none-left, MergedLemmas.order-steps}

-- ---- a walk before some frames

module _ {L : Type 0} {answers : L → List Finding → Option ℕ → L → Type 0} {run : WholeRun L} {now : L} {old : Walk}
    {changes : List Change} {frames : List Frame} (h : IsSound answers run now old changes frames) where
  -- behind a step with the change that was next, or with none
  pub sound-next : {later : L} {new : Walk} {low : ℕ} {rest : List Frame} (number : ℕ) (change : Option Change)
      → IsBrought number old.met changes change → Acknowledge rest changes
      → new.initial ≡ initial_after change old.initial → new.met ≡ met_after old.met change
      → IsAt answers run later new low (merged rest (drop (met_after old.met change) changes))
      → IsSound answers run later new changes rest
  sound-next {later} {new} {low} {rest} number change brought acknowledged initial met at = record {
    rise = h.rise;
    within = rw met (within-brought number old.met changes change brought h.within);
    acknowledged = acknowledged;
    initial = rw met (initial ∙ ap (initial_after change) h.initial
        ∙ sym (initial-brought number old.met changes change brought));
    low = low;
    at = subst (λ n. IsAt answers run later new low (merged rest (drop n changes))) (sym met) at;
  }

  -- a change before the next frame
  pub change-at : {number : ℕ} {change : Change} → StartsAt number frames → IsDue number old.met changes change
      → IsAt answers run now old h.low (change_step change ∷ merged frames (drop (old.met + 1) changes))
  change-at {number} {change} starts due =
      rw (drop-next old.met changes change due.at, merged-change number frames change _ starts due.below) at h.at

-- changes that find no live window
pub sound-passed : {L : Type 0} {answers : L → List Finding → Option ℕ → L → Type 0} {run : WholeRun L} {now : L}
    {old : Walk} {changes : List Change} {next number : ℕ} {frames : List Frame}
    → IsSound answers run now old changes frames → StartsAt number frames → is_live old.entry ≡ false
    → ArePassed number changes old.met next
    → IsSound answers run now (record old { initial = initial_at next changes; met = next }) changes frames
sound-passed {answers = answers} {run = run} {now = now} {old = old} {changes = changes} {frames = frames} h starts dead
    passed =
    passed-each (λ k. IsSound answers run now (record old { initial = initial_at k changes; met = k }) changes frames)
    passed
    (λ k change is below was.
    let passed = step-passed (k + 1) dead (change-at was starts (record { at = is; below = below })) in
    rw (initial-brought change.number k changes (Some change) (is, refl))
    (sound-next was change.number (Some change) (is, refl) was.acknowledged refl refl passed))
    (rw (← h.initial) h)

-- a frame, behind the changes before it
module _ {L : Type 0} {answers : L → List Finding → Option ℕ → L → Type 0} {run : WholeRun L} {now : L} {walk : Walk}
    {changes : List Change} {frame : Frame} {frames : List Frame}
    (h : IsSound answers run now walk changes (frame ∷ frames)) {change : Option Change}
    (brought : IsBrought frame.number walk.met changes change) where
  pub frame-at : AreFrom frame.number (drop walk.met changes)
      → IsAt answers run now walk h.low
      (frame_with frame change ∷ merged frames (drop (met_after walk.met change) changes))
  frame-at from = rw (merged-brought frame frames walk.met changes change brought from) at h.at

  pub frame-acknowledged : IsAcknowledged (frame_with frame change)
  frame-acknowledged = brought-acknowledged frame walk.met changes change brought h.acknowledged.0

-- the end
pub sound-ends : {L : Type 0} {answers : L → List Finding → Option ℕ → L → Type 0} {run : WholeRun L} {now : L}
    {walk : Walk} {changes : List Change} → IsSound answers run now walk changes []
    → AreFrom (2 ^ 32 - 1) (drop walk.met changes) → HasEnded answers run now walk
sound-ends {walk = walk} {changes = changes} h from = (h.low, rw (none-left 0 walk.met changes h.rise from) at h.at)

pub match-more : (holds : Bool) (P Q R : Type 0) → (P → Q) → MatchBool holds P R → MatchBool holds Q R
match-more true P Q R more h = more h
match-more false P Q R more h = h

-- a walk before some frames comes to be before those that are left
abbrev pub MeetsFrames : {L : Type 0} → (L → List Finding → Option ℕ → L → Type 0) → List Change → (before : L) → Walk
    → List Frame → (now : L) → Walk → List Frame → Type 0
MeetsFrames {L} answers changes before old frames now walk rest =
    (run : WholeRun L) → IsSound answers run before old changes frames → IsSound answers run now walk changes rest

-- ---- the beginning

room-idle : HasRoomAt 0 idle_stream
room-idle Client = λ x e. cc
room-idle Server = λ x e. cc

abbrev pub whole_run : {L : Type 0} → L → (stream : ℕ) → (frames_shown : Bool) → List Frame → List Change → WholeRun L
whole_run start stream frames_shown frames changes = record {
  start = start;
  found = shown frames_shown (stream_run stream frames changes);
  numbers = step_numbers stream frames changes;
  entry = stream_at_end stream frames changes;
}

pub run-starts : {L : Type 0} {answers : L → List Finding → Option ℕ → L → Type 0} {start now : L} {stream : ℕ}
    {frames_shown : Bool} {frames : List Frame} {changes : List Change} {walk : Walk} → stream < 2 ^ 31
    → IsOrderly frames → AreOrderly changes → AreAcknowledged frames changes
    → IsBegun answers start now stream frames_shown walk
    → IsSound answers (whole_run start stream frames_shown frames changes) now walk changes frames
run-starts {frames = frames} {changes = changes} {walk = walk} range orderly rise acknowledged begun =
    let order = order-steps 0 frames changes orderly rise in
    record {
      rise = rise;
      within = rw begun.met (omega arith);
      acknowledged = acknowledge-all frames changes acknowledged;
      initial = rw begun.met begun.initial;
      low = 0;
      at = rw (begun.met, ← steps_of-merged 0 frames changes rise) (record {
        streamed = rw begun.own range;
        room = rw begun.entry room-idle;
        below = rw begun.found tt;
        found = rw (begun.own, begun.shows, begun.entry, begun.initial, begun.found) refl;
        entry = rw (begun.own, begun.entry, begun.initial) refl;
        met = [];
        count = omega arith;
        numbers = rw (begun.own, begun.entry, begun.initial) refl;
        order = order;
        watches = begun.watch _ _ (fall-met 0 0 walk.stream walk.initial walk.entry (steps_of frames changes)
            (omega arith) order);
      });
    }

-- ---- the end

-- what a run shows, and which opening it tells
pub run-ends : {L : Type 0} {answers : L → List Finding → Option ℕ → L → Type 0} {now : L} (run : WholeRun L)
    (walk : Walk) (is_whole : Bool)
    → MatchBool is_whole (HasEnded answers run now walk) (HasStopped answers run now walk)
    → {upto : Option ℕ} → upto ≡ (if is_whole then None else walk.watch.stop)
    → {kept : List Finding} → kept ≡ up_to upto walk.found.items
    → IsRun answers run.start now run.numbers run.found kept upto walk.watch.stop walk.watch.looks
    × (opened_up_to upto walk.entry.life.opened ≡ opened_up_to upto run.entry.life.opened)
run-ends {answers = answers} {now = now} run walk true (low, at) {upto} is kept = (
  rw (is, (rw is at kept) ∙ sym (append-nil walk.found.items) ∙ at.found, ← at.numbers, append-nil)
      (ends answers run.start run.found now at.met walk.watch at.watches),
  ap (λ (entry : Stream). opened_up_to upto entry.life.opened) at.entry,
)
run-ends {answers = answers} {now = now} run walk false at is kept = (
  rw (is, rw is at kept) (is-cut answers run.start run.found now run.numbers at.number walk.watch _ at.stopped
      (ap (up_to walk.watch.stop) at.found)),
  rw is at.opened,
)

-- what is kept of the whole stands at frames in range
pub kept-numbered : (stream : ℕ) (frames_shown : Bool) (frames : List Frame) (changes : List Change) → stream < 2 ^ 31
    → IsOrderly frames → AreOrderly changes → (upto : Option ℕ) (kept : List Finding)
    → kept ≡ up_to upto (shown frames_shown (stream_run stream frames changes))
    → All (λ (found : Finding). place_number found.place ≤ 2 ^ 28 - 2) kept
kept-numbered stream frames_shown frames changes range h k upto kept e =
    rw e (All-from_recursion (HasNumber (λ n. n ≤ 2 ^ 28 - 2)) _ (upto-numbered (λ n. n ≤ 2 ^ 28 - 2) upto _
    (run-numbered (λ n. n ≤ 2 ^ 28 - 2) frames_shown stream initial_in_force.initial idle_stream
    (steps_of frames changes) range
    (order-all _ 0 (steps_of frames changes) (λ n least most. most) (order-steps 0 frames changes h k)))))
