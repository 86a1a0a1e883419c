-- The round over blocks need not go past the stop: what is left to do of connections makes their passes.
use Rattle.audit_rounds.proofs.Words.{AgreeWithin, openings_of, place_number, settings_run, shown-append}
use Rattle.audit_rounds.proofs.Words.{IsAfterStreams, IsOrderlyFrom, contains-none, length-orderly, AreFrom}
use Rattle.audit_rounds.proofs.Words.{ConnectionState, connection_after_all, connection_start, BlockFits, append_assoc}
use Rattle.audit_rounds.proofs.Words.{blocks_shown, frames_within, streams_shown, Contains, Finding, ap, in_order}
use Rattle.audit_rounds.proofs.Words.{is_shown, items_in, ltb-true, findings_in, Block, Bool, Frame, Item, arith, false}
use Rattle.audit_rounds.proofs.Words.{joined, length, nat_lt, shown, ℕ, Change, IsLeast, IsPast, Option, StopsAt}
use Rattle.audit_rounds.proofs.Words.{filter, is_past, PerConnection, IsOrderly, append-nil, changes_of, items_with}
use Rattle.audit_rounds.proofs.Words.{length-map, IsThroughStreams, List, None, Some, leb, not, pass, pos, refl, take}
use Rattle.audit_rounds.proofs.Words.{true, zero, ◌++◌, [], block_run, item_with, local_run, map-append, nat_tests}
use Rattle.audit_rounds.proofs.Words.{streams_of, upto_stop, suc, sym, ◌*◌, ◌+◌, ◌-◌, ◌<◌, ◌^◌, ◌∙◌, ◌∷◌, ◌≡◌, ◌≤◌}
use Rattle.audit_rounds.proofs.Words.{IsBlock, rest_of, whole_shown}
use Rattle.audit_rounds.proofs.{Items.items_are_found_lem, Jobs.run-ordered, Rounds.rounds_make_pass_lem}
use Rattle.audit_rounds.specs.laws.Settling.{RoundsSettle, blocks_within}
use Rattle.audit_terms.proofs.FindingOrder.{in_order-alike, in_order-append_comm}
use Rattle.audit_terms.proofs.OrderlyFrames.{numbers_rise, orderly-filter}
use Rattle.audit_terms.proofs.Watching.{past-higher}
use Rattle.audit_terms.specs.code.{Room.HasRoom, runs.States.items_of}
use Rattle.std.proofs.lemmas.List.Sorted.{IsPartitionedBy-leb, IsPermutation-refl}
use Rattle.std.proofs.lemmas.{Bool.cond_both, Int.ints}
use Rattle.std.specs.List.Sorted.{IsPartitionPoint, IsPartitionedBy}
use Rattle.stop_desk.proofs.RoundCuts.{stops_join_lem}
use Rattle.stop_desk.proofs.RoundMembers.{contains-each, filter-contains}
use Rattle.stop_desk.proofs.RoundMerge.{cut-all}

-- ---- what lies past a stop does not count

late-left : (earlier late : List Finding) (stop : Option ℕ) → IsLeast (StopsAt earlier) stop →
    ((found : Finding) → Contains late found → IsPast stop found.place) →
    upto_stop (in_order (earlier ++ late)) ≡ upto_stop (in_order earlier)
late-left earlier late stop least past =
    ap upto_stop (in_order-append_comm earlier late)
    ∙ cut-all late earlier (λ found k. beyond stop least found (past found k)) where
      beyond : (at : Option ℕ) → IsLeast (StopsAt earlier) at → (found : Finding) → IsPast at found.place →
          (place : ℕ) × StopsAt earlier place × (place < found.place)
      beyond None h found l = absurd l
      beyond (Some place) h found l = (place, h.0, l)

-- ---- frames up to the stop, and past it

abbrev frames_past : (stop : Option ℕ) → List Frame → List Frame
frames_past stop frames = filter (λ (frame : Frame). is_past stop frame.number) frames

-- those up to the stop come first, since none comes after one past it
divided : (stop : Option ℕ) (low : ℕ) (frames : List Frame) → IsOrderlyFrom low frames →
    (frames_within stop frames ++ frames_past stop frames ≡ frames)
    × (is_past stop low ≡ true → frames_within stop frames ≡ [])
divided stop low [] h = (refl, λ e. refl)
divided stop low (frame ∷ frames) h =
    let higher = past-higher stop low frame.number h.0 in
    let next = past-higher stop frame.number (frame.number + 1) (omega arith) in
    let (whole, none) = divided stop (frame.number + 1) frames h.2 in
    (grind arith, grind arith)

past-orderly : (place low : ℕ) (frames : List Frame) → IsOrderlyFrom low frames →
    IsOrderlyFrom (place_number place + 1) (frames_past (Some place) frames)
past-orderly place low [] h = tt
past-orderly place low (frame ∷ frames) h =
    cond_both (nat_lt (place_number place) frame.number) _ _ (IsOrderlyFrom (place_number place + 1))
    (λ e. let past = ltb-true (place_number place) frame.number e in (
      omega arith,
      h.1,
      orderly-filter (λ (f : Frame). is_past (Some place) f.number) (frame.number + 1) frames h.2,
    ))
    (λ e. past-orderly place (frame.number + 1) frames h.2)

none-past : (frames : List Frame) → frames_past None frames ≡ []
none-past [] = refl
none-past (frame ∷ frames) = none-past frames

-- ---- what blocks of them show

from-contains : (low : ℕ) (xs : List Finding) (x : Finding) → AreFrom low xs → Contains xs x → low * 2 ^ 36 ≤ x.place
from-contains low [] x h k = absurd (contains-none x k)
from-contains low (y ∷ xs) x h k =
    contains-each y xs (λ (z : Finding). low * 2 ^ 36 ≤ z.place) h.0 (λ z. from-contains low xs z h.1) x k

past-shown : (c : Bool) (stop : Option ℕ) (now : ConnectionState) (opened : List ℕ) (changes : List Change)
    (frames : List Frame) → IsOrderly frames → (found : Finding) →
    Contains (shown c (block_run now (items_with opened changes (frames_past stop frames)))) found →
    IsPast stop found.place
past-shown c None now opened changes frames h found k = contains-none found (rw none-past at k)
past-shown c (Some place) now opened changes frames h found k =
    let past = frames_past (Some place) frames in
    let run = block_run now (items_with opened changes past) in
    let from = from-contains (place_number place + 1) run found
    (run-ordered now (place_number place + 1) opened changes past (past-orderly place 0 frames h)).0
    (filter-contains (is_shown c) run found k).0 in
    omega arith

-- openings count by the frames within
same-items : (xs ys : List ℕ) (changes : List Change) (stop : Option ℕ) (frames : List Frame) → AgreeWithin stop xs ys
    → items_with xs changes (frames_within stop frames) ≡ items_with ys changes (frames_within stop frames)
same-items xs ys changes stop [] h = refl
same-items xs ys changes stop (frame ∷ frames) h =
    grind (arith, same-items xs ys changes stop frames h, h frame.number)

-- ---- the law

module _ (c : Bool) (frames : List Frame) (found : List Finding) (stop : Option ℕ) (opened : List ℕ)
    (h : IsOrderly frames) (after : IsAfterStreams c frames found stop opened) where
  abbrev openings : List ℕ
  openings = openings_of frames (streams_of frames)

  abbrev front : List Item
  front = items_with opened (changes_of frames) (frames_within stop frames)

  abbrev back : List Item
  back = items_with openings (changes_of frames) (frames_past stop frames)

  cut : joined (front ∷ back ∷ []) ≡ items_of frames
  cut =
      ap (λ l. front ++ l) (append-nil back)
      ∙ ap (λ l. l ++ back) (same-items opened openings (changes_of frames) stop frames after.opened_within)
      ∙ sym (map-append (item_with openings (changes_of frames)) (frames_within stop frames) (frames_past stop frames))
      ∙ ap (items_with openings (changes_of frames)) (divided stop 0 frames h).0
      ∙ items_are_found_lem frames openings h (IsPermutation-refl openings)

  abbrev streams : List Finding
  streams = (local_run frames ++ settings_run frames) ++ streams_shown c frames

  abbrev shown_front : List Finding
  shown_front = blocks_within c frames stop opened

  abbrev shown_back : List Finding
  shown_back = shown c (block_run (connection_after_all connection_start front) back)

  both : blocks_shown c (front ∷ back ∷ []) ≡ shown_front ++ shown_back
  both = rw (append-nil (block_run (connection_after_all connection_start front) back))
      (shown-append c (block_run connection_start front) _)

  back-left : upto_stop (in_order (streams ++ shown_front))
      ≡ upto_stop (in_order (streams ++ (shown_front ++ shown_back)))
  back-left =
      sym (stops_join_lem (streams ++ shown_back) streams shown_front
      (late-left streams shown_back stop after.least
      (past-shown c stop (connection_after_all connection_start front) openings (changes_of frames) frames h)))
      ∙ ap (λ l. upto_stop (in_order l)) (append_assoc streams shown_back shown_front)
      ∙ ap upto_stop (in_order-alike streams streams (shown_back ++ shown_front) (shown_front ++ shown_back) refl
      (in_order-append_comm shown_back shown_front))

  settles : upto_stop (in_order (found ++ shown_front)) ≡ shown c (pass frames)
  settles =
      stops_join_lem found streams shown_front after.cut ∙ back-left
      ∙ ap (λ l. upto_stop (in_order (streams ++ l))) (sym both)
      ∙ rounds_make_pass_lem c frames (front ∷ back ∷ []) h cut

pub rounds_settle_lem : RoundsSettle
rounds_settle_lem c frames found last stop opened h after e = e ∙ settles c frames found stop opened h after

-- ---- the frames up to a number

pub frames-parted : (last : ℕ) (frames : List Frame) → IsOrderly frames
    → IsPartitionedBy (λ (frame : Frame). leb frame.number last) frames
frames-parted last frames h = IsPartitionedBy-leb (λ (frame : Frame). frame.number) frames last
    (numbers_rise 0 frames h)

-- the elements before the point
take-point : (test : Frame → Bool) (i : ℕ) (frames : List Frame) → i ≤ length frames
    → IsPartitionPoint (λ frame. test frame ≡ true) (λ frame. test frame ≡ false) frames i
    → take i frames ≡ filter test frames
take-point test zero [] l point = refl
take-point test zero (frame ∷ frames) l point =
    rw (point.1 0 frame (omega arith) (omega arith)) (take-point test zero frames (omega arith)
    (λ k d low below. absurd (omega arith), λ k d low below. point.1 (suc k) d (omega arith) (omega arith)))
take-point test (suc i) [] l point = absurd (omega arith)
take-point test (suc i) (frame ∷ frames) l point =
    let rest = take-point test i frames (omega arith) (
      λ k d low below. point.0 (suc k) d (omega arith) (omega arith),
      λ k d low below. point.1 (suc k) d (omega arith) (omega arith),
    ) in
    rw (point.0 0 frame (omega arith) (omega arith), rest) refl

not-above : (last number : ℕ) → leb number last ≡ not (nat_lt last number)
not-above last number = grind (arith, nat_tests)

-- the frames up to a number stand before the point
pub within-point : (last i : ℕ) (frames : List Frame) → i ≤ length frames
    → IsPartitionPoint (λ (frame : Frame). leb frame.number last ≡ true)
    (λ (frame : Frame). leb frame.number last ≡ false) frames i
    → take i frames ≡ filter (λ (frame : Frame). not (nat_lt last frame.number)) frames
within-point last i frames l point =
    take-point (λ (frame : Frame). leb frame.number last) i frames l point
    ∙ ap (λ test. filter test frames) (λ i (frame : Frame). not-above last frame.number i)

-- where nothing stops, these are all frames
pub all-within : (frames : List Frame) → frames ≡ frames_within None frames
all-within [] = refl
all-within (frame ∷ frames) = ap (λ fs. frame ∷ fs) (all-within frames)

-- ---- one connection

start-room : (n : ℕ) → n < 2 ^ 28 → HasRoom (2 ^ 60 - 2 ^ 32 * n) (pos 65535)
start-room n l = (omega (arith, ints), omega (arith, ints))

-- all frames of a connection fit its start
pub start-fits : (frames : List Frame) (items : List Item) → IsOrderly frames → length items ≡ length frames
    → BlockFits connection_start items
start-fits frames items h e =
    let l = length-orderly 0 frames (omega arith) h in
    let n : length items < 2 ^ 28 = omega arith in
    record { number = omega arith; client = start-room (length items) n; server = start-room (length items) n }

-- what is left of a connection after the round over streams
module _ (frames_shown : Bool) (one : PerConnection) (through : IsThroughStreams frames_shown one) where
  within-orderly : IsOrderly (frames_within one.stop one.prepared.frames.now)
  within-orderly = orderly-filter (λ (frame : Frame). not (is_past one.stop frame.number)) 0 one.prepared.frames.now
      through.prepared.orderly

  -- it is a block, which fits the start
  pub rest-block : (rest : Block) → rest.frames.now ≡ frames_within one.stop one.prepared.frames.now
      → rest.opened.now ≡ one.opened.items → rest.changes.now ≡ one.prepared.changes.items
      → IsBlock rest × (items_in rest ≡ rest_of one)
  rest-block rest frames opened changes = (
    record {
      frames = rw frames within-orderly;
      opened = rw opened through.after.rising;
      changes = rw changes through.prepared.changes_orderly;
    },
    rw (frames, opened, changes) refl,
  )

  pub rest-fits : BlockFits connection_start (rest_of one)
  rest-fits = start-fits (frames_within one.stop one.prepared.frames.now) (rest_of one) within-orderly
      (length-map (frames_within one.stop one.prepared.frames.now)
      (item_with one.opened.items one.prepared.changes.items))

  -- with what it shows, what was found makes the pass
  pub rest-settles : upto_stop (in_order (findings_in one.found ++ whole_shown frames_shown (rest_of one)))
      ≡ shown frames_shown (pass one.prepared.frames.now)
  rest-settles =
      ap (λ (changes : List Change). upto_stop (in_order (findings_in one.found ++ whole_shown frames_shown
      (items_with one.opened.items changes (frames_within one.stop one.prepared.frames.now)))))
      through.prepared.changes
      ∙ settles frames_shown one.prepared.frames.now (findings_in one.found) one.stop one.opened.items
      through.prepared.orderly through.after
