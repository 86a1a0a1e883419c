-- The ranges of rows, one after the other, what they hold as the positions of frames come in, and that they are the
-- split.
use Rattle.split_merge.proofs.Ahead.{zip-apart}
use Rattle.split_merge.proofs.LoudStreams.{are-places, each-quiet, loud-map, loud-total}
use Rattle.split_merge.proofs.LoudStreams.{loud-distinct, loud-filter, loud-not_among, loud-streams, opened-filter}
use Rattle.split_merge.proofs.Positions.{frames_at-positions, noted-positions, positions-within}
use Rattle.split_merge.proofs.Terms.{All-from_recursion, AllByRecursion, ArePositionsOf, length-append, noted_positions}
use Rattle.split_merge.proofs.Terms.{AreDistinct, Bool, QuietStream, SplitFrames, drop-set-lt, length-drop, length_push}
use Rattle.split_merge.proofs.Terms.{AreFilled, EndQuiet, IsPlacing, IsTableOf, [], stream_run, streams_in, streams_of}
use Rattle.split_merge.proofs.Terms.{CanPlace, append_assoc, drop-set-add, option_to_list, row_positions, take_more_set}
use Rattle.split_merge.proofs.Terms.{Change, IsKept, IsLaid, IsSplit, Visited, ap, loud_of, quiet_in, rows_of, total_of}
use Rattle.split_merge.proofs.Terms.{Frame, List, Option, Some, arith, drop, get_or, length, longer, noted, refl, shown}
use Rattle.split_merge.proofs.Terms.{IsFilled, EndsQuietOf, length-set}
use Rattle.split_merge.proofs.Terms.{notes_from, opening_of, places_from, take-set-le}
use Rattle.split_merge.proofs.Terms.{IsRange, NotAmong, StreamRow, drop-drop, frames_of, laid_out, opened_in, slice_get}
use Rattle.split_merge.proofs.Terms.{map, set, suc, sym, true, zero, ◌++◌, ◌+◌, ◌-◌, ◌<◌, ◌^◌, ◌∙◌, ◌∷◌, ◌≡◌, ◌≢◌, ◌≤◌}
use Rattle.split_merge.proofs.Visited.{length-streams_in, noted_positions-append, positions-other, positions-own}
use Rattle.split_merge.{proofs.Terms.ℕ, proofs.Visited.among-apart, specs.declared.visits.Visits.Visits}
use Rattle.std.proofs.lemmas.Slice.Zip.{AllZip-long}
use Rattle.stream_credit.specs.code.Standings.{opened_of}

-- ---- the ranges, before any position comes in

laid-filled : (from : ℕ) (streams : List ℕ) (all : List (ℕ × ℕ)) (positions : List ℕ)
    → total_of (rows_of streams all) ≤ length positions
    → AreFilled from streams [] all (laid_out from (rows_of streams all)) positions
laid-filled from [] all positions room = refl
laid-filled from (stream ∷ streams) all positions room =
    let many = length (noted_positions stream all) in
    let none : from + 0 ≡ from = omega arith in (
      record { is = rw none refl; front = refl; fits = omega arith; room = omega (arith, room) },
      laid-filled (from + many) streams all (drop many positions) (omega (arith, room, length-drop many positions)),
    )

pub can-place : {notes : List (ℕ × ℕ)} {table : Visits} {loud : List Visited} {places : List (Option ℕ)}
    {rows : List StreamRow} {total : ℕ} → IsTableOf notes table → length notes < 2 ^ 30
    → length table.quiets.items ≡ length table.rows.items → loud ≡ loud_of table.rows.items table.quiets.items
    → places ≡ places_from 0 table.quiets.items → rows ≡ laid_out 0 loud → total ≡ total_of loud
    → CanPlace (streams_in loud) notes places table rows total
can-place {notes} {table} h few long loud_is places_is rows_is total_is positions positions_long =
    let quiets = table.quiets.items in
    let streams = streams_in table.rows.items in
    let row : ℕ → Visited = λ stream. record { stream = stream; count = length (noted_positions stream notes) } in
    let made = loud_is ∙ ap (λ l. loud_of l quiets) h.rows ∙ sym (loud-map row streams quiets) in
    let same = ap total_of loud_is in
    rw (loud_is, loud-streams) record {
      index = h.index;
      few = omega (arith, h.few, few);
      short = omega (arith, positions_long, total_is, same, loud-total table.rows.items quiets, h.visits, few);
      leads = rw places_is (are-places streams quiets (long ∙ sym (length-streams_in table.rows.items)) h.index.distinct
          h.index.above);
      distinct = loud-distinct streams quiets h.index.distinct;
      filled = rw (rows_is, made) (laid-filled 0 (loud_of streams quiets) notes positions
          (omega (arith, ap total_of made, total_is, positions_long)));
    }

-- ---- one position more

module _ (from stream position : ℕ) (came all : List ℕ) (row : StreamRow) (positions : List ℕ)
    (h : IsFilled from stream came all row positions) where
  one-put : length came < length all
      → IsFilled from stream (came ++ position ∷ []) all (longer row) (set positions (length came) position)
  one-put more =
      let next : from + (length came + 1) ≡ from + length came + 1 = omega arith in
      record {
        is = rw (h.is, length_push, next) refl;
        front = rw (length_push, take_more_set positions (length came) position (omega (arith, more, h.room)), h.front)
            refl;
        fits = rw length_push (omega (arith, more));
        room = rw length-set h.room;
      }

  one-kept : (at : ℕ) → length all ≤ at → IsFilled from stream came all row (set positions at position)
  one-kept at behind = record {
    is = h.is;
    front = rw (take-set-le (length came) positions at position (omega (arith, behind, h.fits))) h.front;
    fits = h.fits;
    room = rw length-set h.room;
  }

filled-other : (from : ℕ) (streams : List ℕ) (came all : List (ℕ × ℕ)) (rows : List StreamRow) (positions : List ℕ)
    (stream position : ℕ) → NotAmong stream streams → AreFilled from streams came all rows positions
    → AreFilled from streams (came ++ noted stream position) all rows positions
filled-other from [] came all rows positions stream position out h = h
filled-other from (q ∷ streams) came all [] positions stream position out h = absurd h
filled-other from (q ∷ streams) came all (row ∷ rows) positions stream position out h = (
  rw (positions-other q stream position came out.0) h.0,
  filled-other (from + length (noted_positions q all)) streams came all rows _ stream position out.1 h.1,
)

-- a position of the stream whose row is this one
filled-at : (from : ℕ) (streams : List ℕ) (came all : List (ℕ × ℕ)) (rows : List StreamRow) (positions : List ℕ)
    (row stream position : ℕ) (d : StreamRow) → stream ≢ 0 → AreDistinct streams → slice_get streams row ≡ Some stream
    → length (noted_positions stream came) < length (noted_positions stream all)
    → AreFilled from streams came all rows positions
    → (row < length rows) × (from ≤ (get_or rows row d).to) × ((get_or rows row d).to < from + length positions)
    × AreFilled from streams (came ++ noted stream position) all (set rows row (longer (get_or rows row d)))
    (set positions ((get_or rows row d).to - from) position)
filled-at from [] came all rows positions row stream position d above distinct at more h = cc
filled-at from (q ∷ streams) came all [] positions row stream position d above distinct at more h = absurd h
filled-at from (q ∷ streams) came all (row ∷ rows) positions zero stream position d above distinct at more h =
    let same : q ≡ stream = cc in
    let own = noted_positions q came in
    let many = length (noted_positions q all) in
    let order : length own < many = rw same more in
    let end : row.to ≡ from + length own = ap (λ (x : StreamRow). x.to) h.0.is in
    let place : row.to - from ≡ length own = omega (arith, end) in
    let behind = drop-set-lt many positions (length own) position order in (
      omega arith,
      omega (arith, end),
      omega (arith, end, order, h.0.room),
      rw (place, positions-own q stream position came same above, behind) (
        one-put from q position own (noted_positions q all) row positions h.0 order,
        filled-other (from + many) streams came all rows _ stream position (rw same at distinct.0) h.1,
      ),
    )
filled-at from (q ∷ streams) came all (row ∷ rows) positions (suc r) stream position d above distinct at more h =
    let many = length (noted_positions q all) in
    let (within, least, most, rest) = filled-at (from + many) streams came all rows (drop many positions) r stream
    position d above distinct.1 at more h.1 in
    let to = (get_or rows r d).to in
    let place : to - from ≡ many + (to - (from + many)) = omega (arith, least) in (
      omega (arith, within),
      omega (arith, least),
      omega (arith, most, length-drop many positions, h.0.room),
      rw (
        positions-other q stream position came (among-apart q stream streams r distinct.0 at),
        place,
        drop-set-add many positions (to - (from + many)) position,
      ) (
        one-kept from q position (noted_positions q came) (noted_positions q all) row positions h.0
            (many + (to - (from + many))) (omega arith),
        rest,
      ),
    )

-- what is known of the loud streams' ranges, when one more is noted
module _ {loud : List ℕ} {came : List (ℕ × ℕ)} {places : List (Option ℕ)} {before : Visits} {rows : List StreamRow}
    {positions : List ℕ} (left : List (ℕ × ℕ)) (stream position : ℕ)
    (h : IsPlacing loud came (noted stream position ++ left) places before rows positions) where
  filled-now : AreFilled 0 loud came ((came ++ noted stream position) ++ left) rows positions
  filled-now = rw (append_assoc came) h.filled

  placing-on : {after : Visits} {rows' : List StreamRow} {positions' : List ℕ} → IsKept before after
      → length positions' ≡ length positions
      → AreFilled 0 loud (came ++ noted stream position) ((came ++ noted stream position) ++ left) rows' positions'
      → IsPlacing loud (came ++ noted stream position) left places after rows' positions'
  placing-on kept long filled = record {
    index = rw (kept.rows, kept.index) h.index;
    few = rw kept.rows h.few;
    short = rw long h.short;
    leads = rw kept.rows h.leads;
    distinct = h.distinct;
    filled = filled;
  }

  -- it is not loud
  pub placing-none : {after : Visits} → IsKept before after → NotAmong stream loud
      → IsPlacing loud (came ++ noted stream position) left places after rows positions
  placing-none kept out =
      placing-on kept refl (filled-other 0 loud came _ rows positions stream position out filled-now)

  -- it is, and this is its row
  module _ (row : ℕ) (d : StreamRow) (at : slice_get loud row ≡ Some stream) where
    placed : (row < length rows) × (0 ≤ (get_or rows row d).to) × ((get_or rows row d).to < 0 + length positions)
        × AreFilled 0 loud (came ++ noted stream position) ((came ++ noted stream position) ++ left)
        (set rows row (longer (get_or rows row d))) (set positions ((get_or rows row d).to - 0) position)
    placed =
        let above : stream ≢ 0 = among-apart 0 stream loud row h.leads.above at in
        let all = noted_positions-append stream (came ++ noted stream position) left in
        let more : length (noted_positions stream came)
        < length (noted_positions stream ((came ++ noted stream position) ++ left)) =
        rw (all, positions-own stream stream position came refl above, length-append, length_push) (omega arith) in
        filled-at 0 loud came _ rows positions row stream position d above h.distinct at more filled-now

    pub put-within : (row < length rows) × ((get_or rows row d).to < length positions)
    put-within = (placed.0, omega (arith, placed.2))

    pub placing-some : {after : Visits} {rows' : List StreamRow} {positions' : List ℕ} → IsKept before after
        → rows' ≡ set rows row (longer (get_or rows row d)) → positions' ≡ set positions (get_or rows row d).to position
        → IsPlacing loud (came ++ noted stream position) left places after rows' positions'
    placing-some kept e f =
        let place : (get_or rows row d).to - 0 ≡ (get_or rows row d).to = omega arith in
        rw (e, f) (placing-on kept (length-set positions _ position) (rw place at placed.3))

-- ---- all of them

pub filled-streams : (from : ℕ) (streams : List ℕ) (came all : List (ℕ × ℕ)) (rows : List StreamRow)
    (positions : List ℕ) → AreFilled from streams came all rows positions
    → map (λ (row : StreamRow). row.stream) rows ≡ streams
filled-streams from [] came all rows positions h = rw h refl
filled-streams from (q ∷ streams) came all [] positions h = absurd h
filled-streams from (q ∷ streams) came all (row ∷ rows) positions h =
    rw (h.0.is, filled-streams (from + length (noted_positions q all)) streams came all rows _ h.1) refl

-- ---- the split

-- each range lies in the list, and has the positions of its stream
split-rows : (split : SplitFrames) (frames : List Frame) (from : ℕ) (streams : List ℕ) (rows : List StreamRow)
    → NotAmong 0 streams → from ≤ length split.positions.items
    → AreFilled from streams (notes_from 0 frames) (notes_from 0 frames) rows (drop from split.positions.items)
    → AllByRecursion (IsRange split) rows
    × AllByRecursion (λ (row : StreamRow). ArePositionsOf frames row.stream (row_positions split row)) rows
split-rows split frames from [] rows above within h = rw h (tt, tt)
split-rows split frames from (stream ∷ streams) [] rows within h = absurd h
split-rows split frames from (stream ∷ streams) (row ∷ rows) above within h =
    let many = length (noted_positions stream (notes_from 0 frames)) in
    let long = length-drop from split.positions.items in
    let apart : stream ≢ 0 = λ e. above.0 (sym e) in
    let (ranges, parts) = split-rows split frames (from + many) streams rows above.1
    (omega (arith, within, h.0.room, long)) (rw (drop-drop many from split.positions.items) at h.1) in
    let same : from + many - from ≡ many = omega arith in
    rw h.0.is (
      (record { rising = omega arith; within = omega (arith, within, h.0.room, long) }, ranges),
      (
        rw (same, h.0.front ∙ noted-positions stream apart 0 frames) record {
          not_connection = omega arith;
          positions = refl;
          frames = frames_at-positions stream frames;
          within = positions-within stream frames;
        },
        parts,
      ),
    )

module _ (frames_shown : Bool) (changes : List Change) (frames : List Frame) (streams : List ℕ)
    (quiets : List QuietStream) (split : SplitFrames) (all : streams ≡ streams_of frames)
    (distinct : AreDistinct streams) (above : NotAmong 0 streams)
    (ends_quiet : EndQuiet frames_shown changes frames streams quiets)
    (laid : IsLaid (loud_of streams quiets) (opened_in quiets) (notes_from 0 frames) split) where
  pub split-is : IsSplit frames_shown changes frames split
  split-is =
      let named = filled-streams 0 (loud_of streams quiets) _ _ split.rows.items _ laid.filled in
      let rows = split-rows split frames 0 (loud_of streams quiets) split.rows.items
      (loud-not_among 0 streams quiets above) (omega arith) laid.filled in
      let nothing : ℕ → Type 0 = λ s. shown frames_shown (stream_run s (frames_of s frames) changes) ≡ [] in
      let silent = zip-apart (EndsQuietOf frames_shown changes frames) (λ s quiet. quiet.is_quiet ≡ true → nothing s) 0
      streams quiets above
      (λ s quiet n hush e. rw (hush e).hidden (hush e).shows.shown) ends_quiet in
      let told = zip-apart (EndsQuietOf frames_shown changes frames)
      (λ s quiet. quiet.is_quiet ≡ true
      → opening_of frames changes s ≡ option_to_list (opened_of quiet.standings.opened)) 0
      streams quiets above (λ s quiet n hush e. ap option_to_list (hush e).shows.end) ends_quiet in
      record {
        is_quiet = λ s. quiet_in s streams quiets;
        streams = named ∙ rw (← all) (loud-filter streams quiets distinct
            (AllZip-long (EndsQuietOf frames_shown changes frames) streams quiets ends_quiet));
        ranges = All-from_recursion (IsRange split) _ rows.0;
        each = All-from_recursion (λ (row : StreamRow). ArePositionsOf frames row.stream (row_positions split row)) _
            rows.1;
        quiet = rw (← all) (All-from_recursion (λ s. quiet_in s streams quiets ≡ true → nothing s) streams
            (each-quiet nothing streams quiets distinct silent));
        opened = rw (laid.opened, ← all) (opened-filter (opening_of frames changes) streams quiets distinct told);
      }
