-- Where a stream stands among rows: at the front, where streams rise, or behind it, in a table.
use Rattle.audit_terms.specs.code.StreamRows.{IsRowWith}
use Rattle.indexmap.specs.IndexSet.{insert_key}
use Rattle.split_merge.proofs.Terms.{AreBelow, IsIndex, NotAmong, RowIndex, [], cases_lt, drop_all, is_among, slice_get}
use Rattle.split_merge.proofs.Terms.{Bool, common_steps, drop-append-le, length-append, length-take-le, position_or_len}
use Rattle.split_merge.proofs.Terms.{IsRowOf, List, Some, Visited, arith, drop, false, find, get_or, length, refl, take}
use Rattle.split_merge.proofs.Terms.{NotBefore, get_or-drop, get_or-take, get_or_at, length-drop, nat_tests, streams_in}
use Rattle.split_merge.proofs.Terms.{ap, sym, true, ℕ, ◌++◌, ◌+◌, ◌-◌, ◌<◌, ◌==◌, ◌∙◌, ◌∷◌, ◌≡◌, ◌≢◌, ◌≤◌}
use Rattle.split_merge.proofs.Terms.{get_or_append_left, get_or_from_slice_get, not, slice_get-get_or, slice_get_within}
use Rattle.split_merge.proofs.Visited.{absent-by_index, found-passes, length-streams_in, none-from_test, not_among-push}
use Rattle.split_merge.proofs.Visited.{distinct-push, not_among-at, stream-at}
use Rattle.std.{proofs.lemmas.List.Sums.position_or_len_is, specs.List.All, specs.List.Sorted.IsNonDecreasingBy}

-- ---- at the front

module _ (rows : List Visited) (many : ℕ) (m : many ≤ length rows) where
  front-stream : (i : ℕ) (d : Visited) → i < many → (get_or (take many rows) i d).stream ≡ get_or (streams_in rows) i 0
  front-stream i d l = grind (arith, get_or-take, stream-at)

  -- where a search finds the stream
  pub row-from_front : (i stream : ℕ) → IsRowWith (λ (y : Visited). y.stream) (take many rows) stream i
      → slice_get (streams_in rows) i ≡ Some stream
  row-from_front i stream found =
      let n = length-take-le many rows m in
      let l = slice_get_within (take many rows) i found.row found.there in
      let here = get_or_from_slice_get (take many rows) i found.row found.row found.there in
      let is = front-stream i found.row (omega (arith, l, n)) in
      slice_get-get_or (streams_in rows) i 0 (omega (arith, l, n, m, length-streams_in rows))
      ∙ ap Some (sym is ∙ ap (λ (y : Visited). y.stream) here ∙ found.same)

  module _ (rises : (i j : ℕ) → i < j → j < many → get_or (streams_in rows) i 0 < get_or (streams_in rows) j 0) where
    streams-rise : (i j : ℕ) (d : Visited) → i ≤ j → j < many
        → (get_or (take many rows) i d).stream ≤ (get_or (take many rows) j d).stream
    streams-rise i j d le l = grind (arith, nat_tests, common_steps, cases_lt, front-stream)

    -- and where it does not
    pub none-from_front : (stream : ℕ)
        → (IsNonDecreasingBy (λ (y : Visited). y.stream) (take many rows)
        → All (λ (y : Visited). y.stream ≢ stream) (take many rows))
        → NotBefore many stream (streams_in rows)
    none-from_front stream none = λ k w same.
        let d : Visited = record { stream = 0; count = 0 } in
        let n = length-take-le many rows m in
        none (λ i j e le l. streams-rise i j e le (omega (arith, l, n))) k d (omega (arith, w, n))
        (front-stream k d w ∙ same)

-- all rows rise, and the last is below the stream
pub all-below : (rows : List Visited) (index : RowIndex) (stream : ℕ) (last : Visited)
    → IsIndex (streams_in rows) index → index.rising ≡ length rows → slice_get rows (length rows - 1) ≡ Some last
    → last.stream < stream → AreBelow stream (streams_in rows)
all-below rows index stream last is all at below = λ i l.
    let n = length-streams_in rows in
    let top = stream-at rows (length rows - 1) last (omega (arith, n, l)) in
    let here = get_or_from_slice_get rows (length rows - 1) last last at in
    let up = is.rises i (length rows - 1) in
    grind (arith, cases_lt i (length rows - 1))

-- ---- behind it

module _ (streams : List ℕ) (index : RowIndex) (is : IsIndex streams index) where
  pub behind-front : (place stream : ℕ) → slice_get index.others.keys place ≡ Some stream
      → slice_get streams (index.rising + place) ≡ Some stream
  behind-front place stream at =
      let e = rw is.others at at in
      let l = slice_get_within (drop index.rising streams) place stream e in
      slice_get-get_or streams (index.rising + place) 0 (omega (arith, l, length-drop index.rising streams))
      ∙ ap Some (sym (get_or-drop index.rising streams place 0)
      ∙ get_or_from_slice_get (drop index.rising streams) place stream 0 e)

  -- a stream that the table finds among its keys
  pub row-from_table : (stream place key : ℕ) → Some key ≡ find (λ other. stream == other) index.others.keys →
      slice_get index.others.keys place ≡ Some key → slice_get streams (index.rising + place) ≡ Some stream
  row-from_table stream place key found at = grind (arith, nat_tests, common_steps, found-passes, behind-front)

  -- a stream that is neither at the front nor in the table
  pub absent-from_both : (stream : ℕ) → NotBefore index.rising stream streams → NotAmong stream index.others.keys
      → NotAmong stream streams
  absent-from_both stream before behind = absent-by_index stream streams (λ i l e.
      let here = get_or-drop index.rising streams (i - index.rising) 0 in
      let apart = not_among-at stream (drop index.rising streams) (i - index.rising) (rw is.others at behind) in
      grind (arith, before i, length-drop index.rising streams, cases_lt i index.rising))

-- ---- where a stream stands, or is to stand

place-behind : (stream : ℕ) (keys : List ℕ) → NotAmong stream keys
    → position_or_len (λ other. stream == other) keys ≡ length keys
place-behind stream keys out =
    position_or_len_is (λ other. stream == other) keys (length keys) 0 (omega arith)
    (λ k l. let apart = not_among-at stream keys k out l in grind (arith, nat_tests))
    (λ l. absurd (omega (arith, l)))

module _ (streams : List ℕ) (before after : RowIndex) (is : IsIndex streams before) (stream : ℕ)
    (above : stream ≢ 0) where
  long : length (streams ++ stream ∷ []) ≡ length streams + 1
  long = length-append streams (stream ∷ [])

  at-front : (i : ℕ) → i < length streams → get_or (streams ++ stream ∷ []) i 0 ≡ get_or streams i 0
  at-front i l = get_or_append_left streams (stream ∷ []) 0 i l

  -- a stream above all of the front, where nothing is behind that
  pub row-above : (row : ℕ) → before.rising ≡ length streams → AreBelow stream streams
      → after.rising ≡ before.rising + 1 → after.others.keys ≡ before.others.keys → row ≡ length streams
      → IsRowOf true stream row streams after
  row-above row all below e keys at =
      let new = absent-by_index stream streams (λ i l s. let b = below i l in absurd (omega (arith, b, s))) in (
        at,
        new,
        record {
          distinct = distinct-push stream streams new is.distinct;
          above = not_among-push 0 stream streams is.above (λ z. above (sym z));
          within = omega (arith, e, all, long);
          rises = λ i j p l.
              let last = get_or_at streams stream [] 0 j in
              grind (arith, is.rises i j, below i, at-front i, at-front j, cases_lt j (length streams));
          others = keys ∙ is.others ∙ drop_all before.rising streams (omega (arith, all))
              ∙ sym (drop_all after.rising (streams ++ stream ∷ []) (omega (arith, e, all, long)));
        },
      )

  -- what the table says of a stream that is not at the front
  pub row-in_table : (place : ℕ) → NotBefore before.rising stream streams → after.rising ≡ before.rising
      → after.others.keys ≡ insert_key (λ a b. a == b) before.others.keys stream
      → place ≡ position_or_len (λ other. stream == other) before.others.keys
      → (key : ℕ) × (slice_get after.others.keys place ≡ Some key) × ((stream == key) ≡ true) → (added : Bool)
      → added ≡ not (is_among stream before.others.keys) → IsRowOf added stream (before.rising + place) streams after
  row-in_table place out same keys at stored true e =
      let none : is_among stream before.others.keys ≡ false = grind arith in
      let behind = none-from_test stream before.others.keys none in
      let new = absent-from_both streams before is stream out behind in
      let n = ap length is.others ∙ length-drop before.rising streams in
      let last = at ∙ place-behind stream before.others.keys behind in (
        omega (arith, n, last, is.within),
        new,
        record {
          distinct = distinct-push stream streams new is.distinct;
          above = not_among-push 0 stream streams is.above (λ z. above (sym z));
          within = omega (arith, same, is.within, long);
          rises = λ i j p l. let w = is.within in grind (arith, is.rises i j, at-front i, at-front j);
          others = keys ∙ rw none (ap (λ l. l ++ stream ∷ []) is.others)
              ∙ sym (drop-append-le before.rising streams (stream ∷ []) is.within)
              ∙ ap (λ n. drop n (streams ++ stream ∷ [])) (sym same);
        },
      )
  row-in_table place out same keys at stored false e =
      let found : is_among stream before.others.keys ≡ true = grind arith in
      let kept : after.others.keys ≡ before.others.keys = keys ∙ rw found refl in
      let is_stream : stored.0 ≡ stream = let t = stored.2 in grind (arith, nat_tests) in (
        behind-front streams before is place stream (rw (← kept) (stored.1 ∙ ap Some is_stream)),
        record {
          distinct = is.distinct;
          above = is.above;
          within = rw same is.within;
          rises = rw same is.rises;
          others = rw (same, kept) is.others;
        },
      )

-- which is at most one past all rows
pub row-within : (added : Bool) (stream row : ℕ) (streams : List ℕ) (index : RowIndex)
    → IsRowOf added stream row streams index → row ≤ length streams
row-within true stream row streams index h = omega (arith, h.0)
row-within false stream row streams index h = (let l = slice_get_within streams row stream h.0 in omega (arith, l))
