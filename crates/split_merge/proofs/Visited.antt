-- The streams that frames name, gathered one by one, and what the table of them says after one more visit.
use Rattle.split_merge.proofs.Terms.{◌≡◌, ◌≢◌, ℕ, ◌<◌, zero, suc, Bool, true, false, List, [], ◌∷◌, ◌++◌}
use Rattle.split_merge.proofs.Terms.{length, get_or, slice_get, arith, refl, sym, ap, ◌∙◌, Some}
use Rattle.split_merge.proofs.Terms.{find, nat_tests, get_or-map, length-map, get_or_from_slice_get}
use Rattle.split_merge.proofs.Terms.{slice_get-get_or, slice_get_within, Visited, NotAmong, AreDistinct}
use Rattle.split_merge.proofs.Terms.{is_among, with_stream, streams_in, map_push, slice_get-map, ◌+◌, ◌≤◌, set}
use Rattle.split_merge.proofs.Terms.{append-nil, length-set, length_push, filter-append, noted_positions, total_of}
use Rattle.split_merge.proofs.Terms.{counted, noted, IsIndex, IsTableOf, map-append, rows_of, with_row}
use Rattle.split_merge.specs.declared.visits.Visits.{Visits}

-- ---- which streams are among some

pub none_among : (q : ℕ) (seen : List ℕ) → NotAmong q seen → is_among q seen ≡ false
none_among q [] h = refl
none_among q (x ∷ xs) h = grind (arith, nat_tests, none_among q xs h.1)

pub none-from_test : (q : ℕ) (seen : List ℕ) → is_among q seen ≡ false → NotAmong q seen
none-from_test q [] h = tt
none-from_test q (x ∷ xs) h = grind (arith, nat_tests, none-from_test q xs)

pub found_among : (q : ℕ) (seen : List ℕ) (i : ℕ) → slice_get seen i ≡ Some q → is_among q seen ≡ true
found_among q [] i e = cc
found_among q (x ∷ xs) zero e = grind (arith, nat_tests)
found_among q (x ∷ xs) (suc i) e = grind (arith, found_among q xs i e)

-- what is not among them stands at no index
pub not_among-at : (q : ℕ) (xs : List ℕ) (i : ℕ) → NotAmong q xs → i < length xs → get_or xs i 0 ≢ q
not_among-at q [] i h l = absurd (omega arith)
not_among-at q (x ∷ xs) zero h l = λ e. h.0 (sym e)
not_among-at q (x ∷ xs) (suc i) h l = not_among-at q xs i h.1 (omega arith)

-- nor is what stands at an index
pub among-apart : (q s : ℕ) (xs : List ℕ) (i : ℕ) → NotAmong q xs → slice_get xs i ≡ Some s → s ≢ q
among-apart q s xs i out at e =
    not_among-at q xs i out (slice_get_within xs i s at) (get_or_from_slice_get xs i s 0 at ∙ e)

pub absent-by_index : (q : ℕ) (xs : List ℕ) → ((i : ℕ) → i < length xs → get_or xs i 0 ≢ q) → NotAmong q xs
absent-by_index q [] h = tt
absent-by_index q (x ∷ xs) h =
    (λ e. h zero (omega arith) (sym e), absent-by_index q xs (λ i l. h (suc i) (omega (arith, l))))

pub not_among-push : (q s : ℕ) (xs : List ℕ) → NotAmong q xs → q ≢ s → NotAmong q (xs ++ s ∷ [])
not_among-push q s [] h n = (n, tt)
not_among-push q s (x ∷ xs) h n = (h.0, not_among-push q s xs h.1 n)

pub not_among-front : (q s : ℕ) (xs : List ℕ) → NotAmong q (xs ++ s ∷ []) → NotAmong q xs × (q ≢ s)
not_among-front q s [] h = (tt, h.0)
not_among-front q s (x ∷ xs) h = grind (arith, not_among-front q s xs h.1)

pub distinct-push : (s : ℕ) (xs : List ℕ) → NotAmong s xs → AreDistinct xs → AreDistinct (xs ++ s ∷ [])
distinct-push s [] n h = (tt, tt)
distinct-push s (x ∷ xs) n h = (not_among-push x s xs h.0 (λ e. n.0 (sym e)), distinct-push s xs n.1 h.1)

-- ---- what is found in a list

pub found-passes : (test : ℕ → Bool) (xs : List ℕ) (x : ℕ) → find test xs ≡ Some x → test x ≡ true
found-passes test [] x e = cc
found-passes test (y ∷ xs) x e = grind (arith, found-passes test xs x)

pub slice_get-last : {X : Type 0} (xs ys : List X) (x : X) → slice_get (xs ++ x ∷ ys) (length xs) ≡ Some x
slice_get-last [] ys x = refl
slice_get-last (y ∷ xs) ys x = slice_get-last xs ys x

-- ---- the streams of rows

pub streams_in-push : (rows : List Visited) (row : Visited)
    → streams_in (rows ++ row ∷ []) ≡ streams_in rows ++ row.stream ∷ []
streams_in-push rows row = map_push (λ (row : Visited). row.stream) rows row

pub length-streams_in : (rows : List Visited) → length (streams_in rows) ≡ length rows
length-streams_in rows = length-map rows (λ (row : Visited). row.stream)

pub stream-at : (rows : List Visited) (k : ℕ) (d : Visited) → k < length rows
    → get_or (streams_in rows) k 0 ≡ (get_or rows k d).stream
stream-at rows k d l = get_or-map (λ (row : Visited). row.stream) rows k d 0 l

-- where the stream of a row stands, the row stands
pub row_inside : (rows : List Visited) (row stream : ℕ) → slice_get (streams_in rows) row ≡ Some stream
    → row < length rows
row_inside rows row stream at = omega (arith, slice_get_within (streams_in rows) row stream at, length-streams_in rows)

pub row-at : (rows : List Visited) (k : ℕ) (d : Visited) → k < length rows →
    slice_get (streams_in rows) k ≡ Some (get_or rows k d).stream
row-at rows k d l = simp (slice_get-map, slice_get-get_or rows k d l)

pub noted_positions-append : (s : ℕ) (xs ys : List (ℕ × ℕ)) →
    noted_positions s (xs ++ ys) ≡ noted_positions s xs ++ noted_positions s ys
noted_positions-append s xs ys = simp (filter-append, map-append)

-- the positions of a stream, when one more is noted
pub positions-own : (q stream position : ℕ) (notes : List (ℕ × ℕ)) → q ≡ stream → stream ≢ 0
    → noted_positions q (notes ++ noted stream position) ≡ noted_positions q notes ++ position ∷ []
positions-own q stream position notes same above = grind (arith, nat_tests, noted_positions-append)

pub positions-other : (q stream position : ℕ) (notes : List (ℕ × ℕ)) → stream ≢ q
    → noted_positions q (notes ++ noted stream position) ≡ noted_positions q notes
positions-other q stream position notes apart = grind (arith, nat_tests, noted_positions-append, append-nil)

-- ---- a row for a stream

pub named-row : (stream : ℕ) (rows : List Visited) → stream ≢ 0 →
    streams_in (with_row stream rows) ≡ with_stream stream (streams_in rows)
named-row stream rows n = grind (arith, nat_tests, streams_in-push)

pub streams-counted : (rows : List Visited) (i : ℕ) (d : Visited)
    → streams_in (set rows i (counted (get_or rows i d))) ≡ streams_in rows
streams-counted [] i d = refl
streams-counted (x ∷ rows) zero d = refl
streams-counted (x ∷ rows) (suc i) d = ap (λ l. x.stream ∷ l) (streams-counted rows i d)

rows-new : (streams : List ℕ) (stream : ℕ) (notes : List (ℕ × ℕ)) → noted_positions stream notes ≡ []
    → rows_of streams notes ++ record { stream = stream; count = 0 } ∷ [] ≡ rows_of (streams ++ stream ∷ []) notes
rows-new streams stream notes none = grind (arith, nat_tests, map_push)

rows-row : (rows : List Visited) (stream : ℕ) (notes : List (ℕ × ℕ)) → rows ≡ rows_of (streams_in rows) notes
    → (NotAmong stream (streams_in rows) → noted_positions stream notes ≡ [])
    → with_row stream rows ≡ rows_of (streams_in (with_row stream rows)) notes
rows-row rows stream notes is none = grind (arith, nat_tests, streams_in-push, rows-new, none-from_test)

absent-row : (q stream : ℕ) (rows : List Visited) → NotAmong q (streams_in (with_row stream rows))
    → NotAmong q (streams_in rows)
absent-row q stream rows out = grind (arith, streams_in-push, not_among-front q stream (streams_in rows))

-- ---- one more visit

rows-other : (streams : List ℕ) (stream position : ℕ) (notes : List (ℕ × ℕ)) → NotAmong stream streams
    → rows_of streams (notes ++ noted stream position) ≡ rows_of streams notes
rows-other [] stream position notes out = refl
rows-other (q ∷ streams) stream position notes out =
    rw (positions-other q stream position notes out.0, rows-other streams stream position notes out.1) refl

rows-visit : (streams : List ℕ) (row stream position : ℕ) (notes : List (ℕ × ℕ)) (d : Visited) → stream ≢ 0
    → AreDistinct streams → slice_get streams row ≡ Some stream
    → set (rows_of streams notes) row (counted (get_or (rows_of streams notes) row d))
    ≡ rows_of streams (notes ++ noted stream position)
rows-visit [] row stream position notes d above h at = cc
rows-visit (q ∷ streams) zero stream position notes d above h at =
    let same : q ≡ stream = cc in
    rw (
      positions-own q stream position notes same above,
      rows-other streams stream position notes (rw same at h.0),
      length_push,
    ) refl
rows-visit (q ∷ streams) (suc row) stream position notes d above h at =
    let row_is = rows-visit streams row stream position notes d above h.1 at in
    rw (positions-other q stream position notes (among-apart q stream streams row h.0 at), row_is) refl

pub noted-one : (stream position : ℕ) → stream ≢ 0 → noted stream position ≡ (stream, position) ∷ []
noted-one stream position n = grind (arith, nat_tests)

-- ---- how many

total-new : (rows : List Visited) (row : Visited) → row.count ≡ 0 → total_of (rows ++ row ∷ []) ≡ total_of rows
total-new [] row e = omega (arith, e)
total-new (x ∷ rows) row e = omega (arith, total-new rows row e)

pub total-row : (stream : ℕ) (rows : List Visited)
    → (total_of (with_row stream rows) ≡ total_of rows) × (length (with_row stream rows) ≤ length rows + 1)
total-row stream rows = grind (arith, total-new, length_push)

pub total-counted : (rows : List Visited) (i : ℕ) (d : Visited) → i < length rows
    → (total_of (set rows i (counted (get_or rows i d))) ≡ total_of rows + 1)
    × ((get_or rows i d).count ≤ total_of rows)
total-counted [] i d l = absurd (omega arith)
total-counted (x ∷ rows) zero d l = (omega arith, omega arith)
total-counted (x ∷ rows) (suc i) d l = grind (arith, nat_tests, total-counted rows i d (omega arith))

-- the table, when a stream that has a row meets one more frame
pub table-visited : {notes : List (ℕ × ℕ)} {old new : Visits} (rows : List Visited) (stream position row : ℕ)
    (d : Visited) → IsTableOf notes old → stream ≢ 0 → rows ≡ with_row stream old.rows.items
    → slice_get (streams_in rows) row ≡ Some stream → IsIndex (streams_in rows) new.index
    → new.rows.items ≡ set rows row (counted (get_or rows row d)) → IsTableOf (notes ++ noted stream position) new
table-visited {notes} {old} rows stream position row d h above made at index is =
    let more : length (notes ++ noted stream position) ≡ length notes + 1 =
    rw (noted-one stream position above, length_push) refl in
    let total = total-row stream old.rows.items in
    let visits = total-counted rows row d (row_inside rows row stream at) in
    let now : rows ≡ rows_of (streams_in rows) notes =
    rw made (rows-row old.rows.items stream notes h.rows (h.absent stream)) in
    record {
      index = rw (is, streams-counted) index;
      rows = rw (is, streams-counted) (ap (λ l. set l row (counted (get_or l row d))) now
          ∙ rows-visit (streams_in rows) row stream position notes d above index.distinct at);
      absent = λ q out.
          let none = rw (is, streams-counted) at out in
          positions-other q stream position notes (among-apart q stream (streams_in rows) row none at)
          ∙ h.absent q (absent-row q stream old.rows.items (rw made at none));
      few = rw (is, length-set, more, made) (omega (arith, total.1, h.few));
      visits = rw (is, more, visits.0, made) (omega (arith, total.0, h.visits));
    }
