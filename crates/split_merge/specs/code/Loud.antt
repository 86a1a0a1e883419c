-- The streams that are not quiet, apart from the others: the loud ones.
use Rattle.std.specs.Prelude.{◌≡◌, ℕ, ◌+◌, ◌^◌, ◌<◌, ◌==◌, if◌then◌else◌, Bool, true, List, [], ◌∷◌, ◌++◌, length}
use Rattle.std.specs.Prelude.{get_or, slice_get, Option, Some, None, MatchOption, option_to_list}
use Rattle.stream_credit.specs.declared.quiet_streams.QuietStream.{QuietStream}
use Rattle.stream_credit.specs.code.Standings.{opened_of}
use Rattle.split_merge.specs.declared.splits.StreamRow.{StreamRow}
use Rattle.split_merge.specs.declared.splits.SplitFrames.{SplitFrames}
use Rattle.split_merge.specs.declared.visits.Visits.{Visits}
use Rattle.split_merge.specs.code.Visits.{AreDistinct, AreFilled, IsIndex, NotAmong, streams_in}

-- those of some items whose streams are not quiet
abbrev pub loud_of : {X : Type 0} → List X → List QuietStream → List X
loud_of [] quiets = []
loud_of (x ∷ xs) [] = []
loud_of (x ∷ xs) (quiet ∷ quiets) = if quiet.is_quiet then loud_of xs quiets else x ∷ loud_of xs quiets

-- of each stream which of the loud ones it is, if it is one; the first of them has this index
abbrev pub places_from : ℕ → List QuietStream → List (Option ℕ)
places_from at [] = []
places_from at (quiet ∷ quiets) =
    if quiet.is_quiet then None ∷ places_from at quiets else Some at ∷ places_from (at + 1) quiets

-- the numbers of the frames that open the quiet ones
abbrev pub opened_in : List QuietStream → List ℕ
opened_in [] = []
opened_in (quiet ∷ quiets) =
    if quiet.is_quiet then option_to_list (opened_of quiet.standings.opened) ++ opened_in quiets else opened_in quiets

-- is the stream, one of these, quiet?
abbrev pub quiet_in : (stream : ℕ) → List ℕ → List QuietStream → Bool
quiet_in stream [] quiets = true
quiet_in stream (other ∷ streams) [] = true
quiet_in stream (other ∷ streams) (quiet ∷ quiets) =
    if other == stream then quiet.is_quiet else quiet_in stream streams quiets

-- the places lead from all streams to the loud ones
pub record ArePlaces (streams : List ℕ) (places : List (Option ℕ)) (loud : List ℕ) : Type 0 where
  pub long : length places ≡ length streams
  pub above : NotAmong 0 loud
  pub absent : (stream : ℕ) → NotAmong stream streams → NotAmong stream loud
  pub found : (r stream : ℕ) (d : Option ℕ) → slice_get streams r ≡ Some stream →
      MatchOption (get_or places r d) (NotAmong stream loud) (λ k. slice_get loud k ≡ Some stream)

-- the rows and the index of a table stay
pub record IsKept (before after : Visits) : Type 0 where
  pub rows : after.rows ≡ before.rows
  pub index : after.index ≡ before.index

-- the ranges of the loud streams so far: `came` were put in, and those `left` are still to be
pub record IsPlacing (loud : List ℕ) (came left : List (ℕ × ℕ)) (places : List (Option ℕ)) (table : Visits)
    (rows : List StreamRow) (positions : List ℕ) : Type 0 where
  pub index : IsIndex (streams_in table.rows.items) table.index
  pub few : length table.rows.items < 2 ^ 31
  pub short : length positions < 2 ^ 32
  pub leads : ArePlaces (streams_in table.rows.items) places loud
  pub distinct : AreDistinct loud
  pub filled : AreFilled 0 loud came (came ++ left) rows positions

-- the same before any is put in
abbrev pub CanPlace : (loud : List ℕ) → (left : List (ℕ × ℕ)) → List (Option ℕ) → Visits → List StreamRow → (total : ℕ)
    → Type 0
CanPlace loud left places table rows total =
    (positions : List ℕ) → length positions ≡ total → IsPlacing loud [] left places table rows positions

-- the ranges of the loud streams, with the positions of what was noted
pub record IsLaid (loud numbers : List ℕ) (notes : List (ℕ × ℕ)) (split : SplitFrames) : Type 0 where
  pub filled : AreFilled 0 loud notes notes split.rows.items split.positions.items
  pub opened : split.opened.items ≡ numbers
