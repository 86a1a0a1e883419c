-- What is noted frame by frame is where the frames stand that each stream meets.
use Rattle.split_merge.proofs.Terms.{All, List, drop, noted, refl, ◌*◌, ◌++◌, ◌+◌, ◌<◌, ◌==◌, ◌^◌, ◌∷◌, ◌≡◌, ◌≢◌, ◌≤◌}
use Rattle.split_merge.proofs.Terms.{All-from_recursion, AllByRecursion, if◌then◌else◌, noted_positions, positions_from}
use Rattle.split_merge.proofs.Terms.{Frame, arith, drop_more, frames_at, frames_of, get_or, length, nat_tests, promises}
use Rattle.split_merge.proofs.Terms.{append_assoc, length-append, length_push, notes_from, positions_of, promised_by, ℕ}
use Rattle.split_merge.proofs.{Terms.[], Terms.ap, Visited.noted_positions-append, Visited.slice_get-last}

-- ---- a stream other than 0

module _ (stream : ℕ) (above : stream ≢ 0) where
  noted-is : (other position : ℕ)
      → noted_positions stream (noted other position) ≡ (if other == stream then position ∷ [] else [])
  noted-is other position = grind (arith, nat_tests)

  pub promised-is : (frame : Frame) → (promised_by frame == stream) ≡ promises stream frame
  promised-is frame = grind (arith, nat_tests)

  pub noted-positions : (position : ℕ) (frames : List Frame) →
      noted_positions stream (notes_from position frames) ≡ positions_from position stream frames
  noted-positions position [] = refl
  noted-positions position (frame ∷ frames) =
      grind (arith, nat_tests, noted_positions-append, noted-is, promised-is, noted-positions (position + 1) frames)

-- ---- the frames at the positions

frames-from : (stream : ℕ) (front frames : List Frame) (position : ℕ) → length front ≡ position →
    frames_at (front ++ frames) (positions_from position stream frames) ≡ frames_of stream frames
frames-from stream front [] position e = refl
frames-from stream front (frame ∷ frames) position e =
    let later = rw append_assoc at (frames-from stream (front ++ frame ∷ []) frames (position + 1)
    (omega (arith, length_push front frame, e))) in
    grind (arith, rw e at (slice_get-last front frames frame))

-- the frames at the positions of a stream are those that it meets
pub frames_at-positions : (stream : ℕ) (frames : List Frame)
    → frames_at frames (positions_of stream frames) ≡ frames_of stream frames
frames_at-positions stream frames = frames-from stream [] frames 0 refl

below-from : (bound position stream : ℕ) (frames : List Frame) → position + length frames ≤ bound →
    AllByRecursion (λ x. x < bound) (positions_from position stream frames)
below-from bound position stream [] h = tt
below-from bound position stream (frame ∷ frames) h =
    grind (arith, below-from bound (position + 1) stream frames (omega arith))

-- and stand in the list
pub positions-within : (stream : ℕ) (frames : List Frame)
    → All (λ position. position < length frames) (positions_of stream frames)
positions-within stream frames = All-from_recursion (λ position. position < length frames) _
    (below-from (length frames) 0 stream frames (omega arith))

-- ---- what is noted of the next frame

pub notes-next : (i at p : ℕ) (frames : List Frame) (frame : Frame) → i < length frames → frame ≡ get_or frames i frame
    → at ≡ i → p ≡ promised_by frame
    → notes_from i (drop i frames) ≡ noted frame.stream at ++ (noted p at ++ notes_from (i + 1) (drop (i + 1) frames))
notes-next i at p frames frame within is e f = rw (drop_more frames i frame within, ← is, e, f) refl

noted-few : (stream position : ℕ) → length (noted stream position) ≤ 1
noted-few stream position = grind arith

notes-few : (position : ℕ) (frames : List Frame) → length (notes_from position frames) ≤ 2 * length frames
notes-few position [] = omega arith
notes-few position (frame ∷ frames) =
    grind (arith, nat_tests, noted-few, length-append, notes-few (position + 1) frames)

pub notes-fit : (frames : List Frame) → length frames < 2 ^ 28 → length (notes_from 0 frames) < 2 ^ 30
notes-fit frames few = omega (arith, notes-few 0 frames, few)

-- what came so far, of what is noted of all frames
pub came-fits : (frames : List Frame) (came left : List (ℕ × ℕ)) → came ++ left ≡ notes_from 0 frames
    → length frames < 2 ^ 28 → length came < 2 ^ 30
came-fits frames came left e few = omega (arith, ap length e, length-append came left, notes-fit frames few)

-- and two parts more of it
pub came-more : (came own promised left all : List (ℕ × ℕ)) → came ++ (own ++ (promised ++ left)) ≡ all
    → ((came ++ own) ++ promised) ++ left ≡ all
came-more came own promised left all e = simp append_assoc e
