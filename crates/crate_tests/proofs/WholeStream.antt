-- Positions from 0 on, one for each frame, are those of all frames.
use Rattle.std.proofs.Common.{◌≡◌, ℕ, ◌+◌, ◌^◌, ◌<◌, List, [], ◌∷◌, ◌++◌, length, map, slice_get, All, Some, refl, sym}
use Rattle.std.proofs.Common.{ap, subst, ◌∙◌, arith, length-append}
use Rattle.std.specs.List.{range_with_len}
use Rattle.std.specs.Option.{option_to_list}
use Rattle.std.proofs.lemmas.List.{append_assoc}
use Rattle.std.proofs.lemmas.List.FromFn.{get_or-range_with_len, length-range_with_len, map-range_with_len_more}
use Rattle.audit_terms.specs.declared.frames.Frame.{Frame}
use Rattle.audit_terms.specs.code.runs.Orderly.{IsOrderly}
use Rattle.stream_credit.specs.declared.stream_parts.StreamPart.{StreamPart}
use Rattle.stream_credit.specs.code.StreamPart.{frames_at, IsStreamPart}

there : (before : List Frame) (frame : Frame) (frames : List Frame)
    → slice_get (before ++ frame ∷ frames) (length before) ≡ Some frame
there [] frame frames = refl
there (one ∷ before) frame frames = there before frame frames

all-from : (before frames : List Frame)
    → frames_at (before ++ frames) (range_with_len (length before) (length frames)) ≡ frames
all-from before [] = refl
all-from before (frame ∷ frames) =
    let all = before ++ frame ∷ frames in
    let more = before ++ frame ∷ [] in
    let rest = range_with_len (length before + 1) (length frames) in
    ap (λ found. option_to_list found ++ frames_at all rest) (there before frame frames)
    ∙ ap (λ l. frame ∷ frames_at l rest) (sym (append_assoc before (frame ∷ []) frames))
    ∙ ap (λ k. frame ∷ frames_at (more ++ frames) (range_with_len k (length frames)))
    (sym (length-append before (frame ∷ [])))
    ∙ ap (λ l. frame ∷ l) (all-from more frames)

within : (count : ℕ) → All (λ (position : ℕ). position < count) (range_with_len 0 count)
within count k d l =
    let short : k < count = subst (λ n. k < n) (length-range_with_len 0 count) l in
    let is = get_or-range_with_len 0 count k d short in
    omega (arith, is, short)

pub whole-stream : (own : StreamPart) (count : ℕ) → own.stream < 2 ^ 31 → IsOrderly own.frames.now
    → length own.frames.now ≡ count → own.positions.now ≡ range_with_len 0 count → IsStreamPart own
whole-stream own count small orderly long positions =
    let same : own.positions.now ≡ range_with_len 0 (length own.frames.now) =
    positions ∙ ap (range_with_len 0) (sym long) in
    record {
      in_range = small;
      within = subst (λ l. All (λ (position : ℕ). position < length own.frames.now) l) (sym same)
          (within (length own.frames.now));
      orderly = subst IsOrderly (sym (ap (frames_at own.frames.now) same ∙ all-from [] own.frames.now)) orderly;
    }

map-same : (numbers : List ℕ) → map (λ number. number) numbers ≡ numbers
map-same [] = refl
map-same (number ∷ numbers) = ap (λ l. number ∷ l) (map-same numbers)

pub one-more : (count : ℕ) → range_with_len 0 (count + 1) ≡ range_with_len 0 count ++ count ∷ []
one-more count =
    sym (map-same (range_with_len 0 (count + 1)))
    ∙ map-range_with_len_more (λ number. number) 0 count count (omega arith)
    ∙ ap (λ l. l ++ count ∷ []) (map-same (range_with_len 0 count))
