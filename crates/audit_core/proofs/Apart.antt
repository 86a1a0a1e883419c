-- No two findings of a connection share place and side: at one frame they stand in different rows of the table or are
-- of different streams, and different frames have different places.
use Rattle.std.proofs.{Common.◌≢◌}
use Rattle.std.proofs.Common.{ap, arith, sym, ℕ, ◌*◌, ◌+◌, ◌<◌, ◌^◌, ◌∙◌, ◌∷◌}
use Rattle.{audit_core.proofs.Words.streams_of, std.proofs.Common.List, std.proofs.Common.[]}
use Rattle.audit_core.proofs.{FrameRows.Any, FrameRows.rows-at}
use Rattle.audit_terms.proofs.Pairs.{Across, pairs-append, pairs-ordered, pairs-refine}
use Rattle.audit_terms.proofs.StreamsMet.{distinct-streams_of}
use Rattle.audit_core.proofs.PassOrder.{AreStreams, at-said}
use Rattle.audit_core.proofs.{PassOrder.from-full_from, PassOrder.streams-streams_of, TableRows.IsRow}
use Rattle.audit_core.proofs.{TableRows.error_side, Words.AllByRecursion, Words.AreApart, Words.AreApartAsErrors}
use Rattle.audit_core.proofs.Words.{AreFrom, AreWithin, EachPair, Finding, Frame, IsInRange, IsOrderly, IsOrderlyFrom}
use Rattle.audit_core.proofs.Words.{PassState, Side, StandApart, comes_after, each-ordered}
use Rattle.audit_core.proofs.Words.{full, full_from, next, pass_start, place_rank, said}

-- findings of different frames differ in place, whatever else is asked of two at one place
module _ (R : Finding → Finding → Type 0) (elsewhere : (x y : Finding) → x.place ≢ y.place → R x y) where
  later : (number : ℕ) (x : Finding) (ys : List Finding) → x.place < number * 2 ^ 36 + 2 ^ 36 →
      AreFrom (number + 1) ys → AllByRecursion (R x) ys
  later number x [] p h = tt
  later number x (y ∷ ys) p h = let a = h.0 in (elsewhere x y (λ e. absurd (omega arith)), later number x ys p h.1)

  across-frames : (number : ℕ) (xs ys : List Finding) → AreWithin (number * 2 ^ 36) (number * 2 ^ 36 + 2 ^ 36) xs →
      AreFrom (number + 1) ys → Across R xs ys
  across-frames number [] ys p h = tt
  across-frames number (x ∷ xs) ys p h = (later number x ys p.1 h, across-frames number xs ys p.2 h)

  module _ (streams : List ℕ) (small : AreStreams streams) (at : (state : PassState) (frame : Frame) → IsInRange frame →
      EachPair R (said streams state frame)) where
    pairs-full_from : (state : PassState) (low : ℕ) (frames : List Frame) → IsOrderlyFrom low frames →
        EachPair R (full_from streams state frames)
    pairs-full_from state low [] h = tt
    pairs-full_from state low (frame ∷ frames) h =
        pairs-append R (said streams state frame) (full_from streams (next state frame) frames)
        (at state frame h.1) (pairs-full_from (next state frame) (frame.number + 1) frames h.2)
        (across-frames frame.number _ _ (at-said streams state frame small h.1).within
        (from-full_from streams (next state frame) (frame.number + 1) frames small h.2))

  -- so it is with all findings, where it is with two rows of a frame that are apart
  pairs-full : ((sender : Side) (x y : Finding) → IsRow sender Any 0 36 x → IsRow sender Any 0 36 y → AreApart x y →
      R x y) → (frames : List Frame) → IsOrderly frames → EachPair R (full frames)
  pairs-full refine frames h =
      let small = streams-streams_of 0 frames h in
      pairs-full_from (streams_of frames) small (λ state frame k.
      let rows = rows-at (streams_of frames) state frame small (distinct-streams_of frames) k in
      pairs-refine AreApart R (IsRow frame.side Any 0 36) (refine frame.side) _
      (each-ordered (IsRow frame.side Any 0 36) comes_after _ rows.within)
      (pairs-ordered AreApart comes_after (λ x y f p s. f (sym p) (sym s)) _ rows.apart)) pass_start 0 frames h

pub findings_stand_apart : (frames : List Frame) → IsOrderly frames → StandApart (full frames)
findings_stand_apart = pairs-full AreApart (λ x y n p. absurd (n p)) (λ sender x y p q apart. apart)

-- two errors at one place would be of one endpoint
pub errors_stand_alone : (frames : List Frame) → IsOrderly frames → EachPair AreApartAsErrors (full frames)
errors_stand_alone = pairs-full AreApartAsErrors (λ x y n s t. n) (λ sender x y p q apart s t e. apart e
    (p.error s ∙ ap (λ place. error_side sender (place_rank place)) e ∙ sym (q.error t)))
