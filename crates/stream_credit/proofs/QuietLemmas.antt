-- A frame that moves one window of a stream and shows nothing where credits are not shown.
use Rattle.stream_credit.proofs.Words.{◌≡◌, ℕ, ℤ, ◌+◌, ◌*◌, ◌^◌, false, [], Option, Some, None, is_some}
use Rattle.stream_credit.proofs.Words.{refl, sym, ap, ◌∙◌, arith, ints, append-nil, same_Some, Side, Client, Server}
use Rattle.stream_credit.proofs.Words.{Sides, Frame, Change, Step, Stream, other, side_of, is_used_up}
use Rattle.stream_credit.proofs.Words.{in_order, shown, stream_said, stream_after, HasRoom, WindowHasRoom, Move, Walk}
use Rattle.stream_credit.proofs.Words.{frame_with, IsMove, IsMovedQuietly, HasCounted, HasRoomAt}
use Rattle.stream_credit.proofs.QuietSteps.{frame-quiet, IsQuietAt, quiet-same, quiet-one, stream-shown, stream-moved}

-- ---- what such a frame shows

abbrev alone : Frame → Step
alone frame = frame_with frame None

-- each side is the one that the frame moves, or the other one
each : (P : Side → Type 0) (side : Side) → P side → P (other side) → (d : Side) → P d
each P Client a b Client = a
each P Client a b Server = b
each P Server a b Client = b
each P Server a b Server = a

module _ (stream : ℕ) (initial : Sides ℕ) (entry : Stream) (frame : Frame) (one : Move) (next : Sides (Option ℤ))
    (m : IsMove stream entry.life frame one) (q : IsMovedQuietly entry.window one next) where
  own-quiet : IsQuietAt one.side stream initial (alone frame) (side_of one.side entry.window) (side_of one.side next)
  own-quiet =
      let raised = q.credit.raised in
      let moved = raised.moved in
      rw (q.credit.live, q.own)
      (quiet-one one.side stream initial (alone frame) q.credit.before q.after
      (rw m.amount (omega (arith, ints, moved))) raised.fits
      (m.within q.credit.before (ap is_used_up (sym moved) ∙ raised.left)) (m.goes_on one.side)
      (raised.some ∙ sym raised.left))

  quiet : (d : Side) → IsQuietAt d stream initial (alone frame) (side_of d entry.window) (side_of d next)
  quiet = each (λ d. IsQuietAt d stream initial (alone frame) (side_of d entry.window) (side_of d next))
      one.side own-quiet
      (rw q.rest (quiet-same (other one.side) stream initial frame m.other_grant m.other_content
      (m.goes_on (other one.side)) (side_of (other one.side) entry.window)))

  pub move-quiet : shown false (in_order (stream_said stream initial entry (alone frame))) ≡ []
  move-quiet =
      stream-shown stream initial entry (alone frame) next m.opens quiet
      (frame-quiet stream entry (alone frame) frame m.opened m.in_time m.grants)

  pub quiet-after : stream_after stream initial entry (alone frame) ≡ record { life = entry.life; window = next }
  quiet-after = grind (arith, stream-moved stream initial entry (alone frame) next m.opens quiet, quiet)

-- ---- the walk that moves the window has counted the frame

quiet-room : (entry : Stream) (number : ℕ) (one : Move) (next : Sides (Option ℤ)) → HasRoom (2 ^ 32) one.amount
    → IsMovedQuietly entry.window one next → HasRoomAt number entry
    → HasRoomAt (number + 1) (record { life = entry.life; window = next })
quiet-room entry number one next small q room =
    each (λ d. WindowHasRoom ((number + 1) * 2 ^ 32) (side_of d next)) one.side
    (λ x e.
    let was = room one.side q.credit.before q.credit.live in
    let same : q.after ≡ x = same_Some q.after x (sym q.own ∙ e) in
    omega (arith, ints, was, small, q.credit.raised.moved, same))
    (λ x e. let was = room (other one.side) x (sym q.rest ∙ e) in omega (arith, ints, was))

pub quiet-counted : (old : Walk) (frame : Frame) (change : Option Change) (one : Move) (next : Sides (Option ℤ))
    → old.frames_shown ≡ false → is_some change ≡ false → HasRoomAt frame.number old.entry
    → IsMove old.stream old.entry.life frame one → IsMovedQuietly old.entry.window one next
    → HasCounted old (frame_with frame change) (record old { entry = record { life = old.entry.life; window = next } })
quiet-counted old frame (Some change) one next hidden none room m q = cc
quiet-counted old frame None one next hidden none room m q = record {
  stream = refl;
  frames_shown = refl;
  found = rw (hidden, move-quiet old.stream old.initial old.entry frame one next m q)
      (sym (append-nil old.found.items));
  entry = sym (quiet-after old.stream old.initial old.entry frame one next m q);
  initial = refl;
  met = refl;
  watch = refl;
  room = quiet-room old.entry frame.number one next m.small q room;
}
