-- One frame more is read of a side's bytes.
use Rattle.h2_frames.proofs.Arriving.{RiseFrom, arrivals_from-not_empty, arrivals_from-rise, arrivals_from-timely}
use Rattle.h2_frames.proofs.Arriving.{captured_from-from, first_timely, get_or-arrivals_from}
use Rattle.h2_frames.proofs.Promised.{promised-fits}
use Rattle.h2_frames.proofs.Words.{AllByRecursion, AreAhead, Arrival, IsReadable, Makes, Side, SideFrame, Spelled}
use Rattle.h2_frames.proofs.Words.{arrivals_from, byte_arrival, captured, captured_from, HoldsNoFrame, Rises}
use Rattle.h2_frames.proofs.Words.{append-nil}
use Rattle.h2_frames.specs.code.Sent.{AreSent}
use Rattle.h2_frames.specs.declared.side_frames.SentFrames.{SentFrames}
use Rattle.std.proofs.Common.{List, arith, get_or, length, refl, ◌*◌, ◌+◌, ◌++◌, ◌-◌, ◌<◌, ◌^◌, ◌∷◌, ◌≡◌, ◌≤◌, ℕ, []}
use Rattle.std.proofs.Common.{append_assoc, length-append, sym, subst, ap, ◌∙◌}

-- it stands before those that are ahead then
ahead_before : (side : Side) (arrivals : List Arrival) (number offset upto : ℕ) (s : Spelled)
    (header payload rest bytes : List ℕ) → bytes ≡ header ++ payload ++ rest → Makes header payload s
    → upto ≡ offset + (9 + s.header.length) → (later : List SideFrame) (tail : List ℕ)
    → AreAhead side (arrivals_from (upto - 1) arrivals) (number + 1) upto rest later tail
    → AreAhead side arrivals number offset bytes
    (captured side number (byte_arrival arrivals (upto - 1)) s ∷ later) tail
ahead_before side arrivals number offset upto s header payload rest bytes split makes upto_is later tail ahead =
    let same : later ≡ captured_from side arrivals (number + 1) upto ahead.0 =
    ahead.2 ∙ captured_from-from side arrivals (upto - 1) (number + 1) upto ahead.0 (omega arith) in
    (s ∷ ahead.0, (header, payload, rest, split, makes, ahead.1), rw (same, upto_is) refl)

-- frames of a side that were read, up to an offset, behind which these bytes and arrivals are left
pub record AreReadTo (side : Side) (arrivals : List Arrival) (offset : ℕ) (bytes : List ℕ) (frames : List SideFrame)
    (upto : ℕ) (rest : List ℕ) (to_come : List Arrival) : Type 0 where
  pub here : upto + length rest ≡ offset + length bytes
  pub rise : RiseFrom upto to_come (offset + length bytes)
  pub timely : AllByRecursion (λ (a : Arrival). a.nanos < 2 ^ 63) to_come
  pub few : 9 * length frames + offset ≤ upto
  pub readable : AllByRecursion IsReadable frames
  pub left : (later : List SideFrame) (tail : List ℕ)
      → AreAhead side to_come (length frames + 1) upto rest later tail
      → AreAhead side arrivals 1 offset bytes (frames ++ later) tail

-- none yet
pub none_read : (side : Side) (arrivals : List Arrival) (offset : ℕ) (bytes : List ℕ)
    → Rises 0 0 arrivals (offset + length bytes) → AllByRecursion (λ (a : Arrival). a.nanos < 2 ^ 63) arrivals
    → AreReadTo side arrivals offset bytes [] offset bytes arrivals
none_read side arrivals offset bytes rises timely = record {
  here = refl;
  rise = (0, 0, omega arith, rises);
  timely = timely;
  few = omega arith;
  readable = tt;
  left = λ later tail ahead. ahead;
}

each_push : (frames : List SideFrame) (x : SideFrame) → AllByRecursion IsReadable frames → IsReadable x
    → AllByRecursion IsReadable (frames ++ x ∷ [])
each_push [] x each is = (is, tt)
each_push (f ∷ frames) x each is = (each.0, each_push frames x each.1 is)

module _ (side : Side) (arrivals : List Arrival) (offset : ℕ) (bytes : List ℕ) (frames : List SideFrame) (upto : ℕ)
    (rest : List ℕ) (to_come : List Arrival) (is : AreReadTo side arrivals offset bytes frames upto rest to_come) where
  -- the frame that begins what is left has an arrival
  pub frame_arrives : (s : Spelled) (header payload later : List ℕ) → rest ≡ header ++ payload ++ later
      → Makes header payload s → (next : ℕ) → next ≡ upto + (9 + s.header.length)
      → (next + length later ≡ upto + length rest) × (0 < length (arrivals_from (next - 1) to_come))
  frame_arrives s header payload later split makes next next_is =
      let size : length rest ≡ 9 + s.header.length + length later =
      grind (arith, length-append, split, makes.nine, makes.whole) in (
        omega (arith, size, next_is),
        arrivals_from-not_empty is.rise.0 is.rise.1 (offset + length bytes) (next - 1) to_come is.rise.3
            (omega (arith, is.rise.2, next_is)) (omega (arith, is.here, size, next_is)),
      )

  -- and is read
  pub one_read : offset + length bytes < 2 ^ 31 → (s : Spelled) (header payload later : List ℕ)
      → rest ≡ header ++ payload ++ later → Makes header payload s → s.header.length < 2 ^ 24
      → s.header.stream < 2 ^ 31 → (next : ℕ) → next ≡ upto + (9 + s.header.length) → (d : Arrival)
      → AreReadTo side arrivals offset bytes
      (frames ++ captured side (length frames + 1) (get_or (arrivals_from (next - 1) to_come) 0 d) s ∷ []) next later
      (arrivals_from (next - 1) to_come)
  one_read short s header payload later split makes length_fits stream_fits next next_is d =
      let there = frame_arrives s header payload later split makes next next_is in
      let first = get_or-arrivals_from (next - 1) to_come d there.1 in
      let x = captured side (length frames + 1) (get_or (arrivals_from (next - 1) to_come) 0 d) s in
      let timely = arrivals_from-timely (next - 1) to_come is.timely in
      let rise = arrivals_from-rise is.rise.0 is.rise.1 (offset + length bytes) (next - 1) to_come is.rise.3
      (omega (arith, is.rise.2, next_is)) in
      let size : length (frames ++ x ∷ []) ≡ length frames + 1 = length-append frames (x ∷ []) in
      record {
        here = omega (arith, there.0, is.here);
        rise = (rise.0, rise.1, omega (arith, rise.2), rise.3);
        timely = timely;
        few = omega (arith, size, is.few, next_is);
        readable = each_push frames x is.readable (record {
          number = omega arith;
          stream = stream_fits;
          promised = promised-fits s makes;
          length = length_fits;
          nanos = first_timely (arrivals_from (next - 1) to_come) d timely there.1;
        });
        left = λ others tail ahead.
            subst (λ all. AreAhead side arrivals 1 offset bytes all tail) (sym (append_assoc frames (x ∷ []) others))
            (is.left (x ∷ others) tail
            (rw first (ahead_before side to_come (length frames + 1) upto next s header payload later rest split makes
            next_is others tail (rw size at ahead))));
      }

  -- all were read
  pub all_read : HoldsNoFrame rest → (sent : SentFrames) → sent.frames.items ≡ frames → sent.tail ≡ length rest
      → AreSent side arrivals offset bytes sent
  all_read none sent same tail = record {
    rest = rest;
    tail = tail;
    ahead = rw (same, ← append-nil frames) (is.left [] rest ([], (refl, none), refl));
    readable = rw same is.readable;
    few = omega (arith, ap length same, is.few, is.here);
  }
