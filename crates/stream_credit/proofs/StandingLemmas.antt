-- A stream after a frame of which nothing is shown: how each side stands, and its opening.
use Rattle.stream_credit.proofs.Words.{or_parts, ◌≡◌, ℕ, pos, ◌<◌, Bool, true, false, ◌&&◌, if◌then◌else◌, Some}
use Rattle.stream_credit.proofs.Words.{None, refl, sym, ◌∙◌, arith, and-false, eq-eqb, ne_eqb}
use Rattle.stream_credit.proofs.Words.{nat_tests, ints, Side, Client, Server, Sides, Frame}
use Rattle.stream_credit.proofs.Words.{other, is_side, side_of, is_reset, is_zero_grant, content_by, sends_end}
use Rattle.stream_credit.proofs.Words.{is_last_of, ends_window, is_not_opened, is_after_end, is_used_up}
use Rattle.stream_credit.proofs.Words.{overflows, overruns, say_of, idle_stream, credit_after_step}
use Rattle.stream_credit.proofs.Words.{frame_step, has_credit, has_ended, without_window, window_of, opened_window_said}
use Rattle.stream_credit.proofs.Words.{stream_window_said, opened_of, AreQuiet, IsBalanced, IsStandingAfter}
use Rattle.stream_credit.proofs.Words.{IsOpeningStanding, IsNextOpened, IsOpenedBy, life_of, stream_of}
use Rattle.stream_credit.proofs.Words.{Standings}
use Rattle.audit_terms.specs.Frame.{promises}
use Rattle.stream_credit.specs.code.Standings.{of_side, sided}
use Rattle.audit_terms.specs.Life.{idle_life, is_opening}
use Rattle.stream_credit.proofs.QuietSteps.{both, unsaid, frame-quiet, IsQuietAt, quiet-one, quiet-ended}
use Rattle.stream_credit.proofs.QuietSteps.{stream-quiet, stream-moved}

window-some : (standing : ℕ) → has_credit standing ≡ true → window_of standing ≡ Some (pos standing)
window-some standing h = rw h refl

ended-none : (standing : ℕ) → has_credit standing ≡ true → has_ended standing ≡ false
ended-none standing h = grind (arith, nat_tests)

some-left : (standing : ℕ) → has_credit standing ≡ true → is_used_up (pos standing) ≡ false
some-left standing live = grind (arith, nat_tests)

-- a promise on a stream is of another
pub promises-other : (frame : Frame) → promises frame.stream frame ≡ false
promises-other frame = rw (eq-eqb frame.stream frame.stream refl) (and-false _)

-- a frame that ends no window of a side is not its last
pub unlast : (d : Side) (frame : Frame) → ends_window d frame ≡ false → is_last_of d frame.stream frame ≡ false
unlast d frame e =
    let parts = or_parts (sends_end d frame) (is_reset frame.body) e in
    simp (parts.0, parts.1, promises-other, and-false)

-- ---- how a side stands after a frame on a stream that is opened

-- a frame sends through a window or grants to it, never both
one_side : (d side : Side) → (is_side (other d) side && is_side d side) ≡ false
one_side Client Client = refl
one_side Client Server = refl
one_side Server Client = refl
one_side Server Server = refl

module _ (d : Side) (frame : Frame) (standing after : ℕ) (live : has_credit standing ≡ true)
    (c : IsBalanced d frame standing after) where
  overrun : overruns (pos standing) (content_by d frame) ≡ false
  overrun = let moved = c.moved in grind (arith, ints, nat_tests, moved, one_side d frame.side)

  fits : overflows (pos standing) (pos after) ≡ false
  fits = let within = c.within in grind (arith, ints, within)

  now : (initial : Sides ℕ) → credit_after_step d frame.stream initial (frame_step frame) (pos standing) ≡ pos after
  now initial = let moved = c.moved in omega (arith, ints, moved)

  standing-by : (next : ℕ) → ((initial : Sides ℕ)
      → IsQuietAt d frame.stream initial (frame_step frame) (Some (pos standing)) (window_of next))
      → has_ended next ≡ is_last_of d frame.stream frame → IsStandingAfter d frame standing next
  standing-by next quiet ended = record {
    said = λ initial. rw (window-some standing live) (quiet initial).said;
    window = λ initial. rw (window-some standing live) (sym (quiet initial).after);
    ended = rw (ended-none standing live) ended;
  }

  -- the window lives on
  pub standing_goes_on : ends_window d frame ≡ false → 0 < after → IsStandingAfter d frame standing after
  standing_goes_on goes_on some =
      let within = c.within in
      let still : has_credit after ≡ true = grind (arith, nat_tests, within, some) in
      standing-by after (λ initial. rw (window-some after still)
      (quiet-one d frame.stream initial (frame_step frame) (pos standing) (pos after) (now initial) fits overrun goes_on
      (some-left standing live ∙ sym (some-left after still))))
      (ended-none after still ∙ sym (unlast d frame goes_on))

  -- the window ends, and with it perhaps what the side sends
  pub standing_ends : ends_window d frame ≡ true
      → IsStandingAfter d frame standing (without_window (is_last_of d frame.stream frame))
  standing_ends ends =
      let is = unwindowed-is (is_last_of d frame.stream frame) in
      standing-by (without_window (is_last_of d frame.stream frame)) (λ initial. rw is.0
      (quiet-ended d frame.stream initial (frame_step frame) (pos standing) (pos after) (now initial) fits overrun ends
      (some-left standing live))) is.1
    where
      unwindowed-is : (last : Bool)
          → (window_of (without_window last) ≡ None) × (has_ended (without_window last) ≡ last)
      unwindowed-is true = (refl, refl)
      unwindowed-is false = (refl, refl)

-- ---- a stream that is opened, and a frame on it

some-number : (n : ℕ) → (n ≡ 0 → ⊥) → opened_of n ≡ Some n
some-number n h = rw (ne_eqb n 0 h) refl

pub opened-next : (frame : Frame) (old : Standings) (client server : ℕ) → (old.opened ≡ 0 → ⊥)
    → is_not_opened frame.stream (life_of old) frame ≡ false → is_after_end (life_of old) frame ≡ false
    → is_zero_grant frame.body ≡ false → IsStandingAfter Client frame old.client client
    → IsStandingAfter Server frame old.server server
    → IsNextOpened frame old (record { opened = old.opened; client = client; server = server })
opened-next frame old client server numbered used late zero c s =
    let number = some-number old.opened numbered in
    let unopened : is_opening frame.stream (life_of old) frame ≡ false = rw number refl in
    let new : Standings = record { opened = old.opened; client = client; server = server } in
    let next = stream_of new in record {
      unopened = unopened;
      next = λ initial. record {
        said =
            stream-quiet frame.stream initial (stream_of old) (frame_step frame) next.window unopened (quiet initial)
            (frame-quiet frame.stream (stream_of old) (frame_step frame) frame used late (rw zero refl));
        after = rw (
          stream-moved frame.stream initial (stream_of old) (frame_step frame) next.window unopened (quiet initial),
          number,
          c.ended,
          s.ended,
        ) refl;
      };
    }
  where
    quiet : (initial : Sides ℕ) (d : Side) → IsQuietAt d frame.stream initial (frame_step frame)
        (side_of d (stream_of old).window)
        (side_of d (stream_of (record { opened = old.opened; client = client; server = server })).window)
    quiet initial Client = record { said = c.said initial; after = sym (c.window initial) }
    quiet initial Server = record { said = s.said initial; after = sym (s.window initial) }

-- the same, by sender and receiver
pub opened-next-by : (sender : Side) (frame : Frame) (old : Standings) (own heard : ℕ) → (old.opened ≡ 0 → ⊥)
    → is_not_opened frame.stream (life_of old) frame ≡ false → is_after_end (life_of old) frame ≡ false
    → is_zero_grant frame.body ≡ false → IsStandingAfter sender frame (of_side sender old) own
    → IsStandingAfter (other sender) frame (of_side (other sender) old) heard
    → IsNextOpened frame old (sided sender old.opened own heard)
opened-next-by Client frame old own heard numbered used late zero sent met =
    opened-next frame old own heard numbered used late zero sent met
opened-next-by Server frame old own heard numbered used late zero sent met =
    opened-next frame old heard own numbered used late zero met sent

-- ---- a stream that a frame opens

module _ (stream : ℕ) (initial : Sides ℕ) (frame : Frame) (opening : is_opening stream idle_life frame ≡ true) where
  opened-said : (d : Side) (last : Bool) (n : ℕ) → (last ≡ false → is_used_up (pos n) ≡ false)
      → AreQuiet (say_of (opened_window_said d stream (frame_step frame)) (if last then None else Some (pos n)))
  opened-said d true n h = tt
  opened-said d false n h = both _ _ (unsaid (is_used_up (pos n)) _ (h refl)) (refl, tt)

  side-said : (d : Side) → (is_last_of d stream frame ≡ false → is_used_up (pos (side_of d initial)) ≡ false)
      → AreQuiet (stream_window_said d stream initial idle_stream (frame_step frame))
  side-said d h = rw opening (opened-said d (is_last_of d stream frame) (side_of d initial) h)

  pub idle-opened : (client server : ℕ) → (frame.number ≡ 0 → ⊥) → is_not_opened stream idle_life frame ≡ false
      → IsOpeningStanding initial.client (is_last_of Client stream frame) client
      → IsOpeningStanding initial.server (is_last_of Server stream frame) server
      → IsOpenedBy stream initial frame (record { opened = frame.number; client = client; server = server })
  idle-opened client server numbered used c s =
      let number = some-number frame.number numbered in record {
        opening = opening;
        said = both _ _
            (both _ _ (frame-quiet stream idle_stream (frame_step frame) frame used (simp and-false) (simp and-false))
            (side-said Client c.some)) (side-said Server s.some);
        after = rw (opening, number, c.ended, s.ended, c.window, s.window) refl;
      }
