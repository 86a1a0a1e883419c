-- The openings that streams by themselves tell, as runs tell them that went up to some place, and those of the pass.
use Rattle.audit_rounds.proofs.Words.{◌≡◌, ℕ, suc, ◌==◌, Bool, false, All, List, [], ◌∷◌, ◌++◌, not, map, filter, refl}
use Rattle.audit_rounds.proofs.Words.{sym, ap, ◌∙◌, arith, Option, Some, None, nat_tests, option_to_list, list_any}
use Rattle.audit_rounds.proofs.Words.{IsPermutation, flat_map, flat_map-append, list_any-append, list_any-IsPermutation}
use Rattle.audit_rounds.proofs.Words.{Frame, changes_of, is_past, streams_of, frames_of, stream_at_end, opened_up_to}
use Rattle.audit_rounds.proofs.Words.{openings_of, Reaches, AgreeWithin, ◌+◌, ◌<◌, ◌≤◌, true, ◌&&◌, ◌||◌, eqb-true}
use Rattle.audit_rounds.proofs.Words.{is_none, if◌then◌else◌, Sides, Body, Change, Item, Step, Stream, meets}
use Rattle.audit_rounds.proofs.Words.{is_headers, IsOrderly, IsOrderlyFrom, initial_in_force, in_force_after, change_of}
use Rattle.audit_rounds.proofs.Words.{idle_stream, stream_after, initial_after, PassState, pass_start, next, step_of}
use Rattle.audit_rounds.proofs.Words.{items_from, state_from, streams_met_lem, is_marked}
use Rattle.std.proofs.lemmas.List.Sorted.{IsPermutation-filter_both}
use Rattle.audit_terms.specs.declared.frames.Body.TheVariants.{Headers}
use Rattle.audit_terms.specs.Frame.{is_promise}
use Rattle.audit_terms.specs.Life.{is_opening}
use Rattle.audit_terms.specs.Pass.{opens_stream}
use Rattle.audit_terms.specs.code.runs.States.{state_after}
use Rattle.audit_terms.specs.code.runs.Streams.{stream_after_all}
use Rattle.audit_core.proofs.QuietSteps.{stream_after-quiet}
use Rattle.audit_core.proofs.StreamSteps.{step_if_any, steps_from, steps_of-steps_from}
use Rattle.audit_rounds.specs.code.Openings.{opening_of}
use Rattle.audit_rounds.specs.laws.Settling.{RunUpto, openings_told, OpeningsAreTold}
use Rattle.audit_rounds.specs.laws.Openings.{OpeningsAreFound}

-- ---- lists that agree

pub agree-append : (stop : Option ℕ) (xs ys us vs : List ℕ) → AgreeWithin stop xs ys → AgreeWithin stop us vs →
    AgreeWithin stop (xs ++ us) (ys ++ vs)
agree-append stop xs ys us vs h k number e =
    let left = h number e in
    let right = k number e in
    simp (list_any-append, left, right)

-- what is not past the stop is not past what reached it
reached : (upto stop : Option ℕ) (number : ℕ) → Reaches upto stop → is_past stop number ≡ false →
    is_past upto number ≡ false
reached None stop number r e = refl
reached (Some place) None number r e = absurd r
reached (Some place) (Some stop) number r e = grind (arith, nat_tests)

pub agree-reached : (upto stop : Option ℕ) (xs ys : List ℕ) → Reaches upto stop → AgreeWithin upto xs ys →
    AgreeWithin stop xs ys
agree-reached upto stop xs ys r h number e = h number (reached upto stop number r e)

-- ---- the opening of one run

pub agree-opened : (upto opened : Option ℕ) →
    AgreeWithin upto (option_to_list (opened_up_to upto opened)) (option_to_list opened)
agree-opened upto None number e = refl
agree-opened upto (Some n) number e = grind (arith, nat_tests)

-- ---- of all runs

agree-told : (frames : List Frame) (stop : Option ℕ) (runs : List RunUpto) →
    All (λ (run : RunUpto). Reaches run.upto stop) runs →
    AgreeWithin stop (openings_told frames runs) (openings_of frames (map (λ (run : RunUpto). run.stream) runs))
agree-told frames stop [] h = λ number e. refl
agree-told frames stop (run ∷ runs) h =
    agree-append stop _ _ (openings_told frames runs) _
    (agree-reached run.upto stop _ _ (h 0 run (omega arith)) (agree-opened run.upto
    (stream_at_end run.stream (frames_of run.stream frames) (changes_of frames)).life.opened))
    (agree-told frames stop runs (λ k d l. h (suc k) d (omega arith)))

-- a number among joined lists is in one of them
pub any-joined : {X : Type 0} (number : ℕ) (f : X → List ℕ) (xs : List X)
    → list_any (λ one. one == number) (flat_map f xs) ≡ list_any (λ x. list_any (λ one. one == number) (f x)) xs
any-joined number f [] = refl
any-joined number f (x ∷ xs) = rw (list_any-append (λ one. one == number) (f x) (flat_map f xs), any-joined number f xs)

-- so their order does not count
agree-joined : {X : Type 0} (stop : Option ℕ) (f : X → List ℕ) (xs ys : List X) → IsPermutation xs ys
    → AgreeWithin stop (flat_map f xs) (flat_map f ys)
agree-joined stop f xs ys p number e =
    any-joined number f xs ∙ list_any-IsPermutation _ xs ys p ∙ sym (any-joined number f ys)

-- the openings of some streams and of the others are those of all
pub agree-parted : (frames : List Frame) (stop : Option ℕ) (test : ℕ → Bool) (streams : List ℕ) →
    AgreeWithin stop
    (openings_of frames (filter (λ stream. not (test stream)) streams) ++ openings_of frames (filter test streams))
    (openings_of frames streams)
agree-parted frames stop test streams number e =
    let others = filter (λ stream. not (test stream)) streams in
    ap (list_any (λ one. one == number)) (sym (flat_map-append (opening_of frames) others (filter test streams)))
    ∙ sym (agree-joined stop (opening_of frames) streams (others ++ filter test streams)
    (IsPermutation-filter_both (λ stream. not (test stream)) test (λ stream. twice (test stream)) streams) number e)
  where
    twice : (b : Bool) → b ≡ not (not b)
    twice b = grind arith

pub openings_are_told_lem : OpeningsAreTold
openings_are_told_lem frames runs stop opened s h p number e =
    sym (list_any-IsPermutation _ (openings_told frames runs) opened p) ∙ agree-told frames stop runs h number e
    ∙ agree-joined stop (opening_of frames) (map (λ (run : RunUpto). run.stream) runs) (streams_of frames) s number e

-- ---- a stream at its end is the stream in the pass

one_step : (stream number : ℕ) (initial : Sides ℕ) (entry : Stream) (o : Option Frame) (c : Option Change)
    (rest : List Step)
    → stream_after_all stream initial entry (step_if_any (record { number = number; frame = o; change = c }) ++ rest)
    ≡ stream_after_all stream (initial_after c initial)
    (stream_after stream initial entry (record { number = number; frame = o; change = c })) rest
one_step stream number initial entry None None rest =
    ap (λ now. stream_after_all stream initial now rest)
    (sym (stream_after-quiet stream initial number None entry refl))
one_step stream number initial entry _ _ rest = refl

after_all-pass : (stream : ℕ) (state : PassState) (frames : List Frame)
    → stream_after_all stream state.in_force.initial (state.streams stream) (steps_from stream state.in_force frames)
    ≡ (state_from state frames).streams stream
after_all-pass stream state [] = refl
after_all-pass stream state (frame ∷ frames) =
    one_step stream frame.number state.in_force.initial (state.streams stream)
    (step_of state.in_force frame stream).frame (change_of state.in_force frame)
    (steps_from stream (in_force_after state.in_force frame) frames)
    ∙ after_all-pass stream (next state frame) frames

at_end-pass : (stream : ℕ) (frames : List Frame) → IsOrderly frames
    → stream_at_end stream (frames_of stream frames) (changes_of frames) ≡ (state_after frames).streams stream
at_end-pass stream frames h =
    ap (stream_after_all stream initial_in_force.initial idle_stream)
    (steps_of-steps_from 0 stream initial_in_force frames h)
    ∙ after_all-pass stream pass_start frames

-- ---- the opening of one stream

abbrev opened : PassState → ℕ → Option ℕ
opened state stream = (state.streams stream).life.opened

-- does the frame open the stream?
abbrev opens_it : PassState → Frame → ℕ → Bool
opens_it state frame stream = meets stream frame && is_opening stream (state.streams stream).life frame

opened-next : (state : PassState) (frame : Frame) (stream : ℕ)
    → opened (next state frame) stream
    ≡ (if opens_it state frame stream then Some frame.number else opened state stream)
opened-next state frame stream = grind arith

-- is it this number?
abbrev is_at : ℕ → Option ℕ → Bool
is_at n o = list_any (λ m. m == n) (option_to_list o)

-- a stream opens once
at-once : (o : Option ℕ) (b t : Bool) (n m : ℕ) → n < m
    → is_at n (if b && (is_none o && t) then Some m else o) ≡ is_at n o
at-once None b t n m l = grind (arith, nat_tests)
at-once (Some k) b t n m l = grind (arith)

-- so frames of later numbers do not count
at-later : (state : PassState) (frames : List Frame) (stream n low : ℕ) → n < low → IsOrderlyFrom low frames
    → is_at n (opened (state_from state frames) stream) ≡ is_at n (opened state stream)
at-later state [] stream n low l h = refl
at-later state (frame ∷ frames) stream n low l h =
    at-later (next state frame) frames stream n (frame.number + 1) (omega (arith, h.0)) h.2
    ∙ ap (is_at n) (opened-next state frame stream)
    ∙ at-once (opened state stream) (meets stream frame) _ n frame.number (omega (arith, h.0))

-- no opening so far is of a frame of this number or above
abbrev NoneFrom : (low : ℕ) → PassState → Type 0
NoneFrom low state = (stream n : ℕ) → low ≤ n → is_at n (opened state stream) ≡ false

module _ (state : PassState) (frame : Frame) where
  -- the frame's number stands at the end where the frame opens the stream
  opened-here : (frames : List Frame) (stream : ℕ) → NoneFrom frame.number state
      → IsOrderlyFrom (frame.number + 1) frames
      → is_at frame.number (opened (state_from (next state frame) frames) stream) ≡ opens_it state frame stream
  opened-here frames stream below h =
      let none = below stream frame.number (omega arith) in
      at-later (next state frame) frames stream frame.number (frame.number + 1) (omega arith) h
      ∙ rw (opened-next state frame stream) (grind (arith, nat_tests))

  none-next : NoneFrom frame.number state → NoneFrom (frame.number + 1) (next state frame)
  none-next below stream n l =
      let none = below stream n (omega arith) in
      rw (opened-next state frame stream) (grind (arith, nat_tests))

-- ---- a frame of HEADERS

-- HEADERS promise nothing
headers-promise : (body : Body) → is_headers body ≡ true → is_promise body ≡ false
headers-promise Headers e = refl
headers-promise _ e = cc

abbrev among : ℕ → List ℕ → Bool
among stream streams = list_any (λ other. other == stream) streams

absorbed : (x y : Bool) → (x || (y && x)) ≡ x
absorbed true y = refl
absorbed false true = refl
absorbed false false = refl

-- the openings at the end of the pass
abbrev openings_at : PassState → List ℕ → List ℕ
openings_at state streams = flat_map (λ stream. option_to_list (opened state stream)) streams

module _ (state : PassState) (frame : Frame) where
  opens-pass : opens_stream state frame ≡ opens_it state frame frame.stream
  opens-pass = grind (arith, nat_tests)

  opens-other : (stream : ℕ) → is_headers frame.body ≡ true → (stream == frame.stream) ≡ false
      → opens_it state frame stream ≡ false
  opens-other stream h e = let none = headers-promise frame.body h in grind (arith, nat_tests)

  any-opens : (streams : List ℕ) → is_headers frame.body ≡ true
      → list_any (opens_it state frame) streams ≡ (among frame.stream streams && opens_it state frame frame.stream)
  any-opens [] h = refl
  any-opens (stream ∷ streams) h = by_test _ refl (any-opens streams h) where
    by_test : (same : Bool) → (stream == frame.stream) ≡ same
        → list_any (opens_it state frame) streams
        ≡ (among frame.stream streams && opens_it state frame frame.stream)
        → list_any (opens_it state frame) (stream ∷ streams)
        ≡ ((same || among frame.stream streams) && opens_it state frame frame.stream)
    by_test true e rest =
        rw (eqb-true stream frame.stream e, rest)
        (absorbed (opens_it state frame frame.stream) (among frame.stream streams))
    by_test false e rest = rw (opens-other stream h e) rest

  opens-here : (frames : List Frame) (streams : List ℕ)
      → NoneFrom frame.number state → IsOrderlyFrom (frame.number + 1) frames
      → ((frame.stream == 0) ≡ false → among frame.stream streams ≡ true)
      → opens_stream state frame
      ≡ is_marked (openings_at (state_from (next state frame) frames) streams) frame
  opens-here frames streams below h named =
      let found = any-joined frame.number
      (λ stream. option_to_list (opened (state_from (next state frame) frames) stream)) streams
      ∙ ap (λ test. list_any test streams) (λ i s. opened-here state frame frames s below h i) in
      let any = any-opens streams in
      grind (arith, nat_tests, opens-pass)

opens-all : (low : ℕ) (state : PassState) (frames : List Frame) (streams : List ℕ)
    → NoneFrom low state → IsOrderlyFrom low frames
    → ((s : ℕ) → list_any (meets s) frames ≡ true → (s == 0) ≡ false → among s streams ≡ true)
    → map (λ (item : Item). item.opens) (items_from state frames)
    ≡ map (is_marked (openings_at (state_from state frames) streams)) frames
opens-all low state [] streams below h named = refl
opens-all low state (frame ∷ frames) streams below h named =
    let now : NoneFrom frame.number state = λ s n l. below s n (omega (arith, h.0)) in
    let own : list_any (meets frame.stream) (frame ∷ frames) ≡ true = grind (arith, nat_tests) in
    ap (λ b. b ∷ map (λ (item : Item). item.opens) (items_from (next state frame) frames))
    (opens-here state frame frames streams now h.2 (named frame.stream own))
    ∙ ap (λ l. is_marked (openings_at (state_from (next state frame) frames) streams) frame ∷ l)
    (opens-all (frame.number + 1) (next state frame) frames streams (none-next state frame now) h.2
    (λ s met. named s (grind arith)))

openings-end : (frames : List Frame) (streams : List ℕ) → IsOrderly frames
    → openings_of frames streams ≡ openings_at (state_after frames) streams
openings-end frames streams h =
    ap (λ f. flat_map f streams) (λ i stream. option_to_list (at_end-pass stream frames h i).life.opened)

pub openings_are_found_lem : OpeningsAreFound
openings_are_found_lem frames h =
    rw (openings-end frames (streams_of frames) h)
    (opens-all 0 pass_start frames (streams_of frames) (λ s n l. refl) h
    (λ s met above. streams_met_lem s frames ∙ rw (above, met) refl))
