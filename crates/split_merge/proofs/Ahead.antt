-- What is known of quiet streams as rows are added, as streams meet frames, and after the last one.
use Rattle.audit_terms.proofs.OrderlyFrames.{orderly-filter}
use Rattle.audit_terms.specs.code.runs.Changes.{AreAcknowledged, AreOrderly}
use Rattle.split_merge.proofs.Terms.{All, List, Some, drop, refl, set, suc, sym, take, true, zero, ◌++◌, ◌+◌, ◌<◌, ◌^◌}
use Rattle.split_merge.proofs.Terms.{All-filter, IsAheadOf, EndsQuietOf}
use Rattle.split_merge.proofs.Terms.{IsInRange, drop-set-lt, length-set, promised_by}
use Rattle.split_merge.proofs.Terms.{AllZip, AreAhead, Bool, Change, NotAmong, [], arith, get_or, is_ack, length, meets}
use Rattle.split_merge.proofs.Terms.{AreDistinct, QuietStream, get_or_from_slice_get, slice_get_within, take_more_set}
use Rattle.split_merge.proofs.Terms.{Frame, IsOrderly, drop_more, frames_of, nat_tests, slice_get, take_more, with_next}
use Rattle.split_merge.proofs.Visited.{among-apart, not_among-front, not_among-push}
use Rattle.split_merge.proofs.{Positions.promised-is, Terms.ℕ, Terms.◌∙◌, Terms.◌∷◌, Terms.◌≡◌, Terms.◌≢◌}
use Rattle.std.proofs.lemmas.Slice.Zip.{all_zipped_more}
use Rattle.stream_credit.specs.code.QuietStream.{IsAheadIfQuiet}

-- ---- the frames of one stream

pub orderly-of : (stream : ℕ) (frames : List Frame) → IsOrderly frames → IsOrderly (frames_of stream frames)
orderly-of stream frames h = orderly-filter (meets stream) 0 frames h

-- among the frames of a stream changes are acknowledged too
pub acknowledged-of : (stream : ℕ) (frames : List Frame) (changes : List Change) → AreAcknowledged frames changes
    → AreAcknowledged (frames_of stream frames) changes
acknowledged-of stream frames changes h =
    All-filter (meets stream) (λ (frame : Frame).
    All (λ (change : Change). frame.number ≡ change.number → is_ack frame.body ≡ true) changes) frames h

-- a frame is met by its own stream and by the one that it promises
pub next-frame : (frame : Frame) (frames : List Frame) (s : ℕ) → s ≢ 0 →
    frames_of s (frame ∷ frames)
    ≡ with_next frame.stream frame (with_next (promised_by frame) frame (λ s. frames_of s frames)) s
next-frame frame frames s n = rw (promised-is s n frame) (grind arith)

pub promised-small : (frame : Frame) → IsInRange frame → promised_by frame < 2 ^ 31
promised-small frame range = let small = range.promised in grind arith

-- ---- facts of streams and what stands beside each

-- at streams that are not this one
pub zip-apart : {Y : Type 0} (R S : ℕ → Y → Type 0) (q : ℕ) (xs : List ℕ) (ys : List Y) → NotAmong q xs
    → ((x : ℕ) (y : Y) → q ≢ x → R x y → S x y) → AllZip R xs ys → AllZip S xs ys
zip-apart R S q [] [] out more h = h
zip-apart R S q (x ∷ xs) (y ∷ ys) out more h = (more x y out.0 h.0, zip-apart R S q xs ys out.1 more h.1)
zip-apart R S q xs ys out more h = absurd h

zip-at : {Y : Type 0} (R : ℕ → Y → Type 0) (xs : List ℕ) (ys : List Y) (row x : ℕ) (d : Y) → AllZip R xs ys
    → slice_get xs row ≡ Some x → R x (get_or ys row d)
zip-at R [] ys row x d h at = cc
zip-at R (z ∷ xs) [] row x d h at = absurd h
zip-at R (z ∷ xs) (y ∷ ys) zero x d h at = let same : z ≡ x = cc in rw (← same) h.0
zip-at R (z ∷ xs) (y ∷ ys) (suc row) x d h at = zip-at R xs ys row x d h.1 at

zip-set : {Y : Type 0} (R S : ℕ → Y → Type 0) (xs : List ℕ) (ys : List Y) (row x : ℕ) (new : Y) → AreDistinct xs
    → slice_get xs row ≡ Some x → S x new → ((z : ℕ) (y : Y) → x ≢ z → R z y → S z y) → AllZip R xs ys
    → AllZip S xs (set ys row new)
zip-set R S [] ys row x new distinct at here others h = cc
zip-set R S (z ∷ xs) [] row x new distinct at here others h = absurd h
zip-set R S (z ∷ xs) (y ∷ ys) zero x new distinct at here others h =
    let same : z ≡ x = cc in
    (rw same here, zip-apart R S x xs ys (rw same at distinct.0) others h.1)
zip-set R S (z ∷ xs) (y ∷ ys) (suc row) x new distinct at here others h =
    (others z y (among-apart z x xs row distinct.0 at) h.0, zip-set R S xs ys row x new distinct.1 at here others h.1)

-- ---- streams and what they have still to meet

module _ {changes : List Change} {all : List Frame} where
  pub ahead-alike : (f g : ℕ → List Frame) {streams : List ℕ} {quiets : List QuietStream}
      → ((s : ℕ) → s ≢ 0 → f s ≡ g s) → AreAhead changes all f streams quiets → AreAhead changes all g streams quiets
  ahead-alike f g {streams} {quiets} same h = record {
    orderly = h.orderly;
    rise = h.rise;
    acknowledged = h.acknowledged;
    above = h.above;
    ahead = zip-apart (IsAheadOf changes all f) (IsAheadOf changes all g) 0 streams quiets h.above
        (λ s quiet n was. rw (← same s (λ e. n (sym e))) was) h.ahead;
    unmet = λ s n out. sym (same s n) ∙ h.unmet s n out;
  }

  -- stream 0 meets no frame
  pub ahead-zero : (frame : Frame) (rest : ℕ → List Frame) (stream : ℕ) {streams : List ℕ} {quiets : List QuietStream}
      → stream ≡ 0 → AreAhead changes all (with_next stream frame rest) streams quiets
      → AreAhead changes all rest streams quiets
  ahead-zero frame rest stream z h = ahead-alike (with_next stream frame rest) rest (λ s n. grind (arith, nat_tests)) h

  -- no stream has met a frame
  pub ahead-none : IsOrderly all → AreOrderly changes → AreAcknowledged all changes
      → AreAhead changes all (λ s. frames_of s all) [] []
  ahead-none orderly rise acknowledged = record {
    orderly = orderly;
    rise = rise;
    acknowledged = acknowledged;
    above = tt;
    ahead = tt;
    unmet = λ s n out. refl;
  }

  -- the streams of a frame meet it next
  pub ahead-frame : (i : ℕ) (frame : Frame) {streams : List ℕ} {quiets : List QuietStream} → i < length all
      → frame ≡ get_or all i frame → AreAhead changes all (λ s. frames_of s (drop i all)) streams quiets
      → AreAhead changes all (with_next frame.stream frame
      (with_next (promised_by frame) frame (λ s. frames_of s (drop (i + 1) all)))) streams quiets
  ahead-frame i frame l is h =
      ahead-alike (λ s. frames_of s (drop i all)) _
      (λ s n. rw (drop_more all i frame l, ← is) (next-frame frame (drop (i + 1) all) s n)) h

  module _ (rest : ℕ → List Frame) {streams : List ℕ} {quiets : List QuietStream} (stream : ℕ) where
    -- one more stream, which no frame has met
    pub ahead-new : AreAhead changes all rest streams quiets → stream ≢ 0 → stream < 2 ^ 31 → NotAmong stream streams
        → (quiet : QuietStream)
        → ((s : ℕ) (changes : List Change) (all : List Frame) → s < 2 ^ 31 → IsOrderly all → AreOrderly changes
        → AreAcknowledged all changes → IsAheadIfQuiet s changes all all quiet)
        → AreAhead changes all rest (streams ++ stream ∷ []) (quiets ++ quiet ∷ [])
    ahead-new h n small new quiet idle = record {
      orderly = h.orderly;
      rise = h.rise;
      acknowledged = h.acknowledged;
      above = not_among-push 0 stream streams h.above (λ e. n (sym e));
      ahead = all_zipped_more (IsAheadOf changes all rest) streams quiets stream quiet h.ahead
          (rw (h.unmet stream n new) (idle stream changes (frames_of stream all) small (orderly-of stream all h.orderly)
          h.rise (acknowledged-of stream all changes h.acknowledged)));
      unmet = λ s m out. h.unmet s m (not_among-front s stream streams out).0;
    }

    -- a stream meets its next frame
    module _ (frame : Frame) (row : ℕ) (h : AreAhead changes all (with_next stream frame rest) streams quiets)
        (distinct : AreDistinct streams) (at : slice_get streams row ≡ Some stream) where
      there : (s : ℕ) → stream ≢ s → with_next stream frame rest s ≡ rest s
      there s n = grind (arith, nat_tests)

      -- what is known of it before
      pub ahead-next : (d : QuietStream)
          → IsAheadIfQuiet stream changes (frames_of stream all) (frame ∷ rest stream) (get_or quiets row d)
      ahead-next d =
          let here : with_next stream frame rest stream ≡ frame ∷ rest stream = grind (arith, nat_tests) in
          let next = with_next stream frame rest in
          rw (← here) (zip-at (IsAheadOf changes all next) streams quiets row stream d h.ahead at)

      pub ahead-met : (quiet : QuietStream) → IsAheadIfQuiet stream changes (frames_of stream all) (rest stream) quiet
          → AreAhead changes all rest streams (set quiets row quiet)
      ahead-met quiet after = record {
        orderly = h.orderly;
        rise = h.rise;
        acknowledged = h.acknowledged;
        above = h.above;
        ahead = zip-set (IsAheadOf changes all (with_next stream frame rest)) (IsAheadOf changes all rest) streams
            quiets row stream quiet distinct at after (λ s y apart was. rw (← there s apart) was) h.ahead;
        unmet = λ s m out. sym (there s (among-apart s stream streams row out at)) ∙ h.unmet s m out;
      }

-- ---- after the last frame

-- so many streams have met the changes behind their last frames
pub record IsPartEnded (frames_shown : Bool) (changes : List Change) (all : List Frame) (streams : List ℕ)
    (quiets : List QuietStream) (many : ℕ) : Type 0 where
  pub long : length quiets ≡ length streams
  pub ends_quiet : AllZip (EndsQuietOf frames_shown changes all) (take many streams) (take many quiets)
  pub ahead : AllZip (IsAheadOf changes all (λ _. [])) (drop many streams) (drop many quiets)

module _ {frames_shown : Bool} {changes : List Change} {all : List Frame} {streams : List ℕ}
    {quiets : List QuietStream} {many : ℕ} (s : ℕ) (at : slice_get streams many ≡ Some s)
    (h : IsPartEnded frames_shown changes all streams quiets many) (d : QuietStream) where
  within : many < length streams
  within = slice_get_within streams many s at

  both : IsAheadOf changes all (λ _. []) s (get_or quiets many d)
      × AllZip (IsAheadOf changes all (λ _. [])) (drop (many + 1) streams) (drop (many + 1) quiets)
  both = rw (
    drop_more streams many s within,
    get_or_from_slice_get streams many s s at,
    drop_more quiets many d (omega (arith, within, h.long)),
  ) at h.ahead

  pub ended-next : IsAheadOf changes all (λ _. []) s (get_or quiets many d)
  ended-next = both.0

  pub ended-more : (quiet : QuietStream) → EndsQuietOf frames_shown changes all s quiet
      → IsPartEnded frames_shown changes all streams (set quiets many quiet) (many + 1)
  ended-more quiet done = record {
    long = length-set quiets many quiet ∙ h.long;
    ends_quiet = rw (
      take_more streams many s within,
      get_or_from_slice_get streams many s s at,
      take_more_set quiets many quiet (omega (arith, within, h.long)),
    ) (all_zipped_more (EndsQuietOf frames_shown changes all) _ _ s quiet h.ends_quiet done);
    ahead = rw (drop-set-lt (many + 1) quiets many quiet (omega arith)) both.1;
  }
