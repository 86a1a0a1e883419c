-- The streams that frames name are those that meet one of them, each once.
use Rattle.std.proofs.Common.{Bool, List, [], arith, eq-eqb, false, filter, not, sym, true, true≢false, ℕ, ◌&&◌, ◌==◌}
use Rattle.std.proofs.Common.{◌||◌, ◌∷◌, ◌≡◌, ◌≢◌}
use Rattle.std.proofs.{Math.Bool.and-false, lemmas.Bool.Decides.nat_tests, lemmas.Map.Views.any-filter_same}
use Rattle.std.proofs.lemmas.List.Elements.{filter_passes, recursion_from_All}
use Rattle.std.specs.List.{AllByRecursion, list_any}
use Rattle.audit_terms.proofs.FindingLists.{each-weaker}
use Rattle.audit_terms.proofs.Pairs.{pairs-filter}
use Rattle.audit_terms.specs.Frame.{promised_by, promises}
use Rattle.audit_terms.specs.Pass.{first_of, streams_of}
use Rattle.audit_terms.specs.declared.frames.Frame.{Frame}
use Rattle.audit_terms.specs.laws.Pairs.{EachPair}
use Rattle.audit_terms.specs.laws.Streams.{StreamsAreNamedOnce, StreamsAreThoseMet}

module _ (stream : ℕ) where
  abbrev is_named : List ℕ → Bool
  is_named streams = list_any (λ other. other == stream) streams

  -- how one more stream counts, which is left out where it is 0
  names-first : (first : ℕ) (streams : List ℕ)
      → is_named (first_of first streams) ≡ ((not (stream == 0) && (first == stream)) || is_named streams)
  names-first first streams =
      let named : (first == stream) ≡ false → is_named (filter (λ other. not (other == first)) streams)
      ≡ is_named streams = λ e. any-filter_same (λ other. other == stream) (λ other. not (other == first)) true
      (λ other q. grind (arith, nat_tests)) streams in
      grind (arith, nat_tests)

  -- the stream, other than 0, is the one that the frame promises
  promised-is : (frame : Frame) → (stream == 0) ≡ false → (promised_by frame == stream) ≡ promises stream frame
  promised-is frame e = grind (arith, nat_tests)

pub streams_met_lem : StreamsAreThoseMet
streams_met_lem stream [] = sym (and-false (not (stream == 0)))
streams_met_lem stream (frame ∷ frames) =
    let own = names-first stream frame.stream (first_of (promised_by frame) (streams_of frames)) in
    let promised = names-first stream (promised_by frame) (streams_of frames) in
    let later = streams_met_lem stream frames in
    grind (arith, nat_tests, promised-is stream frame)

-- ---- each once

not_among-others : (stream : ℕ) (streams : List ℕ)
    → AllByRecursion (λ other. stream ≢ other) (filter (λ other. not (other == stream)) streams)
not_among-others stream streams =
    each-weaker (λ other. not (other == stream) ≡ true) (λ other. stream ≢ other)
    (λ other e p. true≢false (sym (rw (eq-eqb other stream (sym p)) at e))) _
    (recursion_from_All _ _ (filter_passes (λ other. not (other == stream)) streams))

distinct-first_of : (stream : ℕ) (streams : List ℕ) → EachPair ◌≢◌ streams → EachPair ◌≢◌ (first_of stream streams)
distinct-first_of stream streams h = grind (arith, not_among-others, pairs-filter)

-- no stream is named twice
pub distinct-streams_of : (frames : List Frame) → EachPair ◌≢◌ (streams_of frames)
distinct-streams_of [] = tt
distinct-streams_of (frame ∷ frames) =
    distinct-first_of frame.stream _ (distinct-first_of (promised_by frame) _ (distinct-streams_of frames))

pub streams_once_lem : StreamsAreNamedOnce
streams_once_lem frames = distinct-streams_of frames
