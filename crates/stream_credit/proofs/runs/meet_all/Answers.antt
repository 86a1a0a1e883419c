use Rattle.stream_credit.proofs.Words.{◌≡◌, ℕ, ◌<◌, ◌++◌, List, [], Option, length, slice_get, ◌∙◌, option_to_list}
use Rattle.stream_credit.proofs.Words.{flat_map-append, when_false, when_true, All-drop, nil_from_length, Change}
use Rattle.stream_credit.proofs.Words.{Finding, Frame, Walk, frames_at, true, ◌==◌, eqb-true, sym, IfOk-weaker}
use Rattle.stream_credit.proofs.RunLemmas.{MeetsFrames, match-more, sound-ends}
use Rattle.stream_credit.proofs.runs.meet_all.Goals as goal

-- the frames that are left are those that are near, and then the others
turn : {L : Type 0} {answers : L → List Finding → Option ℕ → L → Type 0} {changes : List Change} {before now : L}
    {old walk : Walk} {all : List Frame} (frames : List Frame) (some later rest : List ℕ) (near : List Frame)
    → rest ≡ some ++ later → near ≡ frames_at frames some
    → MeetsFrames answers changes before old all now walk (frames_at frames rest)
    → MeetsFrames answers changes before old all now walk (near ++ frames_at frames later)
turn frames some later rest near e n meets run h =
    rw (e, flat_map-append (λ position. option_to_list (slice_get frames position)) some later, ← n) at (meets run h)

pub meet_frames-requires : goal.meet_frames-requires
meet_frames-requires g c =
    let (run, h) = c.requires.sound in (
      run,
      _,
      turn c.args.own.now.frames.now _ _ _ _ c.split_at.ensures.by_index.0
          (c.as_slice.ensures.value ∙ c.in_ok-gather.ensures) c.loop-rest.invariant.meets run h,
    )

pub returns-then-not-branch : goal.returns-then-not-branch
returns-then-not-branch g c = λ run h.
    when_false _ _ c.if-not-branch.true (c.in_ok-meet_frames.ensures run _
    (turn c.args.own.now.frames.now _ _ _ _ c.split_at.ensures.by_index.0
    (c.as_slice.ensures.value ∙ c.in_ok-gather.ensures) c.loop-rest.invariant.meets run h))

pub loop-rest-preserved : goal.loop-rest-preserved
loop-rest-preserved g c = record {
  within = rw c.split_at.ensures.back (All-drop (λ (position : ℕ). position < length c.args.own.now.frames.now) _ _
      c.loop-rest.invariant.within);
  meets = λ run h.
      when_true _ _ c.if-not-branch.false (c.in_ok-meet_frames.ensures run _
      (turn c.args.own.now.frames.now _ _ _ _ c.split_at.ensures.by_index.0
      (c.as_slice.ensures.value ∙ c.in_ok-gather.ensures) c.loop-rest.invariant.meets run h));
}

-- no frame is left
over : {L : Type 0} {answers : L → List Finding → Option ℕ → L → Type 0} {changes : List Change} {before now : L}
    {old walk : Walk} {all : List Frame} (frames : List Frame) (rest : List ℕ) → true ≡ (length rest == 0)
    → MeetsFrames answers changes before old all now walk (frames_at frames rest)
    → MeetsFrames answers changes before old all now walk []
over frames rest none meets run h = rw (nil_from_length rest (eqb-true _ _ (sym none))) at (meets run h)

pub meet_changes-requires : goal.meet_changes-requires
meet_changes-requires g c =
    let (run, h) = c.requires.sound in record {
      run = run;
      rest = [];
      starts = tt;
      sound = over c.args.own.now.frames.now _ c.loop-rest-test.ensures c.loop-rest.invariant.meets run h;
    }

pub returns : goal.returns
returns g c =
    IfOk-weaker c.meet_changes.result _ _ (λ goes_on meets run h.
    match-more goes_on _ _ _ (λ met. sound-ends met.0 met.1)
    (meets run [] tt (over c.args.own.now.frames.now _ c.loop-rest-test.ensures c.loop-rest.invariant.meets run h)))
    c.meet_changes.ensures
