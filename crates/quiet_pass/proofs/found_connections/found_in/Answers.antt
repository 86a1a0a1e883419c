use Rattle.std.proofs.Common.{◌++◌, ◌≡◌, ◌∙◌, ◌<◌, ◌≤◌, ℕ, [], List, ap, append_assoc, arith, drop, length}
use Rattle.std.proofs.Common.{length-append, refl, subst, sym, take}
use Rattle.std.proofs.lemmas.Bool.Decides.{when_false, when_true}
use Rattle.std.proofs.lemmas.List.{take-append-drop}
use Rattle.audit_terms.proofs.OrderlyFrames.{length-orderly}
use Rattle.audit_terms.specs.code.runs.Orderly.{IsOrderly}
use Rattle.audit_terms.specs.declared.frames.Frame.{Frame}
use Rattle.quiet_pass.specs.code.FoundPass.{IsFoundAfter}
use Rattle.quiet_pass.specs.declared.found_passes.FoundPass.{FoundPass}
use Rattle.quiet_pass.proofs.FoundLemmas.{orderly-upto, some-found}
use Rattle.quiet_pass.proofs.found_connections.found_in.Goals as goal

-- the front of orderly frames is orderly
orderly-front : (frames front back : List Frame) → frames ≡ front ++ back → IsOrderly frames → IsOrderly front
orderly-front frames front back parts orderly = orderly-upto 0 front back (subst IsOrderly parts orderly)

-- a machine that met both parts has met all
all-met : (frames front back : List Frame) (pass : FoundPass) → frames ≡ front ++ back
    → IsFoundAfter (front ++ back) pass → IsFoundAfter frames pass
all-met frames front back pass parts = subst (λ (met : List Frame). IsFoundAfter met pass) (sym parts)

-- frames are met only for as long as nothing is shown where they are more than so many
are-many : (most front-length : ℕ) (frames front back : List Frame) (count : ℕ) → frames ≡ front ++ back
    → length front ≡ front-length → (length frames ≤ most → front-length ≡ length frames) → count < length back
    → most < length frames
are-many most front-length frames front back count parts long all left =
    let lengths = ap length parts ∙ length-append front back in grind (arith, all, lengths, long, left)

pub meet_all-requires : goal.meet_all-requires
meet_all-requires c = (
  [],
  c.begin-pass.ensures.after,
  orderly-front _ c.split_at.result.0.now c.split_at.result.1.now c.split_at.ensures.by_index.0 c.requires,
)

pub meet_all-requires-then-has_stopped : goal.meet_all-requires-then-has_stopped
meet_all-requires-then-has_stopped c =
    let front = c.split_at.result.0.now in
    let parts = c.split_at.ensures.by_index.0 in (
      front,
      c.in_ok-meet_all.ensures.after [] c.begin-pass.ensures.after
          (orderly-front _ front c.split_at.result.1.now parts c.requires),
      subst IsOrderly parts c.requires,
    )

pub overflow_cast-frames : goal.overflow_cast-frames
overflow_cast-frames c = let few = length-orderly 0 c.args.frames.now (omega arith) c.requires in omega (arith, few)

pub returns-then-has_stopped-clause-found : goal.returns-then-has_stopped-clause-found
returns-then-has_stopped-clause-found c = λ client server started http2.
    let frames = c.args.frames.now in
    let front = c.split_at.result.0.now in
    let back = c.split_at.result.1.now in
    let parts = c.split_at.ensures.by_index.0 in
    let met = c.in_ok-meet_all.ensures.after [] c.begin-pass.ensures.after
    (orderly-front frames front back parts c.requires) in
    rw (c.in_ok-meet_all-2.ensures.same ∙ c.in_ok-meet_all.ensures.same ∙ c.begin-pass.ensures.shown) at
    (c.found_after.ensures client server frames started
    (record { http2 = http2; orderly = c.requires; counted = refl })
    (all-met frames front back _ parts
    (c.in_ok-meet_all-2.ensures.after front met (subst IsOrderly parts c.requires))))

pub meet_silent-requires : goal.meet_silent-requires
meet_silent-requires c =
    let front = c.split_at.result.0.now in
    let parts = c.split_at.ensures.by_index.0 in (
      front,
      c.in_ok-meet_all.ensures.after [] c.begin-pass.ensures.after
          (orderly-front _ front c.split_at.result.1.now parts c.requires),
      subst IsOrderly parts c.requires,
    )

pub overflow_cast-frames-2 : goal.overflow_cast-frames-2
overflow_cast-frames-2 c = let few = length-orderly 0 c.args.frames.now (omega arith) c.requires in omega (arith, few)

pub returns-clause-found : goal.returns-clause-found
returns-clause-found c = λ client server started http2.
    let frames = c.args.frames.now in
    let front = c.split_at.result.0.now in
    let back = c.split_at.result.1.now in
    let parts = c.split_at.ensures.by_index.0 in
    let met = c.in_ok-meet_all.ensures.after [] c.begin-pass.ensures.after
    (orderly-front frames front back parts c.requires) in
    let silent = when_true _ _ c.if-not-branch.false c.in_ok-meet_silent.ensures.after in
    rw (c.in_ok-meet_silent.ensures.same ∙ c.in_ok-meet_all.ensures.same ∙ c.begin-pass.ensures.shown) at
    (c.found_after-2.ensures client server frames started
    (record { http2 = http2; orderly = c.requires; counted = refl })
    (all-met frames front back _ parts (silent front met (subst IsOrderly parts c.requires))))

pub returns-then-not-branch-clause-none : goal.returns-then-not-branch-clause-none
returns-then-not-branch-clause-none c =
    let frames = c.args.frames.now in
    let front = c.split_at.result.0.now in
    let back = c.split_at.result.1.now in
    let parts = c.split_at.ensures.by_index.0 in
    let met = c.in_ok-meet_all.ensures.after [] c.begin-pass.ensures.after
    (orderly-front frames front back parts c.requires) in
    let among = when_false _ _ c.if-not-branch.true c.in_ok-meet_silent.ensures.found front met
    (subst IsOrderly parts c.requires) in
    let whole = parts ∙ ap (λ (l : List Frame). front ++ l) (sym (take-append-drop among.count back))
    ∙ sym (append_assoc front (take among.count back) (drop among.count back)) in (
      are-many c.args.most_frames c.front_length.result frames front back among.count parts
          c.split_at.ensures.front_len c.front_length.ensures.all among.left,
      rw (c.in_ok-meet_silent.ensures.same ∙ c.in_ok-meet_all.ensures.same ∙ c.begin-pass.ensures.shown) at
          (some-found c.streams_are_those_met.ensures.met c.streams_are_those_met.ensures.once among.after
          (drop among.count back) frames whole among.some),
    )
