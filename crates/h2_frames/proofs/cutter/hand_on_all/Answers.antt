use Rattle.std.proofs.Common.{◌≡◌, ℕ, List, ◌+◌, ◌∙◌, ◌++◌, ◌∷◌, [], arith, length, length-append, ap}
use Rattle.h2_frames.proofs.Feeding.{fits-made, gone_more, room_left}
use Rattle.h2_frames.specs.declared.spelling.Spelled.{Spelled}
use Rattle.h2_frames.proofs.cutter.hand_on_all.Goals as goal

parts_length : (bytes start payload later : List ℕ) → bytes ≡ start ++ payload ++ later → length start ≡ 9
    → length bytes ≡ 9 + length payload + length later
parts_length bytes start payload later split nine =
    ap length split ∙ length-append (start ++ payload) later
    ∙ ap (λ n. n + length later) (length-append start payload) ∙ ap (λ n. n + length payload + length later) nine

pub hand_on-requires-clause-room : goal.hand_on-requires-clause-room
hand_on-requires-clause-room g c =
    let (start, split, makes) = c.in-Some.ensures.found in
    let (frames, is, few) = c.loop-header.invariant.room in
    let size = parts_length _ start _ _ split (makes _ c.body_of-body.ensures).nine in
    (frames, is, omega (arith, size, few))

pub loop-header-smaller : goal.loop-header-smaller
loop-header-smaller g c =
    let (start, split, makes) = c.in-Some.ensures.found in
    omega (arith, parts_length _ start _ _ split (makes _ c.body_of-body.ensures).nine)

pub hand_on-requires-clause-fits : goal.hand_on-requires-clause-fits
hand_on-requires-clause-fits g c =
    let (start, split, makes) = c.in-Some.ensures.found in
    let ranges = c.in-Some.ensures.ranges in
    let spelled : Spelled = record { header = c.in-Some.header; body = c.body_of-body.result } in
    fits-made spelled start c.in-Some.payload.now (makes _ c.body_of-body.ensures) ranges.0 ranges.1

pub loop-header-preserved : goal.loop-header-preserved
loop-header-preserved g c =
    let after = g.V.FrameVisitor.after in
    let (start, split, made) = c.in-Some.ensures.found in
    let makes = made _ c.body_of-body.ensures in
    let spelled : Spelled = record { header = c.in-Some.header; body = c.body_of-body.result } in
    let (frames, is, few) = c.loop-header.invariant.room in
    let rest = c.loop-header.rest.now in
    let payload = c.in-Some.payload.now in
    let later = c.in-Some.later.now in
    let size = parts_length rest start payload later split makes.nine in
    record {
      room = room_left after c.args.source frames (spelled ∷ []) (length rest) (length later)
          c.hand_on.new.self (c.in_ok-hand_on.ensures frames is) (omega (arith, size)) few;
      on = gone_more after c.args.source c.args.stage.now c.loop-header.stage c.hand_on.new.self c.args.bytes.now
          rest later start payload spelled c.loop-header.invariant.on split makes
          (λ others were. c.in_ok-hand_on.ensures others were);
    }
