use Rattle.tcp_streams.proofs.Words.{◌≡◌, ◌<◌, All-nil, [], append-nil, source}
use Rattle.tcp_streams.specs.{code.Grown.Growth, code.Grown.of_side, code.Side.segments_among}
use Rattle.tcp_streams.proofs.{Lists.both_ok, Staging.of_side-each}
use Rattle.tcp_streams.proofs.StagingSteps.{next-of-it, of-record, stage-same, stage-taken}
use Rattle.tcp_streams.proofs.side_stage.SideStage.take.Goals as goal

pub take_piece-requires-clause-next : goal.take_piece-requires-clause-next
take_piece-requires-clause-next g c =
    let (sent, grown, after, stage, next) = c.requires.next in
    let old = c.args.self.now in (
      source old.initial_number (segments_among sent),
      grown,
      after,
      next-of-it sent c.args.segment.now c.args.payload.now old c.in-Some.x c.requires.sent c.in-Some.ensures old.side
          grown stage next,
    )

pub returns-in-Some-clause-taken : goal.returns-in-Some-clause-taken
returns-in-Some-clause-taken g c =
    let old = c.args.self.now in
    let new = c.take_piece.new.self in
    let s = c.args.segment.now in
    let payload = c.args.payload.now in
    let x = c.in-Some.x in
    both_ok c.take_piece.result (λ taken initial sent grown after stage next.
    let piece = next-of-it sent s payload old x c.requires.sent c.in-Some.ensures old.side grown stage next in
    let (more, visited, has) = taken (source old.initial_number (segments_among sent)) grown after piece in (
      more,
      visited,
      of-record sent s payload old x c.requires.sent c.in-Some.ensures old.side grown more new stage next has,
      stage-taken sent s payload old x c.requires.sent c.in-Some.ensures old.side grown more new stage next has initial,
    ))
    c.take_piece.ensures.taken c.take_piece.ensures.initial

pub returns-in-None-clause-taken : goal.returns-in-None-clause-taken
returns-in-None-clause-taken g c = λ sent grown after stage next. (
  [],
  rw append-nil after,
  All-nil (λ (g : Growth). (g.side ≡ c.args.self.now.side) × (g.rec ≡ c.args.segment.now.rec)
      × (g.nanos ≡ c.args.segment.now.nanos)),
  stage-same sent c.args.segment.now c.args.payload.now (of_side c.args.self.now.side grown) c.args.self.now
      c.args.self.now.side c.requires.sent next.sent_before
      (of_side-each c.args.self.now.side (λ (g : Growth). g.rec < c.args.segment.now.rec) grown next.grown_before)
      stage c.in-None.ensures,
)
