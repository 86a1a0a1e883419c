use Rattle.tcp_streams.proofs.Words.{◌≡◌, ◌<◌, arith, append-nil, filter_map, length, member_piece, refl, take}
use Rattle.tcp_streams.proofs.Words.{take_all, true}
use Rattle.tcp_streams.proofs.SideFlowSteps.{intervals-length}
use Rattle.tcp_streams.specs.code.SideFlow.{intervals}
use Rattle.tcp_streams.proofs.{Lists.filter_map-more, Sides.assembled, Sides.next-inside, Sides.next-more}
use Rattle.tcp_streams.proofs.Sides.{next-same, piece-inside, split-at}
use Rattle.tcp_streams.proofs.assembly.flow_from.Goals.{in-Some+in_ok-take+else-not-is_empty, in_default}
use Rattle.tcp_streams.proofs.assembly.flow_from.Goals.{}
use Rattle.tcp_streams.proofs.assembly.flow_from.Goals.{in-Some+in_ok-take+then-not-is_empty+in_ok-push_run+in_ok-push}
use Rattle.tcp_streams.proofs.assembly.flow_from.Goals as goal

pub take-requires : goal.take-requires
take-requires c =
    (piece-inside c.args.capture.now c.args.of.now c.requires _ c.in-Some.piece c.in-Some.ensures).interval

pub push_run-requires : goal.push_run-requires
push_run-requires c =
    let k = c.loop-member.member-index in
    let members = c.args.of.now.connection.now.members.items in
    let next = filter_map-more (member_piece c.args.of.now) members k 0 c.piece_of_member.result
    (rw c.deref-member-items.ensures.value at c.loop-member-test.true)
    (rw c.deref-member-items.ensures.value at c.piece_of_member.ensures) in
    let split = split-at c.args.capture.now c.args.of.now c.requires k c.in-Some.piece (rw c.in-Some.is at next) in
    rw c.deref.ensures.value
    (next-inside c.args.capture.now c.args.of.now c.requires k c.in-Some.piece split c.loop-member.side c.take.new.self
    _ _ (intervals c.take.new.run.items) c.loop-member.invariant c.in_ok-take.ensures.stands
    c.in_ok-take.ensures.growth)

pub loop-member-preserved : goal.loop-member-preserved
loop-member-preserved c =
    let k = c.loop-member.member-index in
    let f = member_piece c.args.of.now in
    let members = c.args.of.now.connection.now.members.items in
    let next = filter_map-more f members k 0 c.piece_of_member.result
    (rw c.deref-member-items.ensures.value at c.loop-member-test.true)
    (rw c.deref-member-items.ensures.value at c.piece_of_member.ensures) in
    elim c.match-piece_of_member.branch [
      | in-Some+in_ok-take+then-not-is_empty+in_ok-push_run+in_ok-push w ↦
          let split = split-at c.args.capture.now c.args.of.now c.requires k w.in-Some.piece
          (rw w.in-Some.is at next) in
          let some : 0 < length (intervals w.take.new.run.items) =
          grind (
            arith,
            intervals-length w.take.new.run.items,
            w.is_empty.ensures,
            w.if-not-is_empty.true,
            w.if-not-is_empty.ensures,
          ) in
          rw (
            next,
            w.in-Some.is,
            w.side-is,
            w.pieces-is,
            w.arrivals-is,
            w.in_ok-push_run.ensures,
            w.in_ok-push.ensures.items,
            w.arrival_to.ensures,
            w.deref.ensures.value,
          )
          (next-more c.args.capture.now c.args.of.now c.requires k w.in-Some.piece split c.loop-member.side
          w.take.new.self _ _ (intervals w.take.new.run.items) c.loop-member.invariant w.in_ok-take.ensures.stands
          w.in_ok-take.ensures.growth some)
      | in-Some+in_ok-take+else-not-is_empty w ↦
          let split = split-at c.args.capture.now c.args.of.now c.requires k w.in-Some.piece
          (rw w.in-Some.is at next) in
          let none : length (intervals w.take.new.run.items) ≡ 0 =
          grind (
            arith,
            intervals-length w.take.new.run.items,
            w.is_empty.ensures,
            w.if-not-is_empty.false,
            w.if-not-is_empty.ensures,
          ) in
          rw (next, w.in-Some.is, w.side-is, w.pieces-is, w.arrivals-is)
          (next-same c.args.capture.now c.args.of.now c.requires k w.in-Some.piece split c.loop-member.side
          w.take.new.self _ _ (intervals w.take.new.run.items) c.loop-member.invariant w.in_ok-take.ensures.stands
          w.in_ok-take.ensures.growth none)
      | in_default w ↦
          rw (next, w.in_default.is, w.side-is, w.pieces-is, w.arrivals-is, append-nil (filter_map f (take k members)))
          c.loop-member.invariant
    ]

pub returns : goal.returns
returns c =
    let of = c.args.of.now in
    let laid = rw (take_all c.loop-member.member-index of.connection.now.members.items
    (rw c.deref-member-items.ensures.value at c.loop-member-test.false)) at c.loop-member.invariant in
    assembled c.args.capture.now of c.requires c.loop-member.side
    (record {
      started = true;
      pieces = c.loop-member.pieces;
      arrivals = c.loop-member.arrivals;
      gap = c.gap-gap.result;
    })
    laid (c.gap-gap.ensures _ laid.stage) refl
