use Rattle.std.{proofs.Common.subst, specs.Prelude.slice_range}
use Rattle.tcp_streams.proofs.Words.{◌-◌, ◌++◌, ◌∷◌, [], List, ℕ, Option, None, append-nil, append_assoc, arith}
use Rattle.tcp_streams.proofs.Words.{refl, sym}
use Rattle.tcp_streams.specs.code.Grown.{Growth, IsNextGrowth}
use Rattle.tcp_streams.specs.code.{Content.AreBytesIn, SideFlow.IsSideFlow}
use Rattle.tcp_streams.proofs.{Contents.part-bytes, Filling.comes-by, Rooms.longest-is}
use Rattle.tcp_streams.proofs.Filling.{Flow, IsGrowing, growing-first, growing-last, growing-more, growing-next}
use Rattle.tcp_streams.proofs.Filling.{growth_of}
use Rattle.tcp_streams.proofs.SideFlowSteps.{on-ok, on-ok-each}
use Rattle.tcp_streams.proofs.side_stage.SideStage.take_piece.Goals as goal

pub take-requires : goal.take-requires
take-requires g c =
    let x = c.args.x.now in
    let old = c.args.self.now.flow in
    let some = c.in-Some.ensures in
    let (sources, grown, after, next) = c.requires.next in (
      grown,
      after,
      comes-by sources c.args.self.now.side x c.in-Some.new old c.extend.new.self.end grown _ next
          (longest-is _ _ (some.stands sources next.stands).run) (some.growth sources next.stands) (refl, refl, refl)
          (rw some.part (part-bytes None x c.args.payload.now old.end x.upto some.inside.0 some.inside.1
          (omega arith) c.requires.given c.requires.given)),
    )

pub returns-in-Some-clause-taken : goal.returns-in-Some-clause-taken
returns-in-Some-clause-taken g c =
    let x = c.args.x.now in
    let payload = c.args.payload.now in
    let some = c.in-Some.ensures in
    let after = g.V.GrowthVisitor.after in
    let old = c.args.self.now.flow in
    let side = c.args.self.now.side in
    let grows : Growth = record {
      side = side;
      bytes = slice_range payload (c.in-Some.new.from - x.from) (x.upto - x.from);
      rec = x.rec;
      nanos = x.nanos;
    } in
    let bytes : (of : Option (List ℕ)) → AreBytesIn of x payload → AreBytesIn of c.in-Some.new grows.bytes =
    (λ of gives. rw some.part (part-bytes of x payload old.end x.upto some.inside.0 some.inside.1 (omega arith)
    c.requires.given gives)) in
    on-ok c.take.result (on-ok-each (λ grown. after grown c.args.visitor.now × IsNextGrowth grown grows)
    (λ grown. after (grown ++ grows ∷ []) c.take.new.self) c.take.result
    (λ grown both. c.take.ensures grown both.0 both.1)) (λ taken sources grown visited next.
    let growth = some.growth sources next.stands in
    let stands = some.stands sources next.stands in (
      grows ∷ [],
      taken grown (
        visited,
        comes-by sources side x c.in-Some.new old c.extend.new.self.end grown grows next
            (longest-is _ _ stands.run) growth (refl, refl, refl) (bytes None c.requires.given),
      ),
      record {
        run = c.in-Some.new ∷ [];
        stands = stands;
        growth = growth;
        are = λ of gives holds. ((refl, refl, refl, bytes of gives), tt);
        holds = λ of gives holds. rw c.extend.ensures.kept holds;
      },
    ))

pub loop-piece-init : goal.loop-piece-init
loop-piece-init g c = record {
  grows = λ sources grown visited next.
      let same = c.in_default.ensures.none in
      let kept = c.in_ok-keep.ensures in
      let stands = subst (λ (flow : Flow). IsSideFlow sources flow) (sym same) next.stands in (
        [],
        rw append-nil visited,
        subst (λ (flow : Flow). IsGrowing sources c.args.self.now.side c.args.x.now c.args.payload.now flow
            c.keep.new.self []) same
            (growing-first sources c.args.self.now.side c.args.x.now c.args.payload.now c.extend.new.self
            c.keep.new.self kept.end (kept.kept sources stands) kept.holds),
      );
  side = refl;
  initial = refl;
}

pub take-requires-in-Some-next : goal.take-requires-in-Some-next
take-requires-in-Some-next g c =
    let old = c.args.self.now in
    let x = c.args.x.now in
    let payload = c.args.payload.now in
    let (sources, grown, after, next) = c.requires.next in
    let (more, visited, h) = c.loop-piece.invariant.grows sources grown after next in (
      grown ++ more,
      visited,
      rw (c.deref.ensures.value, c.loop-piece.invariant.side)
          (growing-next sources old.side x payload old.flow c.loop-piece.self.flow c.next.new.self more
          c.in-Some-next.piece c.in-Some-next.ensures.growth c.in-Some-next.ensures.holds h grown
          c.requires.given next),
    )

pub loop-piece-preserved : goal.loop-piece-preserved
loop-piece-preserved g c = record {
  grows = λ sources grown visited next.
      let old = c.args.self.now in
      let x = c.args.x.now in
      let payload = c.args.payload.now in
      let (more, visited, h) = c.loop-piece.invariant.grows sources grown visited next in
      let one = growth_of old.side x c.in-Some-next.piece in
      let comes = growing-next sources old.side x payload old.flow c.loop-piece.self.flow c.next.new.self more
      c.in-Some-next.piece c.in-Some-next.ensures.growth c.in-Some-next.ensures.holds h grown c.requires.given next in
      let taken = c.in_ok-take.ensures (grown ++ more) visited
      (rw (c.deref.ensures.value, c.loop-piece.invariant.side) comes) in (
        more ++ one ∷ [],
        rw (sym (append_assoc grown more (one ∷ [])))
            (rw (c.deref.ensures.value, c.loop-piece.invariant.side) at taken),
        growing-more sources old.side x payload old.flow c.loop-piece.self.flow c.next.new.self more
            c.in-Some-next.piece c.in-Some-next.ensures.growth c.in-Some-next.ensures.holds h,
      );
  side = c.loop-piece.invariant.side;
  initial = c.loop-piece.invariant.initial;
}

pub returns-clause-taken : goal.returns-clause-taken
returns-clause-taken g c = λ sources grown visited next.
    let old = c.args.self.now in
    let none = c.in_default-next.ensures in
    let (more, visited, h) = c.loop-piece.invariant.grows sources grown visited next in (
      more,
      visited,
      growing-last sources old.side c.args.x.now c.args.payload.now old.flow c.loop-piece.self.flow c.next.new.self
          more next.stands none.end none.stands none.still h,
    )
