use Rattle.std.proofs.Common.{subst}
use Rattle.tcp_streams.proofs.Words.{◌∙◌, Some, ap, arith, sym}
use Rattle.tcp_streams.proofs.SideFlowLemmas.{free-between, kept-more, kept-same, ne-eq, so_far, so_far-last, step-held}
use Rattle.tcp_streams.proofs.SideFlowSteps.{held-more, kept-is}
use Rattle.tcp_streams.specs.code.SideFlow.{kept_at, with_interval}
use Rattle.tcp_streams.specs.declared.interval.Piece.{Piece}
use Rattle.tcp_streams.proofs.side_flow.SideFlow.keep.Goals as goal

pub loop-low-preserved-in-Some : goal.loop-low-preserved-in-Some
loop-low-preserved-in-Some g c = record {
  begins = omega (arith, c.in-Some.ensures.held.0, c.loop-low.invariant.begins);
  behind = omega (arith, c.in-Some.ensures.held.0, c.loop-low.invariant.behind);
  end = c.loop-low.invariant.end;
  kept = λ sources h. step-held sources c.args.x.now c.args.self.now.end c.loop-low.low c.in-Some.upto
      (kept_at c.loop-low.self.kept) (c.loop-low.invariant.kept sources h) c.in-Some.ensures.held.1;
  holds = c.loop-low.invariant.holds;
}

pub loop-low-preserved : goal.loop-low-preserved
loop-low-preserved g c =
    let updates = c.in_ok-insert-in-None.ensures.updates in
    let between = c.free_upto-high.ensures in
    let end = c.args.self.now.end in
    let low = c.loop-low.low in
    let old = c.loop-low.self.kept in
    let new = c.insert.new.self in
    let part = c.part-in-None.result in
    let piece : Piece g.row.K.Denot = record { interval = part; content = c.in_ok-content-in-None.content } in record {
      begins = omega (arith, between.after, c.loop-low.invariant.begins);
      behind = omega (arith, between.after, c.loop-low.invariant.behind);
      end = c.loop-low.invariant.end;
      kept = λ sources h.
          let now = c.loop-low.invariant.kept sources h in
          kept-more sources c.args.x.now (kept_at old) (kept_at new) end low c.free_upto-high.result now
          c.requires.interval c.loop-low.invariant.behind c.loop-low.invariant.begins between.after between.within
          (free-between (kept_at old) low c.free_upto-high.result
          (λ k y at-k le. c.in-None.ensures.free end (so_far sources c.args.x.now low) k y now at-k le) between.free)
          (kept-is new low (Some piece) updates.1 ∙ ap Some c.part-in-None.ensures.part)
          (λ q ne. kept-is new q _ (updates.2 q (ne-eq low q ne)));
      holds = λ of gives h.
          let holds = g.K.Content.holds of in
          held-more holds old new low (c.loop-low.invariant.holds of gives h)
          (λ q ne. updates.2 q (ne-eq low q ne)) piece updates.1
          (subst (λ x. holds x piece.content) (sym c.part-in-None.ensures.part)
          (c.in_ok-content-in-None.ensures of gives));
    }

pub returns-clause-kept : goal.returns-clause-kept
returns-clause-kept g c = λ sources h.
    kept-same c.args.self.now.end (so_far sources c.args.x.now c.loop-low.low) (with_interval sources c.args.x.now)
    (kept_at c.loop-low.self.kept) (so_far-last sources c.args.x.now c.loop-low.low c.loop-low-test.false)
    (c.loop-low.invariant.kept sources h)
