use Rattle.capture_parts.proofs.Terms.{FullPart, Option, Part, arith, length, cases_eq, get_or-set_other}
use Rattle.capture_parts.proofs.Terms.{get_or-set_same, inl, inr, map-set_same, ℕ, ◌<◌, ◌∙◌}
use Rattle.std.specs.Global.{Global}
use Rattle.std.specs.declared.io.buffered.BufWriter.{BufWriter}
use Rattle.capture_parts.proofs.finishing.flush_parts.Goals as goal

pub returns-in_err-flush_part-clause-full : goal.returns-in_err-flush_part-clause-full
returns-in_err-flush_part-clause-full g c =
    let full : Part (BufWriter g.row.W.Denot Global) → Option FullPart = λ part. part.full in
    map-set_same full c.loop-index.parts c.loop-index.index c.flush_part.new.part c.index-parts-index.result
    c.flush_part.ensures.full ∙ c.loop-index.invariant.full

pub loop-index-preserved : goal.loop-index-preserved
loop-index-preserved g c =
    let full : Part (BufWriter g.row.W.Denot Global) → Option FullPart = λ part. part.full in
    let at : ℕ = c.loop-index.index in
    let within : at < length c.loop-index.parts = omega (arith, c.loop-index-test.true, c.loop-index.auto.parts) in
    record {
      flushed = λ i d small. elim (cases_eq i at) [
        | inl same ↦ rw (same, get_or-set_same c.loop-index.parts at c.flush_part.new.part d within)
            c.in_ok-flush_part.ensures.flushed
        | inr other ↦ rw (get_or-set_other c.loop-index.parts at i c.flush_part.new.part d other)
            (c.loop-index.invariant.flushed i d (omega (arith, small, other)))
      ];
      full = map-set_same full c.loop-index.parts at c.flush_part.new.part c.index-parts-index.result
          c.flush_part.ensures.full ∙ c.loop-index.invariant.full;
    }
