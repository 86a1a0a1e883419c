use Rattle.capture_parts.proofs.Terms.{get_or, map, Part, ℕ, ◌<◌, ◌≡◌}
use Rattle.std.specs.Global.{Global}
use Rattle.std.specs.declared.io.buffered.BufWriter.{BufWriter}
use Rattle.capture_parts.specs.Finished.{IsFlushedOrFull}
use Rattle.capture_parts.proofs.finishing.flush_parts.Given as goal

abbrev pub invariant-loop-index : goal.invariant-loop-index
invariant-loop-index g l = record {
  flushed : (i : ℕ) (d : Part (BufWriter g.row.W.Denot Global)) → i < l.index → IsFlushedOrFull (get_or l.parts i d);
  full : map (λ part. part.full) l.parts ≡ map (λ part. part.full) l.initial.parts;
}
