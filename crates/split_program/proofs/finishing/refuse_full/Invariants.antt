use Rattle.std.proofs.Common.{drop, map, ◌||◌, ◌≡◌}
use Rattle.capture_parts.specs.Finished.{has_full}
use Rattle.split_program.specs.Calls.{DidOnly}
use Rattle.split_program.specs.Program.{AreRefused}
use Rattle.split_program.specs.code.Finishing.{IsRefusal}
use Rattle.split_program.proofs.finishing.refuse_full.Given as goal

abbrev pub invariant-loop-index : goal.invariant-loop-index
invariant-loop-index g l = record {
  refused : (last : _)
      → AreRefused g.O.Outside.does l.outside (drop l.index l.paths)
      (map (λ part. part.full) (drop l.index l.parts)) last
      → AreRefused g.O.Outside.does l.initial.outside l.paths (map (λ part. part.full) l.parts) last;
  any : (l.any || has_full (map (λ part. part.full) (drop l.index l.parts)))
      ≡ has_full (map (λ part. part.full) l.parts);
  only : DidOnly g.O.Outside.does (IsRefusal l.paths) l.initial.outside l.outside;
}
