use Rattle.std.proofs.Common.{◌≡◌, ◌++◌, map, take}
use Rattle.audit_terms.specs.code.TimedFindings.{timed_by}
use Rattle.quiet_pass.proofs.found_passes.FoundPass.add.Given as goal

-- those so far were added
abbrev pub invariant-loop-one : goal.invariant-loop-one
invariant-loop-one l = record {
  found : l.self.found.items ≡ l.fn.self.found.items ++ map (timed_by l.frame) (take l.one-index l.said);
  rest : l.self ≡ record l.initial.self { found = l.self.found };
}
