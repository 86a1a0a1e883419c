use Rattle.std.proofs.Common.{◌≡◌, map, take}
use Rattle.audit_terms.specs.code.TimedFindings.{finding_in}
use Rattle.quiet_pass.proofs.plain_pass.untimed.Given as goal

-- those so far
abbrev pub invariant-loop-one : goal.invariant-loop-one
invariant-loop-one l = record {
  found : l.found.items ≡ map finding_in (take l.one-index l.timed);
}
