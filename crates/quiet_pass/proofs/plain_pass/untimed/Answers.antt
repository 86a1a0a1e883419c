use Rattle.std.proofs.Common.{◌∙◌, arith}
use Rattle.quiet_pass.proofs.FoundLemmas.{mapped-all, mapped-more}
use Rattle.audit_terms.specs.code.TimedFindings.{finding_in}
use Rattle.quiet_pass.proofs.plain_pass.untimed.Goals as goal

pub loop-one-preserved : goal.loop-one-preserved
loop-one-preserved c =
    record {
      found = mapped-more finding_in c.args.timed.now c.loop-one.one-index c.one-item.result _ _ _
          c.loop-one-test.true c.one-item.is c.loop-one.invariant.found c.finding.ensures
          c.in_ok-push.ensures.items;
    }

pub returns : goal.returns
returns c =
    c.loop-one.invariant.found
    ∙ mapped-all finding_in c.args.timed.now c.loop-one.one-index (omega (arith, c.loop-one-test.false))
