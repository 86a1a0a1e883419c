use Rattle.std.proofs.Common.{◌++◌, ◌∙◌, ap, append-nil, arith, refl, sym}
use Rattle.audit_terms.specs.code.TimedFindings.{timed_by}
use Rattle.quiet_pass.proofs.FoundLemmas.{added-more, mapped-all}
use Rattle.quiet_pass.specs.declared.found_passes.FoundPass.{FoundPass}
use Rattle.quiet_pass.proofs.found_passes.FoundPass.add.Goals as goal

pub loop-one-init : goal.loop-one-init
loop-one-init c = record { found = sym (append-nil c.args.self.now.found.items); rest = refl }

pub loop-one-preserved : goal.loop-one-preserved
loop-one-preserved c = record {
  found = added-more (timed_by c.args.frame.now) c.args.said.now c.loop-one.one-index c.one-item.result _ _ _ _
      c.loop-one-test.true c.one-item.is c.loop-one.invariant.found c.of.ensures c.in_ok-push.ensures.items;
  rest = ap (λ (one : FoundPass). record one { found = c.push.new.self }) c.loop-one.invariant.rest;
}

pub returns : goal.returns
returns c =
    let at = c.loop-one in
    let rest = at.invariant.rest in record {
      added = record {
        found = at.invariant.found
            ∙ ap (λ l. c.args.self.now.found.items ++ l)
            (mapped-all (timed_by c.args.frame.now) c.args.said.now at.one-index
            (omega (arith, c.loop-one-test.false)));
        stopped = ap (λ (one : FoundPass). one.has_stopped) rest ∙ c.has_stop-self.ensures;
        same = ap (λ (one : FoundPass). one.frames_shown) rest;
      };
      pass = ap (λ (one : FoundPass). one.pass) rest;
    }
