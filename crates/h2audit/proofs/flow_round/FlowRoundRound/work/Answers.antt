use Rattle.std.proofs.Common.{ap, ◌∙◌, subst}
use Rattle.std.proofs.lemmas.List.Elements.{All-get_or}
use Rattle.std.proofs.lemmas.Option.{get_or_from_slice_get}
use Rattle.std.specs.List.{slice_get}
use Rattle.h2audit.specs.code.Flows.{FlowView, IsMadeOf}
use Rattle.h2audit.specs.code.Listed.{HasFlows}
use Rattle.h2audit.specs.declared.listed_connections.HeldFlows.{HeldFlows}
use Rattle.h2audit.proofs.Flows.{flow_jobs-at, job-within, nothing-cut}
use Rattle.h2audit.proofs.flow_round.FlowRoundRound.work.Goals as goal

pub bounds-self-inside-job : goal.bounds-self-inside-job
bounds-self-inside-job g c = job-within _ c.args.self.now c.args.job c.self.view_is c.requires

pub returns-clause-cut : goal.returns-clause-cut
returns-clause-cut g c = λ one is.
    rw (c.new.ensures.items, flow_jobs-at c.args.self.now.held c.args.job one is) nothing-cut

pub outcome_at_once-requires : goal.outcome_at_once-requires
outcome_at_once-requires g c =
    All-get_or HasFlows c.self.inside.held.now c.args.job
    c.index-self-job.result (job-within _ c.args.self.now c.args.job c.self.view_is c.requires)
    c.self.invariant.flows

pub returns-clause-made : goal.returns-clause-made
returns-clause-made g c = λ held is.
    let view = c.self.view_is in
    let there = ap (λ (v : FlowView). slice_get v.held c.args.job) view ∙ is in
    subst (λ (v : FlowView). IsMadeOf v.frames_shown held c.in_ok-made.made) view
    (subst (λ (one : HeldFlows). IsMadeOf c.self.inside.frames_shown one c.in_ok-made.made)
    (get_or_from_slice_get c.self.inside.held.now c.args.job held c.index-self-job.result there)
    c.in_ok-made.ensures)
