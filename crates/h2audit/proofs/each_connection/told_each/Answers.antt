use Rattle.std.proofs.Common.{List, subst}
use Rattle.h2audit.specs.code.Flows.{AreMadeOf}
use Rattle.h2audit.specs.declared.listed_connections.HeldFlows.{HeldFlows}
use Rattle.h2audit.proofs.each_connection.told_each.Goals as goal

pub all_with_outcomes-requires : goal.all_with_outcomes-requires
all_with_outcomes-requires g c =
    let credits = c.args.division.now.frames_shown in (
      credits,
      subst (λ (held : List HeldFlows). AreMadeOf credits held c.in_ok-parts.parts.items) c.as_slice.ensures.value
          c.in_ok-parts.ensures,
    )

pub returns : goal.returns
returns g c =
    let credits = c.args.division.now.frames_shown in
    c.all_with_outcomes.ensures credits
    (subst (λ (held : List HeldFlows). AreMadeOf credits held c.in_ok-parts.parts.items) c.as_slice.ensures.value
    c.in_ok-parts.ensures)
