use Rattle.stream_credit.proofs.Words.{◌∙◌}
use Rattle.quiet_pass.proofs.found_visitor.FoundVisitorFrameVisitor.take.Goals as goal

pub meet-requires : goal.meet-requires
meet-requires g c = let (frames, visited, next) = c.requires in (frames, visited.found, next.orderly)

pub returns : goal.returns
returns g c = λ frames visited next. record {
  showing = c.in_ok-meet.ensures.same ∙ visited.showing;
  found = c.in_ok-meet.ensures.after frames visited.found next.orderly;
}
