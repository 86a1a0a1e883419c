use Rattle.std.proofs.Common.{rules}
use Rattle.tcp_streams.proofs.Words.{◌≡◌, ◌++◌, ◌∷◌, [], Client, Server, false, is_endpoint, sym, true, ◌∙◌}
use Rattle.std.proofs.Common.{subst}
use Rattle.tcp_streams.proofs.{Both.client-taken, Both.comes-next, Both.server-taken, Lists.both_ok}
use Rattle.tcp_streams.specs.{code.Grown.of_side, code.Side.AreOfRecord, code.Side.IsSideStage}
use Rattle.tcp_streams.specs.code.Taken.{ServerStands, sent_by}
use Rattle.tcp_streams.proofs.both_sides.BothSides.take.Goals as goal

pub take-requires-clause-next : goal.take-requires-clause-next
take-requires-clause-next g c =
    let (sent, last, h, next) = c.requires.next in
    let both = c.args.self.now in (
      sent_by both.client Client sent,
      h.grown,
      h.visited,
      subst (λ side. IsSideStage (sent_by both.client Client sent) (of_side side h.grown) both.client_side)
          (sym h.client_side) h.client_is,
      comes-next g.V.GrowthVisitor.after sent last both h c.args.segment.now c.args.payload.now next Client
          both.client_side h.client_side,
    )

pub returns-then-eq-clause-taken : goal.returns-then-eq-clause-taken
returns-then-eq-clause-taken g c =
    let after = g.V.GrowthVisitor.after in
    let both = c.args.self.now in
    let s = c.args.segment.now in
    let payload = c.args.payload.now in
    let is : is_endpoint s.from both.client ≡ true = search rules in
    both_ok c.take.result (λ taken side sent last h next.
    let (more, visited, are, stage) = taken (sent_by both.client Client sent) h.grown h.visited
    (subst (λ side. IsSideStage (sent_by both.client Client sent) (of_side side h.grown) both.client_side)
    (sym h.client_side) h.client_is)
    (comes-next after sent last both h s payload next Client both.client_side h.client_side) in
    client-taken after sent last both h s payload next c.take.new.visitor c.take.new.self more is visited
    (subst (λ side. AreOfRecord side s more) h.client_side are) side
    (subst (λ side. IsSideStage (sent_by both.client Client sent ++ (s, payload) ∷ []) (of_side side h.grown ++ more)
    c.take.new.self) h.client_side stage))
    c.take.ensures.taken c.take.ensures.side

pub take-requires-in-Some-clause-next : goal.take-requires-in-Some-clause-next
take-requires-in-Some-clause-next g c =
    let (sent, last, h, next) = c.requires.next in
    let both = c.args.self.now in
    let server = subst (λ stage. ServerStands (sent_by both.client Server sent) (of_side Server h.grown) stage)
    c.in-Some.is h.server_is in (
      sent_by both.client Server sent,
      h.grown,
      h.visited,
      subst (λ side. IsSideStage (sent_by both.client Server sent) (of_side side h.grown) c.in-Some.server)
          (sym server.1) server.0,
      comes-next g.V.GrowthVisitor.after sent last both h c.args.segment.now c.args.payload.now next Server
          c.in-Some.server server.1,
    )

pub returns-in-Some-clause-taken : goal.returns-in-Some-clause-taken
returns-in-Some-clause-taken g c =
    let after = g.V.GrowthVisitor.after in
    let both = c.args.self.now in
    let s = c.args.segment.now in
    let payload = c.args.payload.now in
    let is-not : is_endpoint s.from both.client ≡ false = search rules in
    both_ok c.take-in-Some.result (λ taken side sent last h next.
    let server = subst (λ stage. ServerStands (sent_by both.client Server sent) (of_side Server h.grown) stage)
    c.in-Some.is h.server_is in
    let (more, visited, are, stage) = taken (sent_by both.client Server sent) h.grown h.visited
    (subst (λ side. IsSideStage (sent_by both.client Server sent) (of_side side h.grown) c.in-Some.server)
    (sym server.1) server.0) (comes-next after sent last both h s payload next Server c.in-Some.server server.1) in
    server-taken after sent last both h s payload next c.take-in-Some.new.visitor c.in-Some.server
    c.take-in-Some.new.self more is-not visited (subst (λ side. AreOfRecord side s more) server.1 are)
    (side ∙ server.1)
    (subst (λ side. IsSideStage (sent_by both.client Server sent ++ (s, payload) ∷ []) (of_side side h.grown ++ more)
    c.take-in-Some.new.self) server.1 stage))
    c.take-in-Some.ensures.taken c.take-in-Some.ensures.side
