use Rattle.tcp_streams.proofs.Words.{Some, ◌∙◌, ap, if◌then◌else◌, is_pair, standing_of}
use Rattle.tcp_streams.proofs.standings.Standings.set.Goals as goal

pub returns : goal.returns
returns c = λ q.
    c.in_ok-insert.ensures.updates.0 q
    ∙ ap (λ m. if is_pair c.args.pair q then Some c.args.standing else standing_of m q) c.self.view_is
