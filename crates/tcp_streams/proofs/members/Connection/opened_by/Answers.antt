use Rattle.tcp_streams.proofs.Words.{Membership, [], ap, sym, ◌∙◌}
use Rattle.tcp_streams.proofs.Joins.{connection_with-push}
use Rattle.tcp_streams.specs.code.Table.{joined}
use Rattle.tcp_streams.proofs.members.Connection.opened_by.Goals as goal

pub returns : goal.returns
returns c =
    let s = c.args.opening.now in
    c.in_ok-join.ensures ∙ ap (λ (m : Membership). joined m s) c.in_ok-connection.ensures
    ∙ sym (connection_with-push s s [])
