use Rattle.std.proofs.Common.{subst}
use Rattle.packet_heads.specs.code.Handed.{packets_among}
use Rattle.tcp_streams.proofs.Opened.{segments-past, visited}
use Rattle.tcp_streams.proofs.Words.{List, Segment}
use Rattle.tcp_streams.specs.code.Table.{IsTableOf}
use Rattle.tcp_streams.proofs.connection_stage.ConnectionStage.into_parts.Goals as goal

pub returns-clause-opened : goal.returns-clause-opened
returns-clause-opened g c = λ capture handed is are.
    visited g.V.ConnectionVisitor.after capture handed c.args.self is are

pub returns-clause-strays : goal.returns-clause-strays
returns-clause-strays g c = λ handed is.
    c.into_strays.ensures (packets_among handed)
    (subst (λ (past : List Segment). IsTableOf past c.args.self.table) (segments-past handed) is.opened.table)
