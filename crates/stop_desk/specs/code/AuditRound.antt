-- The numbers of the rounds of an audit.
use Rattle.std.specs.Prelude.{ℕ}
use Rattle.stop_desk.specs.declared.audit_round.AuditRound.{AuditRound}
use Rattle.stop_desk.specs.declared.audit_round.AuditRound.TheVariants.{Flows, Streams, Sums, Blocks}

abbrev pub number_of : AuditRound → ℕ
number_of Flows = 0
number_of Streams = 1
number_of Sums = 2
number_of Blocks = 3
