use Rattle.stream_credit.proofs.Words.{ℕ, subst}
use Rattle.quiet_pass.proofs.SaidLemmas.{promised-small}
use Rattle.quiet_pass.specs.code.AllStreams.{IsKeptNow}
use Rattle.quiet_pass.proofs.passes.QuietPass.keep_after.Goals as goal

pub put-requires-2 : goal.put-requires-2
put-requires-2 c = rw c.promised_by.ensures (promised-small c.args.frame.now c.requires)

pub returns : goal.returns
returns c =
    let rest = c.keep_connection.ensures.kept in record {
      rest = record {
        kept = rest.kept;
        client = rest.client;
        server = rest.server;
        pending = rest.pending;
        initial = rest.initial;
      };
      mid = c.put.new.self;
      one = rw (← c.keep_connection.ensures.streams) c.in_ok-put.ensures;
      other = subst (λ (n : ℕ). IsKeptNow n c.args.promised.now c.put.new.self c.put-2.new.self)
          c.promised_by.ensures c.in_ok-put-2.ensures;
    }
