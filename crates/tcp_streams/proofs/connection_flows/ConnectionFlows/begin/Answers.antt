use Rattle.tcp_streams.proofs.Words.{◌≡◌, ◌≤◌, All-nil, [], arith, payload_length, refl}
use Rattle.tcp_streams.specs.{code.Grown.Growth, code.Side.IsSent, code.Side.Sent}
use Rattle.tcp_streams.proofs.connection_flows.ConnectionFlows.begin.Goals as goal

pub returns : goal.returns
returns g c = record {
  taken = [];
  waiting = [];
  low = 0;
  split = refl;
  opened = record { client = refl; number = c.new.ensures.initial };
  are_taken = record {
    grown = [];
    visited = c.requires;
    client_side = c.new.ensures.side;
    client_is = c.new.ensures.stage;
    server_is = refl;
    sent_upto = All-nil (λ (one : Sent). one.0.rec ≤ 0);
    grown_upto = All-nil (λ (g : Growth). g.rec ≤ 0);
  };
  are_waiting = c.none.ensures;
  follow = record { each = All-nil (λ (one : Sent). IsSent one.0 one.1); rise = tt; short = omega arith };
  last_is = refl;
  waits = All-nil (λ (one : Sent). payload_length one.0 ≡ 0);
  number = refl;
}
