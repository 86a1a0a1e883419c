use Rattle.std.proofs.Common.{[], arith, inl, refl}
use Rattle.h2_frames.proofs.connection.ConnectionCutter.new.Goals as goal

pub returns : goal.returns
returns g c = record {
  fed = record {
    rest = [];
    client_frames = [];
    client_tail = [];
    server_frames = [];
    server_tail = [];
    greeted = (omega arith, refl, refl);
    client_spells = (refl, inl (omega arith));
    server_spells = (refl, inl (omega arith));
    client_begun = c.new.ensures;
    server_begun = c.new-2.ensures;
    client_reached = refl;
    server_reached = refl;
    handed = record { visited = c.requires; count = refl; numbers = tt; orderly = tt };
  };
  in_order = λ i j d lt within. absurd (omega (arith, within));
  short = omega arith;
}
