use Rattle.capture_parts.proofs.Terms.{Consumes-trans, List, length, rules, take, ℕ, ◌-◌}
use Rattle.capture_parts.proofs.Buffer.{read_behind}
use Rattle.capture_parts.proofs.splitting.read_header.Goals as goal

pub loop-filled-preserved : goal.loop-filled-preserved
loop-filled-preserved g c =
    let a : ℕ = c.loop-filled.filled in
    let old : List ℕ = c.loop-filled.header in
    let was = c.loop-filled.invariant in
    let read = c.in-Ok.ensures in
    record {
      within = search rules;
      bytes = rw (read_behind a (length old - a) c.in-Ok.count old c.read.new.buf was.within read.bound.0)
          (Consumes-trans (g.R.Read.remaining c.args.reader.now) (g.R.Read.remaining c.loop-filled.reader)
          (g.R.Read.remaining c.read.new.self) (take a old) (take c.in-Ok.count c.read.new.buf) was.bytes read.bytes.0);
    }
