use Rattle.std.proofs.Common.{arith, refl}
use Rattle.std.proofs.lemmas.Grind.{common_steps}
use Rattle.input_output.proofs.Bytes.{has_read, is_grown, sizes}
use Rattle.input_output.proofs.kept_bytes.KeptBytes.read_once.Goals as goal

pub read_into-requires : goal.read_into-requires
read_into-requires g c = omega (arith, sizes c.self.inside c.args.self.now c.self.invariant c.self.view_is)

pub returns : goal.returns
returns g c =
    let read = c.in_ok-count.ensures.read in record {
      grown = is_grown c.self.inside c.read_into.new.bytes c.args.self.now c.self.invariant c.self.view_is
          c.read_into.ensures.length c.read_into.ensures.front c.in_ok-count.count _ refl read.count;
      read = has_read c.self.inside c.read_into.new.bytes c.args.self.now c.self.invariant c.self.view_is
          c.read_into.ensures.length c.read_into.ensures.front g.R.Read.remaining _ _ c.in_ok-count.count _ refl read;
      failed = tt;
    }

pub overflow_add-self : goal.overflow_add-self
overflow_add-self g c = grind (arith, common_steps)

pub returns-in_err-count-clause-grown : goal.returns-in_err-count-clause-grown
returns-in_err-count-clause-grown g c = grind (arith, common_steps)
