use Rattle.std.proofs.Common.{arith, rules, subst, sym}
use Rattle.std.proofs.lemmas.Grind.{common_steps}
use Rattle.input_output.specs.Account.{kept}
use Rattle.input_output.specs.code.Reading.{HaveAnswered}
use Rattle.input_output.proofs.Kept.{answered_once}
use Rattle.input_output.proofs.capture_reader.CaptureReader.read_once.Goals as goal

pub returns : goal.returns
returns g c =
    let old = c.args.self.now in
    let read = c.read_once-read in
    let entered = c.enter_read in
    let answered = answered_once g.R.Read.remaining c.args.limit old c.enter_memory.new.self read.new.source
    read.new.self entered.new.self.state read.result entered.result c.and.result c.requires (search rules)
    (search rules) (search rules) (search rules) read.ensures.grown read.ensures.read read.ensures.failed
    entered.ensures.ok entered.ensures.state
    entered.ensures.err entered.ensures.failed c.and.ensures in
    subst (λ now. HaveAnswered g.R.Read.remaining c.args.limit old.source (kept old) now c.and.result)
    (sym entered.ensures.same) answered

pub returns-in_err-enter_memory : goal.returns-in_err-enter_memory
returns-in_err-enter_memory g c = grind (arith, common_steps)
