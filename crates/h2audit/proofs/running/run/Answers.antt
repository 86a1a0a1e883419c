use Rattle.input_output.specs.Account.{given}
use Rattle.h2audit.proofs.Leaving.{tells_answer}
use Rattle.h2audit.proofs.running.run.Goals as goal

pub returns-clause-tells : goal.returns-clause-tells
returns-clause-tells g c =
    let reader = c.read_and_let_go.new.reader in
    let met = c.in_ok-header.ensures.read in
    let report = c.report_listed_behind-answer.ensures in
    tells_answer reader c.args.writer.now c.write_answer.new.writer c.args.options.now.frames_shown
    c.report_listed_behind-answer.result c.write_answer.result met.ok c.requires.unwritten
    (report.report (given reader) met.header) (report.refused (given reader) met.header)
    c.write_answer.ensures.answered
