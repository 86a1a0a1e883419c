use Rattle.h2audit.proofs.MetAudits.{err-in-bytes, ok-in-bytes}
use Rattle.h2audit.proofs.auditing.audit.Goals as goal

pub returns-clause-report : goal.returns-clause-report
returns-clause-report g c =
    let capture = c.args.capture.now in
    ok-in-bytes capture c.args.options.now.frames_shown c.report_listed.result c.in_bytes.result
    (c.report_listed.ensures.report capture c.in_ok-ended.ensures.met) c.in_bytes.ensures.ok

pub returns-clause-refused : goal.returns-clause-refused
returns-clause-refused g c =
    let capture = c.args.capture.now in
    err-in-bytes capture c.args.options.now.frames_shown c.report_listed.result c.in_bytes.result
    (c.report_listed.ensures.report capture c.in_ok-ended.ensures.met)
    (c.report_listed.ensures.refused capture c.in_ok-ended.ensures.met) c.in_bytes.ensures.err
