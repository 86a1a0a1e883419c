use Rattle.h2audit.proofs.OneReport.{one_report_lem}
use Rattle.h2audit.proofs.laws.one_report.Goals as goal

pub returns : goal.returns
returns c = one_report_lem
