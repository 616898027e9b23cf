use Rattle.command_report.proofs.Promised.{report_promise}
use Rattle.command_report.proofs.reporting.report_over.Goals as goal

pub returns : goal.returns
returns g c = report_promise g.C.Reports.report c.report_told.ensures
