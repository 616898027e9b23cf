use Rattle.command_report.proofs.Heads.{report_read}
use Rattle.command_report.proofs.reporting.report_text.Goals as goal

pub returns : goal.returns
returns g c = report_read g.C.Reports.report c.args.text.now c.read_deployment.result c.read_deployment.ensures.read c.report_read.ensures.accepted c.report_read.ensures.refused
