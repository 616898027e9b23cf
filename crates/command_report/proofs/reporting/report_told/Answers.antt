use Rattle.command_report.proofs.Heads.{report_found, report_headless}
use Rattle.command_report.proofs.reporting.report_told.Goals as goal

pub returns-in-Ok : goal.returns-in-Ok
returns-in-Ok g c = λ meaning is. report_found g.C.Reports.report meaning c.in-Ok.text.items c.deref.result.now c.deref.ensures.value c.in-Ok.ensures (c.report_text.ensures meaning is)

pub returns-in-Err : goal.returns-in-Err
returns-in-Err g c = λ meaning is. report_headless c.read_head.new.lines g.C.Reports.report meaning c.in-Err.fault c.in-Err.ensures c.refuse_head.ensures
