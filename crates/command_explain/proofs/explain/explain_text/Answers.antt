use Rattle.command_explain.proofs.Starting.{explain_behind}
use Rattle.command_explain.proofs.Wanted.{read_wants}
use Rattle.command_explain.proofs.explain.explain_text.Goals as goal

pub returns-clause-rest : goal.returns-clause-rest
returns-clause-rest g c =
    explain_behind {now = c.args.lines.now} c.args.text.now c.read_deployment.result c.read_deployment.ensures.read c.explain_read.ensures.explains
    c.explain_read.ensures.refused c.explain_read.ensures.unread

pub returns-clause-wanted : goal.returns-clause-wanted
returns-clause-wanted g c =
    read_wants {status = c.explain_read.result} c.args.text.now c.read_deployment.result c.read_deployment.ensures.read c.explain_read.ensures.wanted c.explain_read.ensures.unread
