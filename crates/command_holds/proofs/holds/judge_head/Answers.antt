use Rattle.command_holds.proofs.Endings.{text_ends}
use Rattle.command_holds.proofs.holds.judge_head.Goals as goal

pub returns : goal.returns
returns g c = text_ends c.args.text.now c.read_deployment.result c.read_deployment.ensures.read c.judge_read.ensures.accepted c.judge_read.ensures.refused c.judge_read.ensures.unread
