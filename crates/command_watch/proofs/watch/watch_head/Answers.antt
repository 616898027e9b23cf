use Rattle.command_watch.proofs.Heads.{watch_behind}
use Rattle.command_watch.proofs.watch.watch_head.Goals as goal

pub returns-clause-reads : goal.returns-clause-reads
returns-clause-reads g c =
    watch_behind {now = c.args.lines.now} c.args.text.now c.read_deployment.result c.read_deployment.ensures.read c.watch_read.ensures.accepted
    c.watch_read.ensures.refused c.watch_read.ensures.unread
