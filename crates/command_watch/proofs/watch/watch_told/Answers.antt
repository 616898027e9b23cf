use Rattle.command_watch.proofs.Heads.{told_head, told_headless}
use Rattle.command_watch.proofs.watch.watch_told.Goals as goal

pub returns-in-Ok-clause-told : goal.returns-in-Ok-clause-told
returns-in-Ok-clause-told g c = λ means is. told_head means c.in-Ok.text.items c.deref.result.now c.deref.ensures.value c.in-Ok.ensures (c.watch_head.ensures.reads means is)

pub returns-in-Err-clause-told : goal.returns-in-Err-clause-told
returns-in-Err-clause-told g c = λ means is. told_headless c.read_head.new.lines means c.in-Err.fault c.in-Err.ensures c.refuse_head.ensures
