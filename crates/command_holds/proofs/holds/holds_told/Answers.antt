use Rattle.command_holds.proofs.Endings.{head_found, headless}
use Rattle.command_holds.proofs.holds.holds_told.Goals as goal

pub returns-in-Ok : goal.returns-in-Ok
returns-in-Ok g c = head_found c.in-Ok.text.items c.deref.result.now c.deref.ensures.value c.in-Ok.ensures c.judge_head.ensures

pub returns-in-Err : goal.returns-in-Err
returns-in-Err g c = headless c.read_head.new.lines c.in-Err.fault c.in-Err.ensures c.refuse_head.ensures
