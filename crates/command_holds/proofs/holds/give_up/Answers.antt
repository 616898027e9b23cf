use Rattle.command_holds.proofs.Endings.{gives_up}
use Rattle.command_holds.proofs.holds.give_up.Goals as goal

pub returns-in-Ok : goal.returns-in-Ok
returns-in-Ok g c = gives_up c.deref.result.now c.in-Ok.text.items c.in-Ok.ensures.0 c.deref.ensures.value c.in-Ok.ensures.1 c.finish.ensures.ends
