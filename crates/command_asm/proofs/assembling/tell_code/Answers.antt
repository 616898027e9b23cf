use Rattle.std.proofs.Common.{arith}
use Rattle.command_asm.specs.Gathering.{gathered_bytes}
use Rattle.command_asm.proofs.Coded.{list_stands}
use Rattle.command_asm.proofs.assembling.tell_code.Goals as goal

pub list-requires-clause-even : goal.list-requires-clause-even
list-requires-clause-even g c =
    (list_stands c.args.at (gathered_bytes c.args.gathered.now) c.in-Ok.code.items c.deref.result.now (omega arith) c.in-Ok.ensures c.deref.ensures.value).even

pub list-requires-clause-fits : goal.list-requires-clause-fits
list-requires-clause-fits g c =
    (list_stands c.args.at (gathered_bytes c.args.gathered.now) c.in-Ok.code.items c.deref.result.now (omega arith) c.in-Ok.ensures c.deref.ensures.value).fits
