use Rattle.sx_drive.proofs.Callees.{callee_there, none_there, lent_there, lent_none}
use Rattle.sx_drive.proofs.callee.callee_at.Goals as goal

pub returns-in-Some-clause-there : goal.returns-in-Some-clause-there
returns-in-Some-clause-there c =
    callee_there c.args.deployment.now c.args.m c.in-Some.part.now c.requires.sound (lent_there c.args.deployment.now.app.parts.items c.deref.result.now
    c.from.result c.args.m c.in-Some.part.now c.deref.ensures.value c.from.ensures c.in-Some.ensures.lookup.3.0 c.in-Some.ensures.lookup.1)

pub returns-in-None-clause-found : goal.returns-in-None-clause-found
returns-in-None-clause-found c =
    none_there c.args.deployment.now c.args.m (lent_none c.args.deployment.now.app.parts.items c.deref.result.now c.from.result c.args.m c.deref.ensures.value
    c.from.ensures c.in-None.ensures.lookup.3)
