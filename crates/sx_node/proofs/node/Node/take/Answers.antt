use Rattle.std.proofs.Common.{length}
use Rattle.spec_machine.proofs.ActGuard.{take_guarded}
use Rattle.sx_node.proofs.node.Node.take.Goals as goal

pub returns-clause-guarded : goal.returns-clause-guarded
returns-clause-guarded g c = λ s l. take_guarded s c.args.self.now c.args.at (length c.args.into.now) l
