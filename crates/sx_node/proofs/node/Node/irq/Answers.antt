use Rattle.spec_machine.proofs.ActGuard.{irq_guarded}
use Rattle.spec_machine.proofs.RunGuard.{not_zero}
use Rattle.sx_node.proofs.node.Node.irq.Goals as goal

pub returns-in-Ok-clause-guarded : goal.returns-in-Ok-clause-guarded
returns-in-Ok-clause-guarded g c = λ s p l. irq_guarded s c.args.self.now c.args.line l (not_zero c.args.self.now.sections s p l)

pub returns-in-Err-clause-guarded : goal.returns-in-Err-clause-guarded
returns-in-Err-clause-guarded g c = λ s p l. irq_guarded s c.args.self.now c.args.line l (not_zero c.args.self.now.sections s p l)
