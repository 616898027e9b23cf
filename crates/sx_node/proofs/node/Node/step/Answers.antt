use Rattle.spec_machine.proofs.StepGuard.{step_guarded}
use Rattle.sx_node.proofs.node.Node.step.Goals as goal

pub returns-in-Ok-clause-guarded : goal.returns-in-Ok-clause-guarded
returns-in-Ok-clause-guarded g c = λ s p l f. step_guarded g.T.Tag.mac s c.args.self.now p l f

pub returns-in-Err-clause-guarded : goal.returns-in-Err-clause-guarded
returns-in-Err-clause-guarded g c = λ s p l f. step_guarded g.T.Tag.mac s c.args.self.now p l f
