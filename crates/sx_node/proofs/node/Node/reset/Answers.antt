use Rattle.spec_machine.proofs.ActGuard.{reset_guarded}
use Rattle.sx_node.proofs.node.Node.reset.Goals as goal

pub returns-clause-guarded : goal.returns-clause-guarded
returns-clause-guarded g c = λ s. reset_guarded s c.args.self.now
