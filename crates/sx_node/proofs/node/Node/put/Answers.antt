use Rattle.spec_machine.proofs.ActGuard.{put_guarded}
use Rattle.sx_node.proofs.node.Node.put.Goals as goal

pub returns-clause-guarded : goal.returns-clause-guarded
returns-clause-guarded g c = λ s l. put_guarded s c.args.self.now c.args.at c.args.bytes.now l
