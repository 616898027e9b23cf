use Rattle.sx_executor.proofs.Rights.{extends_readable}
use Rattle.sx_executor.proofs.executor.Executor.fetch_known.Goals as goal

pub read-requires-clause-right : goal.read-requires-clause-right
read-requires-clause-right g c =
    extends_readable c.args.self.now.sections.live c.args.self.now.own c.args.at c.requires.extended
