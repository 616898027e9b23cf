use Rattle.sx_executor.proofs.Readable.{known, bare}
use Rattle.sx_executor.proofs.occupancy.Occupancy.has_readable.Goals as goal

pub returns-clause-read : goal.returns-clause-read
returns-clause-read c = λ h.
    (known c.self.inside.readable c.self.inside.protection c.self.inside.windows c.args.self.now c.args.at c.has.result c.self.invariant.3 c.has.ensures c.self.view_is h).readable

pub returns-clause-memory : goal.returns-clause-memory
returns-clause-memory c = λ h.
    bare c.args.self.now.sections.live c.args.self.now.devices c.args.at
    (known c.self.inside.readable c.self.inside.protection c.self.inside.windows c.args.self.now c.args.at c.has.result c.self.invariant.3 c.has.ensures c.self.view_is h)
