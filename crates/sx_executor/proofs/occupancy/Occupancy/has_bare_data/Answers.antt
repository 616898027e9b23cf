use Rattle.sx_executor.proofs.Deep.{known_data, bare_data}
use Rattle.sx_executor.proofs.occupancy.Occupancy.has_bare_data.Goals as goal

pub returns-clause-read : goal.returns-clause-read
returns-clause-read c = λ h.
    (known_data c.self.inside.deep c.self.inside.protection c.self.inside.windows c.args.self.now c.args.id c.args.at c.has_data.result c.self.invariant.2 c.has_data.ensures c.self.view_is h).own.readable

pub returns-clause-write : goal.returns-clause-write
returns-clause-write c = λ h.
    (known_data c.self.inside.deep c.self.inside.protection c.self.inside.windows c.args.self.now c.args.id c.args.at c.has_data.result c.self.invariant.2 c.has_data.ensures c.self.view_is h).own.writable

pub returns-clause-memory : goal.returns-clause-memory
returns-clause-memory c = λ h.
    bare_data c.args.self.now.sections.live c.args.self.now.devices c.args.id c.args.at
    (known_data c.self.inside.deep c.self.inside.protection c.self.inside.windows c.args.self.now c.args.id c.args.at c.has_data.result c.self.invariant.2 c.has_data.ensures c.self.view_is h)
