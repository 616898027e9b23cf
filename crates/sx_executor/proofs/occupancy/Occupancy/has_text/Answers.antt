use Rattle.sx_executor.proofs.Deep.{known_text}
use Rattle.sx_executor.proofs.Readable.{bare}
use Rattle.sx_executor.proofs.occupancy.Occupancy.has_text.Goals as goal

pub returns-clause-read : goal.returns-clause-read
returns-clause-read c = λ h.
    (known_text c.self.inside.deep c.self.inside.protection c.self.inside.windows c.args.self.now c.args.at c.has_text.result c.self.invariant.2 c.has_text.ensures c.self.view_is h).readable

pub returns-clause-memory : goal.returns-clause-memory
returns-clause-memory c = λ h.
    bare c.args.self.now.sections.live c.args.self.now.devices c.args.at
    (known_text c.self.inside.deep c.self.inside.protection c.self.inside.windows c.args.self.now c.args.at c.has_text.result c.self.invariant.2 c.has_text.ensures c.self.view_is h)
