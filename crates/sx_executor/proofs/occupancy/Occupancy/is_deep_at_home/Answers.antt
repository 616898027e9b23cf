use Rattle.sx_executor.proofs.Deep.{known, bare, ahead}
use Rattle.sx_executor.proofs.occupancy.Occupancy.is_deep_at_home.Goals as goal

pub returns-clause-held : goal.returns-clause-held
returns-clause-held c = λ h.
    (known c.self.inside.deep c.self.inside.protection c.self.inside.windows c.args.self.now c.args.id c.args.at c.has.result c.self.invariant.2 c.has.ensures c.self.view_is h).first.held

pub returns-clause-outside : goal.returns-clause-outside
returns-clause-outside c = λ h.
    (known c.self.inside.deep c.self.inside.protection c.self.inside.windows c.args.self.now c.args.id c.args.at c.has.result c.self.invariant.2 c.has.ensures c.self.view_is h).first.outside

pub returns-clause-order : goal.returns-clause-order
returns-clause-order c = λ h.
    (known c.self.inside.deep c.self.inside.protection c.self.inside.windows c.args.self.now c.args.id c.args.at c.has.result c.self.invariant.2 c.has.ensures c.self.view_is h).first.ordered

pub returns-clause-memory : goal.returns-clause-memory
returns-clause-memory c = λ h.
    bare c.args.self.now.sections.live c.args.self.now.devices c.args.id c.args.at
    (known c.self.inside.deep c.self.inside.protection c.self.inside.windows c.args.self.now c.args.id c.args.at c.has.result c.self.invariant.2 c.has.ensures c.self.view_is h)

pub returns-clause-ahead : goal.returns-clause-ahead
returns-clause-ahead c = λ h.
    ahead c.args.self.now.sections.live c.args.self.now.devices c.args.id c.args.at
    (known c.self.inside.deep c.self.inside.protection c.self.inside.windows c.args.self.now c.args.id c.args.at c.has.result c.self.invariant.2 c.has.ensures c.self.view_is h)
