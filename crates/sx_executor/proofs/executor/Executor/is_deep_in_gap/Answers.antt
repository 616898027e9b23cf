use Rattle.std.proofs.Common.{List, subst}
use Rattle.sx_rules.specs.Access.{Sections}
use Rattle.sx_bus.specs.declared.devices.Window.{Window}
use Rattle.sx_executor.specs.Occupancy.{IsAhead}
use Rattle.sx_executor.proofs.executor.Executor.is_deep_in_gap.Goals as goal

pub returns-clause-ahead : goal.returns-clause-ahead
returns-clause-ahead g c = λ h own.
    let seen = c.occupancy.result.now in
    subst (λ (t : Sections). IsAhead t.live c.args.self.now.devices own c.args.at) c.occupancy.ensures.sections
    (subst (λ (d : List Window). IsAhead seen.sections.live d own c.args.at) c.occupancy.ensures.devices (c.is_deep_in_gap.ensures.ahead h own))
