use Rattle.std.proofs.Common.{◌≡◌, true, subst}
use Rattle.sx_rules.specs.declared.access.Access.TheVariants.{Read, Write}
use Rattle.sx_rules.specs.Access.{Sections}
use Rattle.spec_machine.specs.Run.{may_range}
use Rattle.sx_executor.proofs.Homes.{known_range}
use Rattle.sx_executor.proofs.protection.Protection.has_data_range.Goals as goal

pub returns-clause-read : goal.returns-clause-read
returns-clause-read c = λ h.
    subst (λ (t : Sections). may_range t.live c.args.id Read c.args.at c.args.count ≡ true) c.self.view_is
    (known_range c.self.inside.home c.self.inside.table.live c.args.id c.args.at c.args.count c.has_data_range.result c.self.invariant.0 c.has_data_range.ensures h).0

pub returns-clause-write : goal.returns-clause-write
returns-clause-write c = λ h.
    subst (λ (t : Sections). may_range t.live c.args.id Write c.args.at c.args.count ≡ true) c.self.view_is
    (known_range c.self.inside.home c.self.inside.table.live c.args.id c.args.at c.args.count c.has_data_range.result c.self.invariant.0 c.has_data_range.ensures h).1
