use Rattle.std.proofs.Common.{subst}
use Rattle.sx_rules.specs.Access.{Sections}
use Rattle.sx_executor.specs.Homes.{IsCode}
use Rattle.sx_executor.proofs.Homes.{known_code}
use Rattle.sx_executor.proofs.protection.Protection.has_code.Goals as goal

pub returns-clause-held : goal.returns-clause-held
returns-clause-held c = λ h.
    (subst (λ (t : Sections). IsCode t.live c.args.id c.args.at) c.self.view_is
    (known_code c.self.inside.home c.self.inside.table.live c.args.id c.args.at c.has_code.result c.self.invariant.0 c.has_code.ensures h)).held

pub returns-clause-outside : goal.returns-clause-outside
returns-clause-outside c = λ h.
    (subst (λ (t : Sections). IsCode t.live c.args.id c.args.at) c.self.view_is
    (known_code c.self.inside.home c.self.inside.table.live c.args.id c.args.at c.has_code.result c.self.invariant.0 c.has_code.ensures h)).outside

pub returns-clause-order : goal.returns-clause-order
returns-clause-order c = λ h.
    (subst (λ (t : Sections). IsCode t.live c.args.id c.args.at) c.self.view_is
    (known_code c.self.inside.home c.self.inside.table.live c.args.id c.args.at c.has_code.result c.self.invariant.0 c.has_code.ensures h)).ordered

pub returns-clause-extended : goal.returns-clause-extended
returns-clause-extended c = λ h.
    (subst (λ (t : Sections). IsCode t.live c.args.id c.args.at) c.self.view_is
    (known_code c.self.inside.home c.self.inside.table.live c.args.id c.args.at c.has_code.result c.self.invariant.0 c.has_code.ensures h)).extended
