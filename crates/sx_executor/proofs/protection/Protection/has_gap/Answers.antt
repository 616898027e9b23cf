use Rattle.std.proofs.Common.{subst}
use Rattle.sx_rules.specs.Access.{Sections}
use Rattle.sx_executor.specs.Gaps.{IsApart}
use Rattle.sx_executor.proofs.Gaps.{known}
use Rattle.sx_executor.proofs.protection.Protection.has_gap.Goals as goal

pub returns-clause-reached : goal.returns-clause-reached
returns-clause-reached c = λ h.
    (subst (λ (t : Sections). IsApart t.live c.args.at) c.self.view_is
    (known c.self.inside.gaps c.self.inside.table.live c.args.at c.has.result c.self.invariant.1 c.has.ensures h)).reached

pub returns-clause-outside : goal.returns-clause-outside
returns-clause-outside c = λ h.
    (subst (λ (t : Sections). IsApart t.live c.args.at) c.self.view_is
    (known c.self.inside.gaps c.self.inside.table.live c.args.at c.has.result c.self.invariant.1 c.has.ensures h)).outside

pub returns-clause-order : goal.returns-clause-order
returns-clause-order c = λ h.
    (subst (λ (t : Sections). IsApart t.live c.args.at) c.self.view_is
    (known c.self.inside.gaps c.self.inside.table.live c.args.at c.has.result c.self.invariant.1 c.has.ensures h)).ordered

pub returns-clause-extended : goal.returns-clause-extended
returns-clause-extended c = λ h.
    (subst (λ (t : Sections). IsApart t.live c.args.at) c.self.view_is
    (known c.self.inside.gaps c.self.inside.table.live c.args.at c.has.result c.self.invariant.1 c.has.ensures h)).extended

pub returns-clause-none : goal.returns-clause-none
returns-clause-none c = λ h.
    (subst (λ (t : Sections). IsApart t.live c.args.at) c.self.view_is
    (known c.self.inside.gaps c.self.inside.table.live c.args.at c.has.result c.self.invariant.1 c.has.ensures h)).of_none
