use Rattle.std.proofs.Common.{ℕ, ◌+◌, subst, arith}
use Rattle.sx_rules.specs.Access.{Sections}
use Rattle.sx_executor.specs.Gaps.{IsApart}
use Rattle.sx_executor.proofs.Gaps.{known_deep}
use Rattle.sx_executor.proofs.protection.Protection.has_deep_gap.Goals as goal

pub returns-clause-first : goal.returns-clause-first
returns-clause-first c = λ h.
    subst (λ (k : ℕ). IsApart c.args.self.now.live k) (omega arith)
    (subst (λ (t : Sections). IsApart t.live (c.args.at + 0)) c.self.view_is
    (known_deep c.self.inside.gaps c.self.inside.table.live c.args.at c.has_deep.result c.self.invariant.1 c.has_deep.ensures.place h 0 (omega arith)))

pub returns-clause-second : goal.returns-clause-second
returns-clause-second c = λ h.
    subst (λ (t : Sections). IsApart t.live (c.args.at + 2)) c.self.view_is
    (known_deep c.self.inside.gaps c.self.inside.table.live c.args.at c.has_deep.result c.self.invariant.1 c.has_deep.ensures.place h 2 (omega arith))

pub returns-clause-third : goal.returns-clause-third
returns-clause-third c = λ h.
    subst (λ (t : Sections). IsApart t.live (c.args.at + 4)) c.self.view_is
    (known_deep c.self.inside.gaps c.self.inside.table.live c.args.at c.has_deep.result c.self.invariant.1 c.has_deep.ensures.place h 4 (omega arith))
