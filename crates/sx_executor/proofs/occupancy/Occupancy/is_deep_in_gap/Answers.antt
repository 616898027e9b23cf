use Rattle.sx_executor.proofs.Vacant.{in_gap}
use Rattle.sx_executor.proofs.occupancy.Occupancy.is_deep_in_gap.Goals as goal

pub returns-then-has_deep_gap-clause-outside : goal.returns-then-has_deep_gap-clause-outside
returns-then-has_deep_gap-clause-outside c = λ h.
    (in_gap c.self.inside.protection c.self.inside.windows c.args.self.now c.args.at c.self.view_is
    (c.has_deep_gap.ensures.ends c.if-has_deep_gap.true) (c.has_deep_gap.ensures.first c.if-has_deep_gap.true)
    (c.has_deep_gap.ensures.second c.if-has_deep_gap.true) (c.has_deep_gap.ensures.third c.if-has_deep_gap.true)
    (c.are_bare.ensures.first h) (c.are_bare.ensures.second h) (c.are_bare.ensures.third h)).apart.outside

pub returns-then-has_deep_gap-clause-order : goal.returns-then-has_deep_gap-clause-order
returns-then-has_deep_gap-clause-order c = λ h.
    (in_gap c.self.inside.protection c.self.inside.windows c.args.self.now c.args.at c.self.view_is
    (c.has_deep_gap.ensures.ends c.if-has_deep_gap.true) (c.has_deep_gap.ensures.first c.if-has_deep_gap.true)
    (c.has_deep_gap.ensures.second c.if-has_deep_gap.true) (c.has_deep_gap.ensures.third c.if-has_deep_gap.true)
    (c.are_bare.ensures.first h) (c.are_bare.ensures.second h) (c.are_bare.ensures.third h)).apart.ordered

pub returns-then-has_deep_gap-clause-none : goal.returns-then-has_deep_gap-clause-none
returns-then-has_deep_gap-clause-none c = λ h.
    (in_gap c.self.inside.protection c.self.inside.windows c.args.self.now c.args.at c.self.view_is
    (c.has_deep_gap.ensures.ends c.if-has_deep_gap.true) (c.has_deep_gap.ensures.first c.if-has_deep_gap.true)
    (c.has_deep_gap.ensures.second c.if-has_deep_gap.true) (c.has_deep_gap.ensures.third c.if-has_deep_gap.true)
    (c.are_bare.ensures.first h) (c.are_bare.ensures.second h) (c.are_bare.ensures.third h)).apart.of_none

pub returns-then-has_deep_gap-clause-ahead : goal.returns-then-has_deep_gap-clause-ahead
returns-then-has_deep_gap-clause-ahead c = λ h.
    (in_gap c.self.inside.protection c.self.inside.windows c.args.self.now c.args.at c.self.view_is
    (c.has_deep_gap.ensures.ends c.if-has_deep_gap.true) (c.has_deep_gap.ensures.first c.if-has_deep_gap.true)
    (c.has_deep_gap.ensures.second c.if-has_deep_gap.true) (c.has_deep_gap.ensures.third c.if-has_deep_gap.true)
    (c.are_bare.ensures.first h) (c.are_bare.ensures.second h) (c.are_bare.ensures.third h)).ahead
