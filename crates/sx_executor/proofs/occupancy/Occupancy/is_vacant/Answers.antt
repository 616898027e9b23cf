use Rattle.std.proofs.Common.{arith}
use Rattle.sx_executor.proofs.Vacant.{marked}
use Rattle.sx_executor.proofs.occupancy.Occupancy.is_vacant.Goals as goal

pub returns-clause-reached : goal.returns-clause-reached
returns-clause-reached c = λ h.
    (marked c.self.inside.vacant c.self.inside.protection c.self.inside.windows c.args.self.now c.args.at c.is_marked.result (omega arith)
    c.self.invariant.0 c.self.invariant.1 c.is_marked.ensures c.self.view_is h).apart.reached

pub returns-clause-outside : goal.returns-clause-outside
returns-clause-outside c = λ h.
    (marked c.self.inside.vacant c.self.inside.protection c.self.inside.windows c.args.self.now c.args.at c.is_marked.result (omega arith)
    c.self.invariant.0 c.self.invariant.1 c.is_marked.ensures c.self.view_is h).apart.outside

pub returns-clause-order : goal.returns-clause-order
returns-clause-order c = λ h.
    (marked c.self.inside.vacant c.self.inside.protection c.self.inside.windows c.args.self.now c.args.at c.is_marked.result (omega arith)
    c.self.invariant.0 c.self.invariant.1 c.is_marked.ensures c.self.view_is h).apart.ordered

pub returns-clause-none : goal.returns-clause-none
returns-clause-none c = λ h.
    (marked c.self.inside.vacant c.self.inside.protection c.self.inside.windows c.args.self.now c.args.at c.is_marked.result (omega arith)
    c.self.invariant.0 c.self.invariant.1 c.is_marked.ensures c.self.view_is h).apart.of_none

pub returns-clause-memory : goal.returns-clause-memory
returns-clause-memory c = λ h.
    (marked c.self.inside.vacant c.self.inside.protection c.self.inside.windows c.args.self.now c.args.at c.is_marked.result (omega arith)
    c.self.invariant.0 c.self.invariant.1 c.is_marked.ensures c.self.view_is h).bare

pub returns-clause-ahead : goal.returns-clause-ahead
returns-clause-ahead c = λ h.
    (marked c.self.inside.vacant c.self.inside.protection c.self.inside.windows c.args.self.now c.args.at c.is_marked.result (omega arith)
    c.self.invariant.0 c.self.invariant.1 c.is_marked.ensures c.self.view_is h).ahead
