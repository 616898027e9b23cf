use Rattle.std.proofs.Common.{get_or}
use Rattle.spec_machine.specs.State.{State}
use Rattle.spec_machine.specs.Acts as acts
use Rattle.sx_world.proofs.doing.NodeAt.{slot_is, set_as, shows_as}
use Rattle.sx_world.proofs.nodes.set_node.Goals as goal

pub returns-clause-nodes : goal.returns-clause-nodes
returns-clause-nodes g c = λ s e.
    set_as c.args.nodes.now c.args.n c.from.result (get_or c.args.nodes.now c.from.result c.index-nodes-from.result) s c.set.new.self
    (λ (x : State). (acts.set x c.args.reg c.args.value).state) c.from.ensures
    (slot_is c.args.nodes.now c.args.n c.from.result s c.index-nodes-from.result e c.from.ensures) c.set.ensures.state

pub returns-clause-answer : goal.returns-clause-answer
returns-clause-answer g c = λ s e.
    shows_as c.set.result (get_or c.args.nodes.now c.from.result c.index-nodes-from.result) s (λ (x : State). (acts.set x c.args.reg c.args.value).shown)
    (slot_is c.args.nodes.now c.args.n c.from.result s c.index-nodes-from.result e c.from.ensures) c.set.ensures.answer
