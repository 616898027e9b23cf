use Rattle.std.proofs.Common.{get_or}
use Rattle.spec_machine.specs.State.{State}
use Rattle.spec_machine.specs.Acts as acts
use Rattle.sx_world.proofs.doing.NodeAt.{slot_is, set_as, shows_as}
use Rattle.sx_world.proofs.nodes.put_node.Goals as goal

pub returns-clause-nodes : goal.returns-clause-nodes
returns-clause-nodes g c = λ s e.
    set_as c.args.nodes.now c.args.n c.from.result (get_or c.args.nodes.now c.from.result c.index-nodes-from.result) s c.put.new.self
    (λ (x : State). (acts.put x c.args.at c.args.bytes.now).state) c.from.ensures
    (slot_is c.args.nodes.now c.args.n c.from.result s c.index-nodes-from.result e c.from.ensures) c.put.ensures.state

pub returns-clause-answer : goal.returns-clause-answer
returns-clause-answer g c = λ s e.
    shows_as c.put.result (get_or c.args.nodes.now c.from.result c.index-nodes-from.result) s (λ (x : State). (acts.put x c.args.at c.args.bytes.now).shown)
    (slot_is c.args.nodes.now c.args.n c.from.result s c.index-nodes-from.result e c.from.ensures) c.put.ensures.answer
