use Rattle.std.proofs.Common.{get_or}
use Rattle.spec_machine.specs.State.{State}
use Rattle.spec_machine.specs.Acts as acts
use Rattle.sx_world.proofs.doing.NodeAt.{slot_is, set_as, shows_as, stands_at}
use Rattle.sx_world.proofs.nodes.sense_node.Goals as goal

pub sense-requires-clause-device : goal.sense-requires-clause-device
sense-requires-clause-device g c =
    c.requires.device (get_or c.args.nodes.now c.from.result c.index-nodes-from.result) (stands_at c.args.nodes.now c.args.n c.from.result c.index-nodes-from.result c.requires.node c.from.ensures)

pub sense-requires-clause-sensor : goal.sense-requires-clause-sensor
sense-requires-clause-sensor g c =
    c.requires.sensor (get_or c.args.nodes.now c.from.result c.index-nodes-from.result) (stands_at c.args.nodes.now c.args.n c.from.result c.index-nodes-from.result c.requires.node c.from.ensures)

pub returns-clause-nodes : goal.returns-clause-nodes
returns-clause-nodes g c = λ s e.
    set_as c.args.nodes.now c.args.n c.from.result (get_or c.args.nodes.now c.from.result c.index-nodes-from.result) s c.sense.new.self
    (λ (x : State). (acts.sense x c.args.k c.args.value).state) c.from.ensures
    (slot_is c.args.nodes.now c.args.n c.from.result s c.index-nodes-from.result e c.from.ensures) c.sense.ensures.state

pub returns-clause-answer : goal.returns-clause-answer
returns-clause-answer g c = λ s e.
    shows_as c.sense.result (get_or c.args.nodes.now c.from.result c.index-nodes-from.result) s (λ (x : State). (acts.sense x c.args.k c.args.value).shown)
    (slot_is c.args.nodes.now c.args.n c.from.result s c.index-nodes-from.result e c.from.ensures) c.sense.ensures.answer
