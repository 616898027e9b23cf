use Rattle.std.proofs.Common.{get_or, sym}
use Rattle.spec_machine.specs.State.{State}
use Rattle.spec_machine.specs.Acts as acts
use Rattle.sx_world.proofs.doing.NodeAt.{slot_is, set_as, shows_as, stands_at}
use Rattle.sx_world.proofs.stepping.irq_node.Goals as goal

pub irq-requires-clause-boots : goal.irq-requires-clause-boots
irq-requires-clause-boots g c =
    c.requires.boot (get_or c.args.nodes.now c.from.result c.index-nodes-from.result) (stands_at c.args.nodes.now c.args.n c.from.result c.index-nodes-from.result c.requires.node c.from.ensures)

pub returns-clause-nodes : goal.returns-clause-nodes
returns-clause-nodes g c = λ s e.
    set_as c.args.nodes.now c.args.n c.from.result (get_or c.args.nodes.now c.from.result c.index-nodes-from.result) s c.irq.new.self (λ (x : State). (acts.irq x c.args.line).state) c.from.ensures
    (slot_is c.args.nodes.now c.args.n c.from.result s c.index-nodes-from.result e c.from.ensures) c.irq.ensures.state

pub returns-clause-answer : goal.returns-clause-answer
returns-clause-answer g c = λ s e.
    sym (shows_as c.irq.result (get_or c.args.nodes.now c.from.result c.index-nodes-from.result) s (λ (x : State). (acts.irq x c.args.line).shown)
    (slot_is c.args.nodes.now c.args.n c.from.result s c.index-nodes-from.result e c.from.ensures) c.irq.ensures.answer)
