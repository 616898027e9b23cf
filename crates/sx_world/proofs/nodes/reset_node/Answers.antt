use Rattle.std.proofs.Common.{get_or}
use Rattle.spec_machine.specs.State.{State}
use Rattle.spec_machine.specs.State as state
use Rattle.sx_world.proofs.doing.NodeAt.{slot_is, set_as, stands_at}
use Rattle.sx_world.proofs.nodes.reset_node.Goals as goal

pub reset-requires : goal.reset-requires
reset-requires g c =
    c.requires.boot (get_or c.args.nodes.now c.from.result c.index-nodes-from.result) (stands_at c.args.nodes.now c.args.n c.from.result c.index-nodes-from.result c.requires.node c.from.ensures)

pub returns : goal.returns
returns g c = λ s e.
    set_as c.args.nodes.now c.args.n c.from.result (get_or c.args.nodes.now c.from.result c.index-nodes-from.result) s c.reset.new.self (λ (x : State). state.reset x) c.from.ensures
    (slot_is c.args.nodes.now c.args.n c.from.result s c.index-nodes-from.result e c.from.ensures) c.reset.ensures.state
