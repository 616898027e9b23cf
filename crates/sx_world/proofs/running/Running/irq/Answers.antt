use Rattle.std.proofs.Common.{◌≡◌, Some, sym, ap, ◌∙◌}
use Rattle.std.specs.Prelude.{slice_get}
use Rattle.std.proofs.lemmas.List.{with_items_is}
use Rattle.lemmas.proofs.Lists.{get_some}
use Rattle.spec_machine.specs.State.{State}
use Rattle.spec_machine.specs.Acts.{irq}
use Rattle.sx_deploy.specs.SeenDeployment.{deployed_as}
use Rattle.spec_run.specs.Acts.{refused_item}
use Rattle.sx_world.specs.Held.{Running}
use Rattle.sx_observe.specs.InMemory.{setting_in}
use Rattle.sx_world.proofs.doing.Doing.{lent_set, lent_long, as_kept, wanted_here}
use Rattle.sx_world.proofs.passing.Stepped.{node_behind, next_irq, irq_did, irq_wanted, irq_refused, as_interrupted, refused_ok}
use Rattle.sx_world.proofs.doing.Composed.{does_both}
use Rattle.sx_world.proofs.running.Running.irq.Goals as goal

pub irq_node-requires-clause-boot : goal.irq_node-requires-clause-boot
irq_node-requires-clause-boot g c =
    let same : c.deref_mut.result.now ≡ c.args.self.now.nodes = c.deref_mut.ensures.value ∙ ap (λ (k : Running). k.nodes) c.self.view_is in
    λ s e. c.requires.boot s (ap (λ ns. slice_get ns c.args.n) (sym same) ∙ e)

pub returns-in-Ok : goal.returns-in-Ok
returns-in-Ok g c =
    let set = setting_in g.T.Tag.mac c.args.setting.now in
    let found = get_some c.args.self.now.nodes c.args.n c.requires.node in
    let s = found.0 in
    let e : slice_get c.args.self.now.nodes c.args.n ≡ Some s = found.1 in
    let act : State → State = λ s. (irq s c.args.line).state in
    let same : c.deref_mut.result.now ≡ c.args.self.now.nodes = c.deref_mut.ensures.value ∙ ap (λ (k : Running). k.nodes) c.self.view_is in
    let left =
    with_items_is c.self.inside.nodes c.irq_node.new.nodes (lent_long c.deref_mut.result.now c.args.self.now.nodes
    c.irq_node.new.nodes c.args.n s act same e c.irq_node.ensures.nodes ∙ c.deref_mut.ensures.len)
    ∙ lent_set c.deref_mut.result.now c.args.self.now.nodes c.irq_node.new.nodes c.args.n s act same e c.irq_node.ensures.nodes in
    let answered = c.irq_node.ensures.answer s (ap (λ ns. slice_get ns c.args.n) same ∙ e) in
    let node = node_behind _ c.args.self.now.nodes c.args.n c.from.result s (act s) c.index-node.result.now left e c.from.ensures c.index-node.ensures in
    does_both set c.add_seen.result c.args.self.now _ c.args.items.now.items c.add_seen.new.items.items
    (next_irq set c.args.n c.args.line)
    (irq_did c.add_seen.result g.T.Tag.mac (deployed_as c.args.setting.now.deployment.now) c.args.setting.now.sites.now c.args.self.now
    _ c.args.items.now.items c.add_seen.new.items.items c.args.n c.args.line s c.index-node.result.now c.in-Ok.seen
    c.self.inside.ledger c.add_seen.new.ledger e node (answered ∙ c.in-Ok.is) (ap (λ (k : Running). k.ledger) c.self.view_is)
    (as_interrupted c.args.self.now _ _ c.add_seen.new.ledger c.args.n (act s) c.self.view_is left) c.add_seen.ensures.done)
    (irq_wanted c.add_seen.result g.T.Tag.mac (deployed_as c.args.setting.now.deployment.now) c.args.setting.now.sites.now
    c.args.self.now c.args.items.now.items c.add_seen.new.items.items c.args.n c.args.line s c.index-node.result.now c.in-Ok.seen
    c.self.inside.ledger e node (answered ∙ c.in-Ok.is) (ap (λ (k : Running). k.ledger) c.self.view_is) c.add_seen.ensures.front)

pub returns-in-Err : goal.returns-in-Err
returns-in-Err g c =
    let set = setting_in g.T.Tag.mac c.args.setting.now in
    let found = get_some c.args.self.now.nodes c.args.n c.requires.node in
    let s = found.0 in
    let e : slice_get c.args.self.now.nodes c.args.n ≡ Some s = found.1 in
    let act : State → State = λ s. (irq s c.args.line).state in
    let same : c.deref_mut.result.now ≡ c.args.self.now.nodes = c.deref_mut.ensures.value ∙ ap (λ (k : Running). k.nodes) c.self.view_is in
    let left =
    with_items_is c.self.inside.nodes c.irq_node.new.nodes (lent_long c.deref_mut.result.now c.args.self.now.nodes
    c.irq_node.new.nodes c.args.n s act same e c.irq_node.ensures.nodes ∙ c.deref_mut.ensures.len)
    ∙ lent_set c.deref_mut.result.now c.args.self.now.nodes c.irq_node.new.nodes c.args.n s act same e c.irq_node.ensures.nodes in
    let answered = c.irq_node.ensures.answer s (ap (λ ns. slice_get ns c.args.n) same ∙ e) in
    does_both set c.push_item.result c.args.self.now _ c.args.items.now.items c.push_item.new.items.items
    (next_irq set c.args.n c.args.line)
    (irq_refused c.push_item.result set c.args.self.now _ c.args.items.now.items c.push_item.new.items.items c.args.n c.args.line s c.in-Err.why e (answered ∙ c.in-Err.is)
    (as_kept c.args.self.now _ _ c.args.n (act s) c.self.view_is left)
    (refused_ok c.push_item.result c.args.items.now.items c.push_item.new.items.items c.refused_item.result
    (refused_item c.args.n c.in-Err.why) c.refused_item.ensures c.push_item.ensures.ok))
    (wanted_here c.push_item.result set c.args.self.now c.args.items.now.items c.push_item.new.items.items (next_irq set c.args.n c.args.line) c.push_item.ensures.err)
