use Rattle.std.proofs.Common.{◌≡◌, [], ◌∷◌, sym, ap, ◌∙◌}
use Rattle.std.specs.Prelude.{slice_get}
use Rattle.std.proofs.lemmas.List.{with_items_is}
use Rattle.sx_trace.specs.declared.items.Item.TheVariants.{Reset}
use Rattle.sx_trace.specs.declared.items.Cause.TheVariants.{Asked}
use Rattle.spec_machine.specs.State.{reset}
use Rattle.sx_world.specs.Held.{Running}
use Rattle.sx_world.proofs.doing.Doing.{reset_did, as_kept, lent_set, lent_long, wanted_same}
use Rattle.spec_run.specs.Acts.{at_node, with_node}
use Rattle.sx_world.proofs.doing.Composed.{does_any}
use Rattle.sx_world.proofs.running.Running.reset.Goals as goal

pub reset_node-requires-clause-boot : goal.reset_node-requires-clause-boot
reset_node-requires-clause-boot g c =
    let same : c.deref_mut.result.now ≡ c.args.self.now.nodes = c.deref_mut.ensures.value ∙ ap (λ (k : Running). k.nodes) c.self.view_is in
    λ s e. c.requires.boot s (ap (λ ns. slice_get ns c.args.n) (sym same) ∙ e)

pub returns : goal.returns
returns g c =
    let same : c.deref_mut.result.now ≡ c.args.self.now.nodes = c.deref_mut.ensures.value ∙ ap (λ (k : Running). k.nodes) c.self.view_is in
    λ any. does_any any c.push_item.result c.args.self.now _ c.args.items.now.items c.push_item.new.items.items
    (λ w. at_node w (λ s. record { world = with_node w c.args.n (reset s) w.ledger w.steps; items = Reset c.args.n Asked ∷ [] }) (slice_get w.nodes c.args.n))
    (reset_did c.push_item.result c.args.self.now _ c.args.items.now.items c.push_item.new.items.items c.args.n (Reset c.args.n Asked ∷ []) c.requires.node
    (λ s e. as_kept c.args.self.now _ _ c.args.n (reset s) c.self.view_is
    (with_items_is c.self.inside.nodes c.reset_node.new.nodes
    (lent_long c.deref_mut.result.now c.args.self.now.nodes c.reset_node.new.nodes c.args.n s reset same e c.reset_node.ensures
    ∙ c.deref_mut.ensures.len)
    ∙ lent_set c.deref_mut.result.now c.args.self.now.nodes c.reset_node.new.nodes c.args.n s reset same e c.reset_node.ensures))
    c.push_item.ensures.ok)
    (wanted_same c.push_item.result c.args.self.now c.args.items.now.items c.push_item.new.items.items
    (λ w. at_node w (λ s. record { world = with_node w c.args.n (reset s) w.ledger w.steps; items = Reset c.args.n Asked ∷ [] }) (slice_get w.nodes c.args.n)) c.push_item.ensures.err)
