use Rattle.std.proofs.Common.{◌≡◌, Some, [], refl, sym, ap, ◌∙◌}
use Rattle.std.specs.Prelude.{slice_get}
use Rattle.std.specs.Rc.{rc_slice_items}
use Rattle.std.proofs.lemmas.List.{with_items_is}
use Rattle.spec_machine.specs.State.{State}
use Rattle.spec_machine.specs.Acts.{put}
use Rattle.spec_machine.specs.Acting as acting
use Rattle.sx_world.specs.Held.{Running}
use Rattle.sx_world.proofs.doing.Doing.{done_did, as_kept, lent_set, lent_long, wanted_same}
use Rattle.sx_world.proofs.doing.KeptPackets.{packet_found, packet_none, give_did, give_none}
use Rattle.spec_run.specs.Run.{give}
use Rattle.sx_world.proofs.doing.Composed.{does_any}
use Rattle.sx_world.proofs.running.Running.give.Goals as goal

pub returns-in-Some : goal.returns-in-Some
returns-in-Some g c =
    let bytes = c.deref-in-Some.result.now in
    let act : State → State = λ s. (put s c.args.at bytes).state in
    let same : c.deref_mut.result.now ≡ c.args.self.now.nodes = c.deref_mut.ensures.value ∙ ap (λ (k : Running). k.nodes) c.self.view_is in
    let there : slice_get c.args.self.now.packets c.args.k ≡ Some bytes =
    packet_found rc_slice_items c.self.inside.packets.items c.deref.result.now c.args.self.now.packets c.args.k c.in-Some.bytes.now (ap (λ (k : Running). k.packets) c.self.view_is) c.deref.ensures.value
    c.in-Some.ensures.lookup.3.0 c.in-Some.ensures.lookup.1 ∙ ap (λ x. Some x) (sym c.deref-in-Some.ensures.value) in
    λ any. does_any any c.add_answer.result c.args.self.now _ c.args.items.now.items c.add_answer.new.items.items
    (λ w. give w c.args.n c.args.at (slice_get w.packets c.args.k))
    (give_did c.add_answer.result c.args.self.now _ c.args.items.now.items c.add_answer.new.items.items c.args.n c.args.at c.args.k bytes there
    (done_did c.add_answer.result c.args.self.now _ c.args.items.now.items c.add_answer.new.items.items c.args.n [] (λ s. put s c.args.at bytes) (acting.Put c.args.at bytes) c.put_node-answer.result c.requires
    (λ s e. as_kept c.args.self.now _ _ c.args.n (act s) c.self.view_is
    (with_items_is c.self.inside.nodes c.put_node-answer.new.nodes
    (lent_long c.deref_mut.result.now c.args.self.now.nodes c.put_node-answer.new.nodes c.args.n s act same e c.put_node-answer.ensures.nodes
    ∙ c.deref_mut.ensures.len)
    ∙ lent_set c.deref_mut.result.now c.args.self.now.nodes c.put_node-answer.new.nodes c.args.n s act same e c.put_node-answer.ensures.nodes))
    (λ s e. c.put_node-answer.ensures.answer s (ap (λ ns. slice_get ns c.args.n) same ∙ e))
    (λ mac s. refl)
    c.add_answer.ensures.ok))
    (wanted_same c.add_answer.result c.args.self.now c.args.items.now.items c.add_answer.new.items.items (λ w. give w c.args.n c.args.at (slice_get w.packets c.args.k)) c.add_answer.ensures.err)

pub returns-in-None : goal.returns-in-None
returns-in-None g c =
    λ any. does_any any c.push_item.result c.args.self.now c.args.self.now c.args.items.now.items c.push_item.new.items.items
    (λ w. give w c.args.n c.args.at (slice_get w.packets c.args.k))
    (give_none c.push_item.result c.args.self.now c.args.items.now.items c.push_item.new.items.items c.args.n c.args.at c.args.k
    (packet_none rc_slice_items c.self.inside.packets.items c.deref.result.now c.args.self.now.packets c.args.k (ap (λ (k : Running). k.packets) c.self.view_is) c.deref.ensures.value c.in-None.ensures.lookup.3)
    c.push_item.ensures.ok)
    (wanted_same c.push_item.result c.args.self.now c.args.items.now.items c.push_item.new.items.items (λ w. give w c.args.n c.args.at (slice_get w.packets c.args.k)) c.push_item.ensures.err)
