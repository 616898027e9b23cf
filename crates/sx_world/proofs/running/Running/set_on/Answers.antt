use Rattle.std.proofs.Common.{◌≡◌, [], refl, ap, ◌∙◌}
use Rattle.std.specs.Prelude.{slice_get}
use Rattle.std.proofs.lemmas.List.{with_items_is}
use Rattle.spec_machine.specs.State.{State}
use Rattle.spec_machine.specs.Acts.{set, busy}
use Rattle.spec_machine.specs.Acting as acting
use Rattle.sx_world.specs.Held.{Running}
use Rattle.sx_world.proofs.doing.Doing.{done_did, as_kept, lent_set, lent_long, boots_kept, wanted_same}
use Rattle.spec_run.proofs.acts.Bounds.{unless_boot}
use Rattle.spec_run.specs.Run.{set_on}
use Rattle.sx_world.proofs.doing.Composed.{does_any}
use Rattle.sx_world.proofs.running.Running.set_on.Goals as goal

pub returns-clause-does : goal.returns-clause-does
returns-clause-does g c =
    let act : State → State = λ s. (set s c.args.reg c.args.value).state in
    let same : c.deref_mut.result.now ≡ c.args.self.now.nodes = c.deref_mut.ensures.value ∙ ap (λ (k : Running). k.nodes) c.self.view_is in
    λ any. does_any any c.add_answer.result c.args.self.now _ c.args.items.now.items c.add_answer.new.items.items
    (set_on c.args.n c.args.reg c.args.value)
    (done_did c.add_answer.result c.args.self.now _ c.args.items.now.items c.add_answer.new.items.items c.args.n [] (λ s. set s c.args.reg c.args.value) (acting.Set c.args.reg c.args.value) c.set_node-answer.result c.requires.node
    (λ s e. as_kept c.args.self.now _ _ c.args.n (act s) c.self.view_is
    (with_items_is c.self.inside.nodes c.set_node-answer.new.nodes
    (lent_long c.deref_mut.result.now c.args.self.now.nodes c.set_node-answer.new.nodes c.args.n s act same e c.set_node-answer.ensures.nodes
    ∙ c.deref_mut.ensures.len)
    ∙ lent_set c.deref_mut.result.now c.args.self.now.nodes c.set_node-answer.new.nodes c.args.n s act same e c.set_node-answer.ensures.nodes))
    (λ s e. c.set_node-answer.ensures.answer s (ap (λ ns. slice_get ns c.args.n) same ∙ e))
    (λ mac s. refl)
    c.add_answer.ensures.ok)
    (wanted_same c.add_answer.result c.args.self.now c.args.items.now.items c.add_answer.new.items.items (set_on c.args.n c.args.reg c.args.value) c.add_answer.ensures.err)

pub returns-clause-boots : goal.returns-clause-boots
returns-clause-boots g c =
    let act : State → State = λ s. (set s c.args.reg c.args.value).state in
    let same : c.deref_mut.result.now ≡ c.args.self.now.nodes = c.deref_mut.ensures.value ∙ ap (λ (k : Running). k.nodes) c.self.view_is in
    boots_kept c.args.self.now.nodes _ c.args.n act c.requires.node
    (λ s e.
    with_items_is c.self.inside.nodes c.set_node-answer.new.nodes
    (lent_long c.deref_mut.result.now c.args.self.now.nodes c.set_node-answer.new.nodes c.args.n s act same e c.set_node-answer.ensures.nodes
    ∙ c.deref_mut.ensures.len)
    ∙ lent_set c.deref_mut.result.now c.args.self.now.nodes c.set_node-answer.new.nodes c.args.n s act same e c.set_node-answer.ensures.nodes)
    (λ s. unless_boot (busy s) s _ refl)
