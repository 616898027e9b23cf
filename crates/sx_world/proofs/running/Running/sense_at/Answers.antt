use Rattle.std.proofs.Common.{◌≡◌, [], ◌∷◌, refl, sym, ap, ◌∙◌}
use Rattle.std.specs.Prelude.{slice_get}
use Rattle.std.proofs.lemmas.List.{with_items_is}
use Rattle.sx_trace.specs.declared.items.Item.TheVariants.{Sense}
use Rattle.spec_machine.specs.State.{State}
use Rattle.spec_machine.specs.Acts.{sense}
use Rattle.spec_machine.specs.Acting as acting
use Rattle.sx_world.specs.Held.{Running}
use Rattle.sx_world.proofs.doing.Doing.{done_did, as_kept, lent_set, lent_long, wanted_same}
use Rattle.spec_run.specs.Acts.{at_node, done_on}
use Rattle.sx_world.proofs.doing.Composed.{does_any}
use Rattle.sx_world.proofs.running.Running.sense_at.Goals as goal

pub sense_node-answer-requires-clause-device : goal.sense_node-answer-requires-clause-device
sense_node-answer-requires-clause-device g c =
    let same : c.deref_mut.result.now ≡ c.args.self.now.nodes = c.deref_mut.ensures.value ∙ ap (λ (k : Running). k.nodes) c.self.view_is in
    λ s e. c.requires.device s (ap (λ ns. slice_get ns c.args.n) (sym same) ∙ e)

pub sense_node-answer-requires-clause-sensor : goal.sense_node-answer-requires-clause-sensor
sense_node-answer-requires-clause-sensor g c =
    let same : c.deref_mut.result.now ≡ c.args.self.now.nodes = c.deref_mut.ensures.value ∙ ap (λ (k : Running). k.nodes) c.self.view_is in
    λ s e. c.requires.sensor s (ap (λ ns. slice_get ns c.args.n) (sym same) ∙ e)

pub returns : goal.returns
returns g c =
    let act : State → State = λ s. (sense s c.args.k c.args.value).state in
    let same : c.deref_mut.result.now ≡ c.args.self.now.nodes = c.deref_mut.ensures.value ∙ ap (λ (k : Running). k.nodes) c.self.view_is in
    λ any. does_any any c.add_answer.result c.args.self.now _ c.args.items.now.items c.add_answer.new.items.items
    (λ w. at_node w (λ s. done_on w c.args.n (Sense c.args.d c.args.value ∷ []) (sense s c.args.k c.args.value)) (slice_get w.nodes c.args.n))
    (done_did c.add_answer.result c.args.self.now _ c.args.items.now.items c.add_answer.new.items.items c.args.n
    (Sense c.args.d c.args.value ∷ []) (λ s. sense s c.args.k c.args.value) (acting.Sense c.args.k c.args.value) c.sense_node-answer.result c.requires.node
    (λ s e. as_kept c.args.self.now _ _ c.args.n (act s) c.self.view_is
    (with_items_is c.self.inside.nodes c.sense_node-answer.new.nodes
    (lent_long c.deref_mut.result.now c.args.self.now.nodes c.sense_node-answer.new.nodes c.args.n s act same e c.sense_node-answer.ensures.nodes
    ∙ c.deref_mut.ensures.len)
    ∙ lent_set c.deref_mut.result.now c.args.self.now.nodes c.sense_node-answer.new.nodes c.args.n s act same e c.sense_node-answer.ensures.nodes))
    (λ s e. c.sense_node-answer.ensures.answer s (ap (λ ns. slice_get ns c.args.n) same ∙ e))
    (λ mac s. refl)
    c.add_answer.ensures.ok)
    (wanted_same c.add_answer.result c.args.self.now c.args.items.now.items c.add_answer.new.items.items
    (λ w. at_node w (λ s. done_on w c.args.n (Sense c.args.d c.args.value ∷ []) (sense s c.args.k c.args.value)) (slice_get w.nodes c.args.n)) c.add_answer.ensures.err)
