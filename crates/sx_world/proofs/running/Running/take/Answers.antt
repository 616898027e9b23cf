use Rattle.std.proofs.Common.{◌≡◌, ℕ, Vec, Global, Some, Result, Ok, Err, IfOk, IfErr, refl, sym, subst, ap, ◌∙◌}
use Rattle.std.specs.Prelude.{slice_get}
use Rattle.lemmas.proofs.Lists.{get_some}
use Rattle.spec_machine.specs.declared.kinds.Refused.{Refused}
use Rattle.spec_machine.specs.State.{State}
use Rattle.spec_machine.specs.Acts.{take}
use Rattle.spec_run.specs.Acts.{refused_item}
use Rattle.sx_world.specs.Held.{Running}
use Rattle.sx_world.proofs.passing.Stepped.{refused_ok}
use Rattle.sx_world.proofs.doing.KeptPackets.{took_does, took_refused}
use Rattle.spec_run.specs.Acts.{at_node, after_take}
use Rattle.sx_observe.proofs.Fronts.{front_same}
use Rattle.sx_world.proofs.doing.Doing.{wanted_same}
use Rattle.sx_world.proofs.doing.Composed.{does_any}
use Rattle.sx_world.proofs.granting.Given.{does_err}
use Rattle.sx_world.proofs.running.Running.take.Goals as goal

pub returns-in-Ok : goal.returns-in-Ok
returns-in-Ok g c =
    let found = get_some c.args.self.now.nodes c.args.n c.requires.node in
    let nodes : c.deref.result.now ≡ c.args.self.now.nodes = c.deref.ensures.value ∙ ap (λ (k : Running). k.nodes) c.self.view_is in
    let taken =
    subst (λ (r : Result (Vec ℕ Global) Refused). IfOk r (λ b. (s : State) → slice_get c.deref.result.now c.args.n ≡ Some s
    → (take s c.args.at c.args.len).shown ≡ Ok b.items)) c.in-Ok.is c.in_ok-bytes.ensures.bytes in
    let shown : (take found.0 c.args.at c.args.len).shown ≡ Ok c.deref-in-Ok.result.now = taken found.0
    (ap (λ ns. slice_get ns c.args.n) nodes ∙ found.1) ∙ ap (λ b. Ok b) (sym c.deref-in-Ok.ensures.value) in
    λ any. took_does any c.new_packet.result c.args.self.now c.new_packet.new.self c.args.items.now.items
    c.new_packet.new.items.items c.args.n c.args.at c.args.len c.deref-in-Ok.result.now found.0 found.1 shown (c.new_packet.ensures any)

pub returns-in-Err : goal.returns-in-Err
returns-in-Err g c =
    let found = get_some c.args.self.now.nodes c.args.n c.requires.node in
    let nodes : c.deref.result.now ≡ c.args.self.now.nodes = c.deref.ensures.value ∙ ap (λ (k : Running). k.nodes) c.self.view_is in
    let taken =
    subst (λ (r : Result (Vec ℕ Global) Refused). IfErr r (λ why. (s : State) → slice_get c.deref.result.now c.args.n ≡ Some s
    → (take s c.args.at c.args.len).shown ≡ Err why)) c.in-Err.is c.in_ok-bytes.ensures.refused in
    let shown : (take found.0 c.args.at c.args.len).shown ≡ Err c.in-Err.why = taken found.0 (ap (λ ns. slice_get ns c.args.n) nodes ∙ found.1) in
    λ any. does_any any c.push_item.result c.args.self.now c.args.self.now c.args.items.now.items c.push_item.new.items.items
    (λ w. at_node w (λ s. after_take w c.args.n (take s c.args.at c.args.len).shown) (slice_get w.nodes c.args.n))
    (took_refused c.push_item.result c.args.self.now c.args.items.now.items c.push_item.new.items.items c.args.n c.args.at c.args.len c.in-Err.why found.0 found.1 shown
    (refused_ok c.push_item.result c.args.items.now.items c.push_item.new.items.items c.refused_item.result (refused_item c.args.n c.in-Err.why) c.refused_item.ensures c.push_item.ensures.ok))
    (wanted_same c.push_item.result c.args.self.now c.args.items.now.items c.push_item.new.items.items
    (λ w. at_node w (λ s. after_take w c.args.n (take s c.args.at c.args.len).shown) (slice_get w.nodes c.args.n)) c.push_item.ensures.err)

pub returns-in_err-bytes : goal.returns-in_err-bytes
returns-in_err-bytes g c = λ any.
    does_err any c.from_residual.result c.args.self.now _ c.args.items.now.items c.args.items.now.items
    (λ w. at_node w (λ s. after_take w c.args.n (take s c.args.at c.args.len).shown) (slice_get w.nodes c.args.n)) c.from_residual.ensures.0
    (λ w h. front_same c.args.items.now.items c.args.items.now.items _ refl)
