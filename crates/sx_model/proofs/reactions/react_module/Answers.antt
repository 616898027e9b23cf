use Rattle.std.proofs.Common.{arith, ℕ, ◌≡◌, ◌<◌, OnOk, length, get_or, refl, set, subst, unwrap_or}
use Rattle.sx_check.specs.Source.{source_tree}
use Rattle.sx_model.specs.State.{Model}
use Rattle.sx_model.specs.Changes.{reacts_at}
use Rattle.sx_model.proofs.Reacting.{module_reacted_on}
use Rattle.sx_model.proofs.reactions.react_module.Goals as goal

pub returns-in-Some-clause-state : goal.returns-in-Some-clause-state
returns-in-Some-clause-state c =
    let tree = source_tree c.args.code.now in
    let before : Model = record {
      boots = c.state.inside.boots.items;
      devices = c.state.inside.devices.items;
      modules = c.state.inside.modules.items;
      epochs = c.state.inside.epochs.items;
      sent = c.state.inside.sent.items;
      asks = c.state.inside.asks;
    } in
    let after : Model = record before { modules = set c.state.inside.modules.items c.from.result c.react_standing.new.standing; sent = c.react_standing.new.sent.items } in
    let within : c.from.result < length c.state.inside.modules.items = let inside = c.in-Some.ensures.variant.0 refl in omega (arith, inside, c.state.inside.modules.ok) in
    let found : c.in-Some.standing.now ≡ get_or c.state.inside.modules.items c.from.result c.in-Some.standing.now = c.in-Some.ensures.value in
    subst (λ (s : Model). OnOk c.react_standing.result (after ≡ unwrap_or (reacts_at tree c.args.ends.now c.args.event c.args.taking s c.args.module) s)) c.state.view_is
    (subst (λ (m : ℕ). OnOk c.react_standing.result (after ≡ unwrap_or (reacts_at tree c.args.ends.now c.args.event c.args.taking before m) before)) c.from.ensures
    (module_reacted_on tree c.args.ends.now c.args.event c.args.taking before c.from.result c.in-Some.standing.now within found c.react_standing.result
    c.react_standing.new.standing c.react_standing.new.sent.items c.react_standing.ensures.standing c.react_standing.ensures.sent))
