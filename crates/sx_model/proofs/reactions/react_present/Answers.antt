use Rattle.std.proofs.Common.{◌≡◌, Some, subst}
use Rattle.sx_check.specs.Source.{source_tree}
use Rattle.sx_model.specs.State.{Present}
use Rattle.sx_model.specs.Reaction.{after_event, flow_of}
use Rattle.sx_model.proofs.Flows.{reacted_sent, reacted_event}
use Rattle.sx_model.proofs.reactions.react_present.Goals as goal

pub returns-clause-sent : goal.returns-clause-sent
returns-clause-sent c =
    let tree = source_tree c.args.code.now in
    let before : Present = record { cells = c.present.inside.store.cells.items; ends = c.present.inside.ends.items; pending = c.present.inside.pending } in
    subst (λ (p : Present). c.run_handler.new.sent.items ≡ (flow_of tree c.args.ends.now c.args.event p c.args.sent.now.items).sent) c.present.view_is
    (reacted_sent tree c.args.ends.now c.args.event before c.deref.result.now c.deref-2.result.now c.args.sent.now.items c.run_handler.new.sent.items
    c.deref.ensures.value c.deref-2.ensures.value c.in_ok-made.ensures.sent)

pub returns-clause-present : goal.returns-clause-present
returns-clause-present c =
    let tree = source_tree c.args.code.now in
    let before : Present = record { cells = c.present.inside.store.cells.items; ends = c.present.inside.ends.items; pending = c.present.inside.pending } in
    let new : Present = record { cells = c.in_ok-made.made.cells.items; ends = c.present.inside.ends.items; pending = Some c.in_ok-made.made.owed } in
    subst (λ (p : Present). new ≡ after_event tree c.args.event (flow_of tree c.args.ends.now c.args.event p c.args.sent.now.items) p) c.present.view_is
    (reacted_event tree c.args.ends.now c.args.event before c.deref.result.now c.deref-2.result.now c.in_ok-made.made.cells.items c.in_ok-made.made.owed c.args.sent.now.items
    c.deref.ensures.value c.deref-2.ensures.value c.in_ok-made.ensures.cells c.in_ok-made.ensures.owed)
