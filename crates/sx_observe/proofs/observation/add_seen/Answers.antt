use Rattle.sx_mean.specs.View.{app_as}
use Rattle.sx_observe.specs.InMemory.{setting_in}
use Rattle.spec_run.specs.Observation.{event_seen, touch_items}
use Rattle.sx_observe.proofs.Fronts.{front_more, due_next}
use Rattle.sx_observe.proofs.observation.add_seen.Goals as goal
use Rattle.lemmas.proofs.Results.{on_any_err}

pub returns-in_err-add_touches-clause-front : goal.returns-in_err-add_touches-clause-front
returns-in_err-add_touches-clause-front g c =
    let set = setting_in g.T.Tag.mac c.args.setting.now in
    on_any_err c.from_residual.result (λ list h.
    front_more c.add_touches.new.items.items c.args.items.now.items (touch_items (app_as c.args.setting.now.deployment.now.app) c.args.n c.args.runner c.args.seen.now.touch)
    (event_seen set c.args.n c.args.runner c.args.node.now list c.args.seen.now.event).items c.in_err-add_touches.ensures.front)

pub returns-clause-front : goal.returns-clause-front
returns-clause-front g c =
    let set = setting_in g.T.Tag.mac c.args.setting.now in
    due_next c.add_event.result c.args.ledger.now c.args.items.now.items c.add_touches.new.items.items c.add_event.new.items.items
    (touch_items (app_as c.args.setting.now.deployment.now.app) c.args.n c.args.runner c.args.seen.now.touch)
    (λ list. event_seen set c.args.n c.args.runner c.args.node.now list c.args.seen.now.event) c.in_ok-add_touches.ensures.ok c.add_event.ensures.front
