use Rattle.std.proofs.Common.{Some}
use Rattle.sx_mean.specs.View.{app_as}
use Rattle.sx_observe.specs.InMemory.{setting_in}
use Rattle.spec_run.specs.Ledger.{header_of, body_of}
use Rattle.spec_run.specs.Observation.{event_seen, has_wrapped, has_unwrapped}
use Rattle.sx_observe.proofs.Fronts.{due_none, due_same, due_items, wrapped_seen, unwrapped_seen}
use Rattle.sx_observe.proofs.observation.add_own_event.Goals as goal

pub returns-in-Wrapped-clause-front : goal.returns-in-Wrapped-clause-front
returns-in-Wrapped-clause-front g c =
    let set = setting_in g.T.Tag.mac c.args.setting.now in
    let x = c.exchange.result.now in
    due_same c.add_wrapped.result c.args.ledger.now c.args.items.now.items c.add_wrapped.new.items.items
    (has_wrapped c.args.m c.boot.result (header_of x) (body_of x) x.own_key) (λ list. event_seen set c.args.n (Some c.args.m) c.args.node.now list c.args.event)
    (λ list. wrapped_seen set c.args.n c.args.m c.args.node.now c.args.event c.in-Wrapped.field-0 c.boot.result x list c.in-Wrapped.is c.boot.ensures c.exchange.ensures)
    c.add_wrapped.ensures.front

pub returns-in-Unwrapped-clause-front : goal.returns-in-Unwrapped-clause-front
returns-in-Unwrapped-clause-front g c =
    let set = setting_in g.T.Tag.mac c.args.setting.now in
    let x = c.exchange-in-Unwrapped.result.now in
    due_items c.add_unwrapped.result c.args.ledger.now c.args.items.now.items c.add_unwrapped.new.items.items
    (has_unwrapped (app_as c.args.setting.now.deployment.now.app) c.args.m c.boot-in-Unwrapped.result (header_of x) (body_of x))
    (λ list. event_seen set c.args.n (Some c.args.m) c.args.node.now list c.args.event)
    (λ list. unwrapped_seen set c.args.n c.args.m c.args.node.now c.args.event c.in-Unwrapped.field-0
    c.boot-in-Unwrapped.result x list c.in-Unwrapped.is c.boot-in-Unwrapped.ensures c.exchange-in-Unwrapped.ensures)
    c.add_unwrapped.ensures.front

pub returns-in-Left-clause-front : goal.returns-in-Left-clause-front
returns-in-Left-clause-front g c =
    let set = setting_in g.T.Tag.mac c.args.setting.now in
    due_none c.push_item.result c.args.ledger.now c.args.items.now.items c.push_item.new.items.items
    (λ list. event_seen set c.args.n (Some c.args.m) c.args.node.now list c.args.event) c.push_item.ensures.err
