use Rattle.std.proofs.Common.{Some, sym, ap}
use Rattle.sx_observe.specs.InMemory.{setting_in}
use Rattle.spec_run.specs.Observation.{event_seen}
use Rattle.sx_observe.proofs.Fronts.{due_none, due_same}
use Rattle.sx_observe.proofs.observation.add_event.Goals as goal

pub returns-in-Some-clause-front : goal.returns-in-Some-clause-front
returns-in-Some-clause-front g c =
    let set = setting_in g.T.Tag.mac c.args.setting.now in
    due_same c.add_own_event.result c.args.ledger.now c.args.items.now.items c.add_own_event.new.items.items
    (λ list. event_seen set c.args.n (Some c.in-Some.m) c.args.node.now list c.args.event) (λ list. event_seen set c.args.n c.args.runner c.args.node.now list c.args.event)
    (λ list. sym (ap (λ o. event_seen set c.args.n o c.args.node.now list c.args.event) c.in-Some.is)) c.add_own_event.ensures.front

pub returns-in-Reset-clause-front : goal.returns-in-Reset-clause-front
returns-in-Reset-clause-front g c =
    let set = setting_in g.T.Tag.mac c.args.setting.now in
    due_none c.push_item.result c.args.ledger.now c.args.items.now.items c.push_item.new.items.items
    (λ list. event_seen set c.args.n c.args.runner c.args.node.now list c.args.event) c.push_item.ensures.err

pub returns-in-Protected-clause-front : goal.returns-in-Protected-clause-front
returns-in-Protected-clause-front g c =
    let set = setting_in g.T.Tag.mac c.args.setting.now in
    due_none c.push_item-in-Protected.result c.args.ledger.now c.args.items.now.items c.push_item-in-Protected.new.items.items
    (λ list. event_seen set c.args.n c.args.runner c.args.node.now list c.args.event) c.push_item-in-Protected.ensures.err
