use Rattle.std.proofs.Common.{Some, ap, sym, subst, ◌∙◌}
use Rattle.lemmas.proofs.Lists.{get_some}
use Rattle.spec_machine.specs.State.{State}
use Rattle.sx_world.specs.Held.{Running}
use Rattle.sx_observe.specs.InMemory.{setting_in}
use Rattle.sx_observe.specs.Recognized.{AreRecognized}
use Rattle.sx_world.proofs.passing.Passed.{node_there, shown_did, shown_front}
use Rattle.sx_world.proofs.running.Running.show.Goals as goal

pub returns-clause-done : goal.returns-clause-done
returns-clause-done g c =
    let set = setting_in g.T.Tag.mac c.args.setting.now in
    shown_did c.add_seen.result set c.args.n c.args.self.now c.self.inside.ledger c.add_seen.new.ledger
    c.args.items.now.items c.add_seen.new.items.items c.index-node.result.now c.runner_of-runner.result c.args.seen.now
    (ap (λ (k : Running). k.ledger) c.self.view_is)
    (λ known here. c.runner_of-runner.ensures.found c.args.self.now.nodes here
    (subst (λ (k : Running). AreRecognized set.sites c.args.self.now.nodes k.recognized) (sym c.self.view_is) known.1))
    (λ s here. node_there _ c.args.self.now.nodes c.args.n c.from.result s c.index-node.result.now (ap (λ (k : Running). k.nodes) c.self.view_is) here c.from.ensures c.index-node.ensures)
    c.add_seen.ensures.done

pub returns-clause-front : goal.returns-clause-front
returns-clause-front g c =
    let set = setting_in g.T.Tag.mac c.args.setting.now in
    shown_front c.add_seen.result set c.args.n c.args.self.now c.self.inside.ledger c.args.items.now.items
    c.add_seen.new.items.items c.index-node.result.now c.runner_of-runner.result c.args.seen.now
    (ap (λ (k : Running). k.ledger) c.self.view_is)
    (λ known here. c.runner_of-runner.ensures.found c.args.self.now.nodes here
    (subst (λ (k : Running). AreRecognized set.sites c.args.self.now.nodes k.recognized) (sym c.self.view_is) known.1))
    (λ s here. node_there _ c.args.self.now.nodes c.args.n c.from.result s c.index-node.result.now (ap (λ (k : Running). k.nodes) c.self.view_is) here c.from.ensures c.index-node.ensures)
    c.add_seen.ensures.front

pub returns-clause-recognized : goal.returns-clause-recognized
returns-clause-recognized g c = λ known.
    let set = setting_in g.T.Tag.mac c.args.setting.now in
    let found = get_some c.args.self.now.nodes c.args.n c.requires in
    let same = node_there _ c.args.self.now.nodes c.args.n c.from.result found.0 c.index-node.result.now (ap (λ (k : Running). k.nodes) c.self.view_is) found.1 c.from.ensures c.index-node.ensures in
    c.runner_of-runner.ensures.kept c.args.self.now.nodes (found.1 ∙ ap (λ (s : State). Some s) (sym same))
    (known.0 c.args.n c.index-node.result.now (found.1 ∙ ap (λ (s : State). Some s) (sym same)))
    (subst (λ (k : Running). AreRecognized set.sites c.args.self.now.nodes k.recognized) (sym c.self.view_is) known.1)
