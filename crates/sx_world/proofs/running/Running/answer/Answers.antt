use Rattle.std.proofs.Common.{◌<◌, ◌≤◌, List, length, map, arith, sym, subst, ap, ◌∙◌}
use Rattle.std.specs.Prelude.{slice_get}
use Rattle.std.proofs.lemmas.List.{length-map}
use Rattle.std.specs.Rc.{rc_slice_items}
use Rattle.sx_deploy.specs.SeenDeployment.{deployed_as}
use Rattle.sx_mean.specs.View.{part_as}
use Rattle.spec_run.specs.Acts.{after_answer}
use Rattle.sx_world.specs.Granted.{accepted_ask, judged_by}
use Rattle.sx_world.specs.Held.{Running, DoesAct}
use Rattle.spec_run.specs.Accepted.{setting}
use Rattle.spec_run.specs.Setting.{Site}
use Rattle.sx_world.proofs.granting.Confirming.{answer_does, denied_does}
use Rattle.sx_world.proofs.running.Running.answer.Goals as goal

pub returns-in-Some-clause-does : goal.returns-in-Some-clause-does
returns-in-Some-clause-does g c =
    let parts = c.args.deployment.now.app.parts.items in
    let mac = g.T.Tag.mac in
    let targets : length parts ≤ length c.self.inside.deployer.targets = subst (λ (o : Running). length parts ≤ length o.deployer.targets) (sym c.self.view_is) c.requires.parts in
    let packets = ap (λ ps. map rc_slice_items ps) c.deref.ensures.value in
    subst (λ (o : Running). (sites : List Site) → DoesAct (setting mac (deployed_as c.args.deployment.now) sites) c.confirm.result o c.confirm.new.self c.args.items.now.items c.confirm.new.items.items
    (λ w. after_answer (setting mac (deployed_as c.args.deployment.now) sites) w c.args.m c.args.boot (slice_get sites c.args.m) (slice_get w.packets c.args.k))) c.self.view_is
    (λ sites. answer_does (setting mac (deployed_as c.args.deployment.now) sites) c.confirm.result _ c.confirm.new.self c.judge_answer.new.deployer c.args.items.now.items c.confirm.new.items.items
    c.args.m c.args.boot c.args.k c.in-Some.ask c.attested-last.result
    (subst (λ n. c.args.m < n) (sym (length-map parts part_as)) c.requires.known) (omega (arith, c.requires.known, targets)) c.attested-last.ensures
    (c.judge_answer.ensures.state ∙ ap (λ ps. judged_by mac c.self.inside.deployer c.args.m c.args.boot (slice_get ps c.args.k)) packets)
    (sym (c.judge_answer.ensures.ask ∙ ap (λ ps. accepted_ask mac c.self.inside.deployer c.args.m c.args.boot (slice_get ps c.args.k)) packets) ∙ c.in-Some.is)
    (c.confirm.ensures.does sites))

pub returns-in-None-clause-does : goal.returns-in-None-clause-does
returns-in-None-clause-does g c =
    let parts = c.args.deployment.now.app.parts.items in
    let mac = g.T.Tag.mac in
    let packets = ap (λ ps. map rc_slice_items ps) c.deref.ensures.value in
    let new : Running = record {
      nodes = c.self.inside.nodes.items;
      packets = map rc_slice_items c.self.inside.packets.items;
      deployer = c.judge_answer.new.deployer;
      ledger = c.self.inside.ledger;
      recognized = c.self.inside.recognized;
      steps = c.self.inside.steps;
    } in
    subst (λ (o : Running). (sites : List Site) → DoesAct (setting mac (deployed_as c.args.deployment.now) sites) c.push_item.result o new c.args.items.now.items c.push_item.new.items.items
    (λ w. after_answer (setting mac (deployed_as c.args.deployment.now) sites) w c.args.m c.args.boot (slice_get sites c.args.m) (slice_get w.packets c.args.k))) c.self.view_is
    (λ sites. denied_does (setting mac (deployed_as c.args.deployment.now) sites) c.push_item.result _ c.judge_answer.new.deployer c.args.items.now.items c.push_item.new.items.items c.args.m c.args.boot c.args.k
    (subst (λ n. c.args.m < n) (sym (length-map parts part_as)) c.requires.known)
    (c.judge_answer.ensures.state ∙ ap (λ ps. judged_by mac c.self.inside.deployer c.args.m c.args.boot (slice_get ps c.args.k)) packets)
    (sym (c.judge_answer.ensures.ask ∙ ap (λ ps. accepted_ask mac c.self.inside.deployer c.args.m c.args.boot (slice_get ps c.args.k)) packets) ∙ c.in-None.is)
    c.push_item.ensures.ok c.push_item.ensures.err)
