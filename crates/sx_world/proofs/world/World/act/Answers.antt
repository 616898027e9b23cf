use Rattle.std.proofs.Common.{◌+◌, List, sym, subst, ap, ◌∙◌}
use Rattle.sx_deploy.specs.SeenDeployment.{deployed_as}
use Rattle.sx_sched.specs.Seen.{line_of}
use Rattle.sx_world.specs.Held.{Held, Running}
use Rattle.sx_world.specs.Ready.{IsReady}
use Rattle.spec_run.specs.Setting.{Site}
use Rattle.sx_observe.proofs.Fronts.{front_none}
use Rattle.sx_world.proofs.standing.Continuing.{goes_on}
use Rattle.sx_world.proofs.standing.Readying.{stands_ready, act_did, act_wanted}
use Rattle.sx_world.proofs.world.World.act.Goals as goal

pub perform-requires-clause-ready : goal.perform-requires-clause-ready
perform-requires-clause-ready g c =
    let d = deployed_as c.args.deployment.now in
    let held = c.args.self.now in
    let view = c.self.view_is in
    let going = c.requires.going (sym (ap (λ (h : Held). h.ran_out) view) ∙ c.if-self.false) in
    let ready = stands_ready g.T.Tag.mac d held.sites c.requires.sound c.requires.images held going.0 c.requires.few going.1 in
    subst (λ (s : List Site). IsReady d s c.self.inside.running) (sym (c.deref.ensures.value ∙ ap (λ (h : Held). h.sites) view))
    (subst (λ (k : Running). IsReady d held.sites k) (sym (ap (λ (h : Held). h.running) view)) ready)

pub returns-in-Ok-clause-acted : goal.returns-in-Ok-clause-acted
returns-in-Ok-clause-acted g c =
    let held = c.args.self.now in
    let view = c.self.view_is in
    act_did g.T.Tag.mac (deployed_as c.args.deployment.now) held.sites c.requires.sound c.requires.images held _ c.self.inside.running c.deref.result.now
    c.args.items.now.items c.perform.new.items.items (line_of c.args.line.now) c.requires.form (ap (λ (h : Held). h.performed + 1) view)
    (c.deref.ensures.value ∙ ap (λ (h : Held). h.sites) view) (ap (λ (h : Held). h.running) view) c.in-Ok.ensures

pub returns-in-Err-clause-front : goal.returns-in-Err-clause-front
returns-in-Err-clause-front g c =
    let held = c.args.self.now in
    let view = c.self.view_is in
    act_wanted g.T.Tag.mac (deployed_as c.args.deployment.now) held.sites c.requires.sound c.requires.images held c.self.inside.running c.deref.result.now
    c.args.items.now.items c.perform.new.items.items (line_of c.args.line.now)
    (c.deref.ensures.value ∙ ap (λ (h : Held). h.sites) view) (ap (λ (h : Held). h.running) view) c.in-Err.ensures

pub returns-in-Ok-clause-legal : goal.returns-in-Ok-clause-legal
returns-in-Ok-clause-legal g c =
    let held = c.args.self.now in
    let view = c.self.view_is in
    let d = deployed_as c.args.deployment.now in
    goes_on g.T.Tag.mac d held.sites c.requires.sound c.requires.images held _ (line_of c.args.line.now) c.args.items.now.items c.perform.new.items.items
    c.requires.form c.requires.few
    (act_did g.T.Tag.mac d held.sites c.requires.sound c.requires.images held _ c.self.inside.running c.deref.result.now
    c.args.items.now.items c.perform.new.items.items (line_of c.args.line.now) c.requires.form (ap (λ (h : Held). h.performed + 1) view)
    (c.deref.ensures.value ∙ ap (λ (h : Held). h.sites) view) (ap (λ (h : Held). h.running) view) c.in-Ok.ensures)

pub returns-then-self-clause-front : goal.returns-then-self-clause-front
returns-then-self-clause-front g c = λ w s. front_none c.args.items.now.items _
