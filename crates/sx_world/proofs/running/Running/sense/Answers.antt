use Rattle.std.proofs.Common.{◌≡◌, ◌==◌, ◌≤◌, [], length, sym, ap, ◌∙◌, arith, rules}
use Rattle.std.specs.Prelude.{slice_get}
use Rattle.std.specs.List.{position_from}
use Rattle.std.specs.Vec.{vec_len}
use Rattle.std.specs.Prelude.{unwrap_or}
use Rattle.sx_mean.specs.declared.apps.AppDevice.{AppDevice}
use Rattle.sx_deploy.specs.SeenDeployment.{deployed_as}
use Rattle.spec_run.specs.Setting.{devices_at}
use Rattle.sx_world.specs.Held.{Running}
use Rattle.spec_run.specs.Accepted.{setting}
use Rattle.spec_run.specs.Run.{place_at}
use Rattle.spec_run.proofs.tie.Lists.{some_inj}
use Rattle.sx_world.proofs.doing.Loaded.{element_at}
use Rattle.sx_world.proofs.doing.Sampled.{sensor_there, sense_does, sense_past}
use Rattle.sx_world.proofs.running.Running.sense.Goals as goal

pub returns-then-from-len : goal.returns-then-from-len
returns-then-from-len g c = λ sites.
    let x = c.index.result.now in
    let found = element_at c.args.deployment.now.app.devices.items c.args.d c.from.result x c.requires.device c.from.ensures c.index.ensures in
    let long : vec_len c.self.inside.nodes ≡ length c.self.inside.nodes.items = search rules in
    let past : length c.args.self.now.nodes ≤ x.node =
    omega (arith, c.if-from-len.true, c.from-2.ensures, c.len.ensures, long, ap (λ (k : Running). length k.nodes) c.self.view_is) in
    sense_past (setting g.T.Tag.mac (deployed_as c.args.deployment.now) sites) c.args.self.now c.args.items.now.items c.args.d c.args.value x found past

pub place_at-k-requires-clause-device : goal.place_at-k-requires-clause-device
place_at-k-requires-clause-device g c = λ x e.
    let found = element_at c.args.deployment.now.app.devices.items c.args.d c.from.result c.index.result.now c.requires.device c.from.ensures c.index.ensures in
    ap (λ (z : AppDevice). z.node) (some_inj x c.index.result.now (sym e ∙ ap (λ ds. slice_get ds c.args.d) c.deref.ensures.value ∙ found))

pub sense_at-requires-clause-device : goal.sense_at-requires-clause-device
sense_at-requires-clause-device g c = λ s here.
    let x = c.index.result.now in
    let d = deployed_as c.args.deployment.now in
    let found = element_at c.args.deployment.now.app.devices.items c.args.d c.from.result x c.requires.device c.from.ensures c.index.ensures in
    let place : c.place_at-k.result ≡ place_at (setting g.T.Tag.mac d []) x.node c.args.d =
    c.place_at-k.ensures ∙ ap (λ ds. unwrap_or (position_from (λ k. k == c.args.d) 0 (devices_at x.node 0 ds)) 0) c.deref.ensures.value in
    (sensor_there g.T.Tag.mac d [] c.args.d c.place_at-k.result x s.devices c.requires.sound c.requires.sensor found (c.requires.windows x.node s here) place).0

pub sense_at-requires-clause-sensor : goal.sense_at-requires-clause-sensor
sense_at-requires-clause-sensor g c = λ s here.
    let x = c.index.result.now in
    let d = deployed_as c.args.deployment.now in
    let found = element_at c.args.deployment.now.app.devices.items c.args.d c.from.result x c.requires.device c.from.ensures c.index.ensures in
    let place : c.place_at-k.result ≡ place_at (setting g.T.Tag.mac d []) x.node c.args.d =
    c.place_at-k.ensures ∙ ap (λ ds. unwrap_or (position_from (λ k. k == c.args.d) 0 (devices_at x.node 0 ds)) 0) c.deref.ensures.value in
    (sensor_there g.T.Tag.mac d [] c.args.d c.place_at-k.result x s.devices c.requires.sound c.requires.sensor found (c.requires.windows x.node s here) place).1

pub returns : goal.returns
returns g c = λ sites.
    let x = c.index.result.now in
    let set = setting g.T.Tag.mac (deployed_as c.args.deployment.now) sites in
    let found = element_at c.args.deployment.now.app.devices.items c.args.d c.from.result x c.requires.device c.from.ensures c.index.ensures in
    let place : c.place_at-k.result ≡ place_at set x.node c.args.d =
    c.place_at-k.ensures ∙ ap (λ ds. unwrap_or (position_from (λ k. k == c.args.d) 0 (devices_at x.node 0 ds)) 0) c.deref.ensures.value in
    sense_does set c.sense_at.result c.args.self.now c.sense_at.new.self c.args.items.now.items c.sense_at.new.items.items c.args.d c.args.value c.place_at-k.result x found place
    (c.sense_at.ensures set)
