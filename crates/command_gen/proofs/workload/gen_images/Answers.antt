use Rattle.std.proofs.Common.{List, [], map, refl, subst, sym}
use Rattle.command_promise.specs.Told.{CommandEnds}
use Rattle.command_promise.proofs.Laws.{ends-out-of-memory, prefix-none}
use Rattle.sx_deploy.specs.SeenDeployment.{deployed_as}
use Rattle.spec_run.specs.Accepted.{setting, setting_of}
use Rattle.spec_run.specs.Law.{IsSoundSetting}
use Rattle.spec_run.specs.Setting.{Site}
use Rattle.sx_world.specs.Standing.{Stands}
use Rattle.spec_run.specs.State.{switched_on}
use Rattle.spec_run.proofs.accepted.Settled.{settled}
use Rattle.command_world.specs.Images.{images_text}
use Rattle.command_gen.specs.Promise.{gen_deployed, gen_run}
use Rattle.command_gen.proofs.Generated.{ends_put}
use Rattle.command_gen.proofs.workload.gen_images.Goals as goal

pub tell_run-requires-clause-images : goal.tell_run-requires-clause-images
tell_run-requires-clause-images g c =
    let d = deployed_as c.args.deployment.now in
    let texts = map (λ i. i.text.items) c.args.images.now in
    let P : List Site → Type 0 = λ sites. IsSoundSetting (setting g.T.Tag.mac d sites) in
    subst P (sym c.in-Ok.ensures.sites) (settled g.T.Tag.mac d texts c.requires.sound c.requires.images g.met.T.Tag.is_tag)

pub tell_run-requires-clause-stands : goal.tell_run-requires-clause-stands
tell_run-requires-clause-stands g c =
    let d = deployed_as c.args.deployment.now in
    let P : List Site → Type 0 = λ sites. Stands (setting g.T.Tag.mac d sites) c.in-Ok.world (switched_on (setting g.T.Tag.mac d sites)) in
    subst P (sym c.in-Ok.ensures.sites) c.in-Ok.ensures.stands

pub returns-in-Ok : goal.returns-in-Ok
returns-in-Ok g c =
    let d = deployed_as c.args.deployment.now in
    let texts = map (λ i. i.text.items) c.args.images.now in
    c.in-Stop.ensures (λ more. gen_run c.args.samples d.names (setting_of g.T.Tag.mac d texts)) []

pub returns-in-On : goal.returns-in-On
returns-in-On g c =
    let d = deployed_as c.args.deployment.now in
    let texts = map (λ i. i.text.items) c.args.images.now in
    let P : List Site → Type 0 = λ sites. CommandEnds g.K.Sink.tells (g.K.Sink.at c.put_images.new.output) (g.K.Sink.at c.tell_run.new.output) c.tell_run.result
    (gen_run c.args.samples d.names (setting g.T.Tag.mac d sites)) in
    ends_put _ _ _ _ _ (images_text d.names.modules texts) _ (c.in-On.ensures (λ more. gen_run c.args.samples d.names (setting_of g.T.Tag.mac d texts)))
    (subst P c.in-Ok.ensures.sites c.tell_run.ensures)

pub returns : goal.returns
returns g c =
    let texts = map (λ i. i.text.items) c.args.images.now in
    ends-out-of-memory _ _ _ (gen_deployed g.T.Tag.mac texts c.args.samples (deployed_as c.args.deployment.now)) (λ t. prefix-none _ _ _ refl) refl
