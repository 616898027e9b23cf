use Rattle.std.proofs.Common.{List, length, map, refl, sym, ap, ◌∙◌, arith}
use Rattle.std.specs.Prelude.{slice_get}
use Rattle.std.proofs.lemmas.List.{length-map}
use Rattle.sx_deploy.specs.SeenDeployment.{deployed_as}
use Rattle.sx_deployer.specs.Keeping.{known}
use Rattle.sx_image.specs.declared.image.Image.{Image}
use Rattle.sx_mean.specs.View.{part_as}
use Rattle.spec_run.specs.Accepted.{setting_of}
use Rattle.sx_world.specs.Held.{targets_from}
use Rattle.spec_run.specs.Accepted.{setting}
use Rattle.spec_run.specs.Setting.{Site}
use Rattle.sx_world.proofs.standing.Readying.{targets_long}
use Rattle.sx_observe.proofs.SitesOf.{all_sited}
use Rattle.sx_world.proofs.standing.SwitchedOn.{keyed, stands_first}
use Rattle.sx_world.proofs.world.World.new.Goals as goal

pub targets_of-requires-clause-few : goal.targets_of-requires-clause-few
targets_of-requires-clause-few g c =
    let d = deployed_as c.args.deployment.now in
    let texts = map (λ (i : Image). i.text.items) c.args.images.now in
    let many = length-map c.args.images.now (λ (i : Image). i.text.items) in
    let parts = length-map c.args.deployment.now.app.parts.items part_as in
    let long = all_sited d c.requires.sound texts (omega (arith, many, parts, c.requires.images)) in
    let same = ap length (c.deref.ensures.value ∙ c.in_ok-sites.ensures) in
    omega (arith, same, long, c.requires.sound.few_parts)

pub targets_of-requires-clause-nodes : goal.targets_of-requires-clause-nodes
targets_of-requires-clause-nodes g c = λ k site e.
    keyed (deployed_as c.args.deployment.now) c.requires.sound (map (λ (i : Image). i.text.items) c.args.images.now) k site
    (ap (λ (s : List Site). slice_get s k) (sym (c.deref.ensures.value ∙ c.in_ok-sites.ensures)) ∙ e)

pub new-deployer-requires : goal.new-deployer-requires
new-deployer-requires g c =
    let d = deployed_as c.args.deployment.now in
    let texts = map (λ (i : Image). i.text.items) c.args.images.now in
    let many = length-map c.args.images.now (λ (i : Image). i.text.items) in
    let parts = length-map c.args.deployment.now.app.parts.items part_as in
    let long = all_sited d c.requires.sound texts (omega (arith, many, parts, c.requires.images)) in
    let same = ap length (c.deref.ensures.value ∙ c.in_ok-sites.ensures) in
    let set = setting g.T.Tag.mac d c.deref.result.now in
    let targets = ap length (c.in_ok-targets.ensures g.T.Tag.mac) in
    let known_long = length-map c.in_ok-targets.targets.items known in
    let all = targets_long set 0 c.deref.result.now in
    omega (arith, same, long, targets, known_long, all, c.requires.sound.few_parts)

pub returns-clause-stands : goal.returns-clause-stands
returns-clause-stands g c =
    let mac = g.T.Tag.mac in
    let d = deployed_as c.args.deployment.now in
    let texts = map (λ (i : Image). i.text.items) c.args.images.now in
    stands_first (setting_of mac d texts) _ c.args.nodes.items c.new-deployer.result (map known c.in_ok-targets.targets.items) c.requires.sound.few_parts c.requires.sound.few_links
    (c.in_ok-targets.ensures mac ∙ ap (λ (s : List Site). targets_from (setting mac d s) 0 s) (c.deref.ensures.value ∙ c.in_ok-sites.ensures)) refl
    c.new.ensures c.requires.nodes c.new-deployer.ensures
