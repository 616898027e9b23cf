use Rattle.std.proofs.Common.{◌++◌, ◌∷◌, [], List, map, sym, ap, ◌∙◌, arith}
use Rattle.std.proofs.lemmas.List.{length-map, take_all}
use Rattle.sx_deploy.specs.SeenDeployment.{deployed_as}
use Rattle.sx_image.specs.declared.image.Image.{Image}
use Rattle.sx_mean.specs.View.{part_as}
use Rattle.spec_run.specs.Accepted.{sites_of}
use Rattle.spec_run.specs.Setting.{Site}
use Rattle.sx_observe.proofs.SitesOf.{all_sited, take_next}
use Rattle.sx_observe.proofs.sites.sites_of.Goals as goal

pub loop-m-preserved : goal.loop-m-preserved
loop-m-preserved c =
    let d = deployed_as c.args.deployment.now in
    let all = sites_of d.app.parts d.layouts d.providers (map (λ (i : Image). i.text.items) c.args.images.now) in
    c.in_ok-push.ensures.items ∙ ap (λ (xs : List Site). xs ++ c.in_ok-site_at.field-0 ∷ []) c.loop-m.invariant ∙ sym (take_next all c.loop-m.m c.in_ok-site_at.field-0 c.in_ok-site_at.ensures)

pub returns : goal.returns
returns c =
    let d = deployed_as c.args.deployment.now in
    let texts = map (λ (i : Image). i.text.items) c.args.images.now in
    let many = length-map c.args.images.now (λ (i : Image). i.text.items) in
    let parts = length-map c.args.deployment.now.app.parts.items part_as in
    let long = all_sited d c.requires.sound texts (omega (arith, many, parts, c.requires.images)) in
    c.loop-m.invariant ∙ take_all c.loop-m.m (sites_of d.app.parts d.layouts d.providers texts) (omega (arith, long, parts, c.requires.images, c.loop-m-test.false))
