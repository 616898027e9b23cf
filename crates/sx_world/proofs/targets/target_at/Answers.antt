use Rattle.std.proofs.Common.{◌≡◌, length, Some, refl, subst, ap, ◌∙◌, arith}
use Rattle.std.specs.Prelude.{slice_get}
use Rattle.std.proofs.lemmas.Option.{slice_get_read}
use Rattle.sx_deploy.specs.SeenDeployment.{deployed_as}
use Rattle.spec_run.specs.Setting.{Site}
use Rattle.sx_world.proofs.standing.SwitchedOn.{target_is}
use Rattle.sx_world.proofs.targets.target_at.Goals as goal

pub returns : goal.returns
returns c = λ mac.
    let plan = c.args.deployment.now in
    let site = c.index-sites-m.result in
    let keys = plan.keys.items in
    let here = slice_get_read c.args.sites.now (length c.args.sites.now) c.args.m site refl c.requires.site c.index-sites-m.is in
    let node : c.from.result ≡ site.node = c.from.ensures ∙ ap (λ (s : Site). s.node) c.site.view_is in
    let lt = c.requires.nodes c.args.m site here in
    let key = subst (λ n. slice_get keys n ≡ Some c.index.result.now) node (slice_get_read keys (length keys) c.from.result c.index.result.now refl (omega (arith, node, lt)) c.index.ensures) in
    target_is mac (deployed_as plan) c.args.sites.now c.args.m site c.index.result.now c.in_ok-identity.field-0.items c.site.inside.provider c.in_ok-ends.field-0.items here key
    (ap (λ (s : Site). s.provider) c.site.view_is) c.in_ok-identity.ensures (c.in_ok-ends.ensures.few c.requires.links)
