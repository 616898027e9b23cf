use Rattle.std.proofs.Common.{List, [], inl, map, ap, refl, subst, sym}
use Rattle.sx_asm.specs.Assembled.{assembled}
use Rattle.command_promise.proofs.Laws.{begun-same, told-stop, ends-out-of-memory, prefix-none}
use Rattle.sx_deploy.specs.SeenDeployment.{deployed_as}
use Rattle.spec_run.specs.Accepted.{setting}
use Rattle.spec_run.specs.Law.{IsSoundSetting}
use Rattle.spec_run.specs.Setting.{Site}
use Rattle.sx_world.specs.Standing.{Stands}
use Rattle.spec_run.specs.State.{switched_on}
use Rattle.spec_run.proofs.accepted.Settled.{settled}
use Rattle.command_head.proofs.Given.{given_none}
use Rattle.command_batch.specs.Output.{batch_deployed, common_from}
use Rattle.command_batch.proofs.batch.BatchCommandDeploys.perform.Goals as goal

pub common_lines-requires-clause-images : goal.common_lines-requires-clause-images
common_lines-requires-clause-images g c =
    let d = deployed_as c.args.deployment.now in
    let texts = map (λ i. i.text.items) c.args.images.now in
    let P : List Site → Type 0 = λ sites. IsSoundSetting (setting g.T.Tag.mac d sites) in
    subst P (sym c.in-Ok.ensures.sites) (settled g.T.Tag.mac d texts c.requires.sound c.requires.images g.met.T.Tag.is_tag)

pub common_lines-requires-clause-stands : goal.common_lines-requires-clause-stands
common_lines-requires-clause-stands g c =
    let d = deployed_as c.args.deployment.now in
    let P : List Site → Type 0 = λ sites. Stands (setting g.T.Tag.mac d sites) c.in-Ok.world (switched_on (setting g.T.Tag.mac d sites)) in
    subst P (sym c.in-Ok.ensures.sites) c.in-Ok.ensures.stands

pub returns-in-Ok-clause-rest : goal.returns-in-Ok-clause-rest
returns-in-Ok-clause-rest g c = λ limit m0 defined aside noted b.
    let d = deployed_as c.args.deployment.now in
    let mac = g.T.Tag.mac in
    let set = setting mac d c.in-Ok.world.sites in
    c.common_lines.ensures.rest limit m0 defined aside noted
    (begun-same (common_from assembled d.names set (switched_on set) 1)
    (λ more. ap (λ (sites : List Site). common_from assembled d.names (setting mac d sites) (switched_on (setting mac d sites)) 1 more) (sym c.in-Ok.ensures.sites)) b)

pub returns-in-Err-clause-rest : goal.returns-in-Err-clause-rest
returns-in-Err-clause-rest g c = λ limit m0 defined aside noted b.
    let texts = map (λ i. i.text.items) c.args.images.now in
    told-stop b (λ more. ends-out-of-memory _ _ _ (batch_deployed assembled g.T.Tag.mac (deployed_as c.args.deployment.now) texts more) (λ t. prefix-none _ _ _ refl) refl)

pub returns-in-Err-clause-wanted : goal.returns-in-Err-clause-wanted
returns-in-Err-clause-wanted g c = λ six. ([], given_none _ _ _ _, inl refl)

pub returns-in-Ok-clause-wanted : goal.returns-in-Ok-clause-wanted
returns-in-Ok-clause-wanted g c = c.common_lines.ensures.wanted
