use Rattle.std.proofs.Common.{◌∙◌, List, [], inl, map, ap, refl, subst, sym}
use Rattle.sx_asm.specs.Assembled.{assembled}
use Rattle.command_promise.proofs.Laws.{begun-put, begun-same, told-stop, ends-out-of-memory, prefix-none}
use Rattle.sx_deploy.specs.SeenDeployment.{deployed_as}
use Rattle.spec_run.specs.Accepted.{setting, setting_of}
use Rattle.spec_run.specs.Law.{IsSoundSetting}
use Rattle.spec_run.specs.Setting.{Site}
use Rattle.sx_world.specs.Standing.{Stands}
use Rattle.spec_run.specs.State.{switched_on}
use Rattle.spec_run.proofs.accepted.Settled.{settled}
use Rattle.command_head.proofs.Given.{given_none}
use Rattle.command_run.specs.declared.trace.Shown.TheVariants.{Items}
use Rattle.command_run.specs.Output.{run_at_start, run_deployed}
use Rattle.command_run.specs.Turns.{shown_from}
use Rattle.command_run.proofs.Listed.{run_shown}
use Rattle.command_run.proofs.run.RunCommandDeploys.perform.Goals as goal

pub run_lines-requires-clause-images : goal.run_lines-requires-clause-images
run_lines-requires-clause-images g c =
    let d = deployed_as c.args.deployment.now in
    let texts = map (λ i. i.text.items) c.args.images.now in
    let P : List Site → Type 0 = λ sites. IsSoundSetting (setting g.T.Tag.mac d sites) in
    subst P (sym c.in-Ok.ensures.sites) (settled g.T.Tag.mac d texts c.requires.sound c.requires.images g.met.T.Tag.is_tag)

pub run_lines-requires-clause-stands : goal.run_lines-requires-clause-stands
run_lines-requires-clause-stands g c =
    let d = deployed_as c.args.deployment.now in
    let P : List Site → Type 0 = λ sites. Stands (setting g.T.Tag.mac d sites) c.in-Ok.world (switched_on (setting g.T.Tag.mac d sites)) in
    subst P (sym c.in-Ok.ensures.sites) c.in-Ok.ensures.stands

pub returns-in-Ok-clause-rest : goal.returns-in-Ok-clause-rest
returns-in-Ok-clause-rest g c = λ limit m0 defined aside noted b.
    let d = deployed_as c.args.deployment.now in
    told-stop b (c.in-Stop.ensures (run_at_start assembled d.names (setting_of g.T.Tag.mac d (map (λ i. i.text.items) c.args.images.now))))

pub returns-in-On-clause-rest : goal.returns-in-On-clause-rest
returns-in-On-clause-rest g c = λ limit m0 defined aside noted b.
    let d = deployed_as c.args.deployment.now in
    let mac = g.T.Tag.mac in
    let texts = map (λ i. i.text.items) c.args.images.now in
    let set = setting mac d c.in-Ok.world.sites in
    let left = run_at_start assembled d.names (setting_of mac d texts) in
    c.run_lines.ensures.rest limit m0 defined aside noted
    (begun-same (shown_from Items d.names set (switched_on set) 1)
    (λ more. sym (run_shown d.names (setting_of mac d texts) (switched_on (setting_of mac d texts)) 1 more)
    ∙ ap (λ (sites : List Site). shown_from Items d.names (setting mac d sites) (switched_on (setting mac d sites)) 1 more) (sym c.in-Ok.ensures.sites))
    (begun-put (run_deployed assembled mac d texts) left b (c.in-On.ensures left)))

pub returns-clause-rest : goal.returns-clause-rest
returns-clause-rest g c = λ limit m0 defined aside noted b.
    let texts = map (λ i. i.text.items) c.args.images.now in
    told-stop b (λ more. ends-out-of-memory _ _ _ (run_deployed assembled g.T.Tag.mac (deployed_as c.args.deployment.now) texts more) (λ t. prefix-none _ _ _ refl) refl)

pub returns-clause-wanted : goal.returns-clause-wanted
returns-clause-wanted g c = λ six. ([], given_none _ _ _ _, inl refl)

pub returns-in-Ok-clause-wanted : goal.returns-in-Ok-clause-wanted
returns-in-Ok-clause-wanted g c = λ six. ([], given_none _ _ _ _, inl refl)

pub returns-in-On-clause-wanted : goal.returns-in-On-clause-wanted
returns-in-On-clause-wanted g c = c.run_lines.ensures.wanted
