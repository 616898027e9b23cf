use Rattle.std.proofs.Common.{◌∙◌, ℕ, List, [], ap, inl, refl, subst}
use Rattle.command_promise.specs.Told.{command_at}
use Rattle.command_promise.specs.Parts.{Rest}
use Rattle.command_promise.proofs.Laws.{told-stop, ends-out-of-memory, prefix-none}
use Rattle.command_promise.specs.Head.{head_lines}
use Rattle.sx_deploy.specs.SeenDeployment.{deployed_as}
use Rattle.sx_deploy.specs.declared.deployment.Deployment.{Deployment}
use Rattle.spec_run.specs.Accepted.{setting}
use Rattle.sx_image.specs.InMemory.{texts_of}
use Rattle.command_head.proofs.Given.{given_none}
use Rattle.command_world.specs.Images.{images_text}
use Rattle.command_snap.specs.Output.{snap_from}
use Rattle.command_snap.proofs.schedule.snap_built.Goals as goal

pub returns-in-Ok-clause-rest : goal.returns-in-Ok-clause-rest
returns-in-Ok-clause-rest g c =
    let d = deployed_as c.args.deployment.now in
    let set = setting g.T.Tag.mac d c.args.timeline.now.sites in
    let texts = texts_of c.args.images.now in
    let R : List ℕ → Type 0 = λ images. Rest g.S.Source.tells g.K.Sink.tells head_lines c.args.lines.now
    (command_at (g.S.Source.at c.args.input.now) (g.K.Sink.at c.args.output.now)) (command_at (g.S.Source.at c.snap_lines.new.input) (g.K.Sink.at c.snap_lines.new.output))
    c.snap_lines.result (snap_from d.names set images []) in
    subst R
    (c.deref-in-Ok.ensures.value ∙ c.in-Ok.ensures ∙ ap (λ (names : List (List ℕ)). images_text names texts) c.deref.ensures.value
    ∙ ap (λ (deployment : Deployment). images_text deployment.names.modules texts) c.deployment.view_is)
    c.snap_lines.ensures.rest

pub returns-in-Err-clause-rest : goal.returns-in-Err-clause-rest
returns-in-Err-clause-rest g c = λ limit m0 defined aside noted b.
    let d = deployed_as c.args.deployment.now in
    let images = images_text d.names.modules (texts_of c.args.images.now) in
    told-stop b
    (λ more. ends-out-of-memory _ _ _ (snap_from d.names (setting g.T.Tag.mac d c.args.timeline.now.sites) images [] more) (λ t. prefix-none _ _ _ refl) refl)

pub returns-in-Ok-clause-wanted : goal.returns-in-Ok-clause-wanted
returns-in-Ok-clause-wanted g c = c.snap_lines.ensures.wanted

pub returns-in-Err-clause-wanted : goal.returns-in-Err-clause-wanted
returns-in-Err-clause-wanted g c = λ six. ([], given_none _ _ _ _, inl refl)
