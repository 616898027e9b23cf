use Rattle.std.proofs.Common.{List, ℕ, ap, refl, sym}
use Rattle.command_promise.specs.Told.{behind}
use Rattle.command_promise.proofs.Laws.{does-same, ends-out-of-memory, prefix-none}
use Rattle.sx_deploy.specs.SeenDeployment.{deployed_as}
use Rattle.spec_run.specs.Accepted.{setting}
use Rattle.command_snap.specs.Answers.{answer_text}
use Rattle.command_snap.proofs.querying.tell.Goals as goal

pub returns-in-Some : goal.returns-in-Some
returns-in-Some g c = λ left.
    let d = deployed_as c.args.deployment.now in
    let set = setting g.T.Tag.mac d c.args.timeline.now.sites in
    let found = c.in-Some.ensures d.names set c.args.timeline.now.lines c.requires.answers in
    does-same _ _ _ _ _ _ _ (λ more. ap (λ (text : List ℕ). behind text (left more)) (sym found)) (c.put_text.ensures.does left)

pub returns-in-Err : goal.returns-in-Err
returns-in-Err g c = λ left more.
    let d = deployed_as c.args.deployment.now in
    let text = answer_text d.names (setting g.T.Tag.mac d c.args.timeline.now.sites) c.args.timeline.now.lines c.args.query in
    ends-out-of-memory _ _ _ (behind text (left more)) (λ t. prefix-none _ _ _ refl) refl
