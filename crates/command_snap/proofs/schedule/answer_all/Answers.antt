use Rattle.std.proofs.Common.{ap}
use Rattle.command_promise.specs.Told.{behind}
use Rattle.command_promise.specs.declared.turned.Turned.TheVariants.{Stop}
use Rattle.command_promise.proofs.Laws.{begun-put, told-stop}
use Rattle.sx_deploy.specs.SeenDeployment.{deployed_as}
use Rattle.spec_run.specs.Accepted.{setting}
use Rattle.command_snap.specs.Output.{answers_from}
use Rattle.command_snap.proofs.schedule.answer_all.Goals as goal

pub returns-in-Stop-clause-rest : goal.returns-in-Stop-clause-rest
returns-in-Stop-clause-rest g c = λ limit m0 defined aside noted b.
    let d = deployed_as c.args.deployment.now in
    let left = answers_from d.names (setting g.T.Tag.mac d c.args.timeline.now.sites) c.args.timeline.now.lines 1 in
    told-stop b (c.in-Stop.ensures.does left)

pub returns-in-On-clause-rest : goal.returns-in-On-clause-rest
returns-in-On-clause-rest g c = λ limit m0 defined aside noted b.
    let d = deployed_as c.args.deployment.now in
    let left = answers_from d.names (setting g.T.Tag.mac d c.args.timeline.now.sites) c.args.timeline.now.lines 1 in
    c.answer_queries.ensures.rest limit m0 defined aside noted (begun-put (λ more. behind c.args.images.now (left more)) left b (c.in-On.ensures.does left))

pub returns-in-Stop-clause-wanted : goal.returns-in-Stop-clause-wanted
returns-in-Stop-clause-wanted g c = λ six. absurd (c.in-Stop.ensures.memory (ap Stop six))

pub returns-in-On-clause-wanted : goal.returns-in-On-clause-wanted
returns-in-On-clause-wanted g c = c.answer_queries.ensures.wanted
