use Rattle.std.proofs.Common.{◌∙◌, ap, refl, Err}
use Rattle.std.proofs.lemmas.Result.{on_ok_weaker}
use Rattle.sx_sched.specs.Seen.{line_of}
use Rattle.sx_deploy.specs.SeenDeployment.{deployed_as}
use Rattle.spec_run.specs.Accepted.{setting}
use Rattle.command_gen.proofs.Tallies.{acts_from, no_memory}
use Rattle.command_gen.proofs.counting.turn.Goals as goal

pub returns-in-Ok-clause-acts : goal.returns-in-Ok-clause-acts
returns-in-Ok-clause-acts g c =
    let d = deployed_as c.args.deployment.now in
    let set = setting g.T.Tag.mac d c.args.world.now.sites in
    on_ok_weaker c.act.result (acts_from d.names set c.args.world.now c.act.new.world c.args.number c.args.said.now c.act.new.items.items (line_of c.in-Ok.line) c.in-Ok.ensures.line)
    c.act.ensures.acts

pub returns-in-Ok-clause-stops : goal.returns-in-Ok-clause-stops
returns-in-Ok-clause-stops g c = no_memory (deployed_as c.args.deployment.now).names c.args.number c.args.said.now c.act.result c.act.ensures.stops

pub returns-in-Ok-clause-counts : goal.returns-in-Ok-clause-counts
returns-in-Ok-clause-counts g c = on_ok_weaker c.act.result (λ e. e ∙ c.requires.counted) c.act.ensures.counts

pub returns-in-Err-Fault-clause-stops : goal.returns-in-Err-Fault-clause-stops
returns-in-Err-Fault-clause-stops g c = (c.judge_line.ensures.rule c.in-Err-Fault.rule (c.in-Err-Fault.is ∙ ap Err c.in-Err-Fault.field-0-is), refl)
