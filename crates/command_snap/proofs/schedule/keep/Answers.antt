use Rattle.std.proofs.Common.{◌∙◌, ap, ℕ}
use Rattle.sx_asm.specs.Assembled.{assembled}
use Rattle.sx_deploy.specs.SeenDeployment.{deployed_as}
use Rattle.sx_sched.specs.Seen.{line_of}
use Rattle.command_world.specs.Schedule.{judged_line}
use Rattle.command_snap.proofs.schedule.keep.Goals as goal

pub returns-in-Ok-clause-keeps : goal.returns-in-Ok-clause-keeps
returns-in-Ok-clause-keeps g c = record {
  line = line_of c.in_ok-line.line;
  judged = ap (λ (n : ℕ). judged_line assembled (deployed_as c.args.deployment.now).names n c.args.said.now) c.requires.counted ∙ c.in_ok-line.ensures.line;
  kept = c.in-Ok.ensures.added;
}
