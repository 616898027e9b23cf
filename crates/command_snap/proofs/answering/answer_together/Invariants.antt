use Rattle.std.specs.Prelude.{take}
use Rattle.sx_deploy.specs.SeenDeployment.{deployed_as}
use Rattle.spec_run.specs.Accepted.{setting}
use Rattle.sx_snap.specs.Checkpoints.{StandsAfter}
use Rattle.command_snap.specs.Foreseen.{AreAnswers}
use Rattle.command_snap.proofs.answering.answer_together.Given as goal

-- the answers so far, and a world after the lines that were reached
abbrev pub invariant-loop-query : goal.invariant-loop-query
invariant-loop-query g l =
    let d = deployed_as l.deployment in
    let set = setting g.T.Tag.mac d l.timeline.sites in record {
      answers : AreAnswers d.names set l.timeline.lines l.answers.items;
      stands : StandsAfter set (take l.reached l.timeline.lines) l.world;
    }
