use Rattle.std.proofs.Common.{◌≤◌, ℕ, length, subst, sym, take}
use Rattle.sx_deploy.specs.SeenDeployment.{deployed_as}
use Rattle.spec_run.specs.Accepted.{setting}
use Rattle.sx_snap.specs.Checkpoints.{StandsAfter}
use Rattle.command_snap.proofs.Reached.{before_within}
use Rattle.command_snap.proofs.answering.answer.Goals as goal

pub seek-requires-clause-within : goal.seek-requires-clause-within
seek-requires-clause-within g c =
    let last = length c.args.timeline.now.lines in
    subst (λ (n : ℕ). n ≤ last) (sym c.lines_before.ensures) (before_within (deployed_as c.args.deployment.now).names last c.args.query c.requires.asked)

pub answer_in-requires-clause-stands : goal.answer_in-requires-clause-stands
answer_in-requires-clause-stands g c =
    let set = setting g.T.Tag.mac (deployed_as c.args.deployment.now) c.args.timeline.now.sites in
    subst (λ (n : ℕ). StandsAfter set (take n c.args.timeline.now.lines) c.in_ok-world.world) c.lines_before.ensures c.in_ok-world.ensures.world
