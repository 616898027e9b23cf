use Rattle.std.specs.Prelude.{map, take}
use Rattle.sx_deploy.specs.SeenDeployment.{deployed_as}
use Rattle.sx_sched.specs.Seen.{line_of}
use Rattle.spec_run.specs.Accepted.{setting}
use Rattle.sx_snap.specs.Checkpoints.{StandsAfter}
use Rattle.sx_snap.proofs.timeline.replay.Given as goal

-- the world is after the lines up to this index
abbrev pub invariant-loop-i : goal.invariant-loop-i
invariant-loop-i g l = StandsAfter (setting g.T.Tag.mac (deployed_as l.plan) l.fn.world.sites) (take l.i (map line_of l.lines)) l.world
