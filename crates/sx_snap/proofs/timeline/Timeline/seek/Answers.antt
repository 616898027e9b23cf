use Rattle.std.proofs.Common.{take}
use Rattle.sx_deploy.specs.SeenDeployment.{deployed_as}
use Rattle.sx_snap.proofs.Stretches.{nodes_long}
use Rattle.sx_snap.proofs.timeline.Timeline.seek.Goals as goal

pub returns-clause-nodes : goal.returns-clause-nodes
returns-clause-nodes g c =
    nodes_long g.T.Tag.mac (deployed_as c.args.plan.now) c.args.self.now.sites (take c.args.at c.args.self.now.lines) c.in_ok-world.world c.requires.timeline.sound c.requires.timeline.images
    c.in_ok-world.ensures
