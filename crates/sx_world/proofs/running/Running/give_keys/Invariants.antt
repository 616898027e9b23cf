use Rattle.std.proofs.Common.{◌+◌, ◌≤◌, length, drop, List}
use Rattle.sx_deploy.specs.SeenDeployment.{deployed_as}
use Rattle.spec_run.specs.Accepted.{setting}
use Rattle.spec_run.specs.Setting.{Site}
use Rattle.sx_world.proofs.granting.Given.{Giving}
use Rattle.sx_world.proofs.running.Running.give_keys.Given as goal

abbrev pub invariant-loop-g : goal.invariant-loop-g
invariant-loop-g g l = record {
  giving : (sites : List Site) → Giving (setting g.T.Tag.mac (deployed_as l.deployment) sites) l.grants (drop l.g-index l.grants) l.fn.self l.self l.fn.items.items l.items.items;
  count : length l.self.packets ≤ length l.fn.self.packets + l.g-index;
}
