use Rattle.std.specs.Prelude.{◌≡◌, ◌≤◌, ◌-◌, length, map}
use Rattle.sx_deploy.specs.SeenDeployment.{deployed_as}
use Rattle.sx_image.specs.InMemory.{plain}
use Rattle.command_world.specs.Built.{AreBuilt}
use Rattle.command_world.proofs.compiling.compile_all.Given as goal

-- the images of the modules so far
abbrev pub invariant-modules : goal.invariant-modules
invariant-modules g l = record {
  within : l.number ≤ length l.fn.deployment.app.parts.items;
  all : length l.images.items ≡ l.number;
  built : AreBuilt g.T.Tag.mac (deployed_as l.fn.deployment) (map plain l.images.items);
}

abbrev pub decreases-modules : goal.decreases-modules
decreases-modules g l = length l.fn.deployment.app.parts.items - l.number
