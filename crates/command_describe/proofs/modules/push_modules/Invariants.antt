use Rattle.std.specs.Prelude.{◌≡◌, ◌≤◌, ◌-◌, ◌++◌, length, drop, map}
use Rattle.sx_mean.specs.View.{part_as}
use Rattle.sx_deploy.specs.SeenDeployment.{deployed_as}
use Rattle.command_describe.specs.Output.{modules_from}
use Rattle.command_describe.proofs.modules.push_modules.Given as goal

-- the lines so far, and after them those of the modules that are left
abbrev pub invariant-modules : goal.invariant-modules
invariant-modules l = record {
  parts : l.i ≤ length l.fn.deployment.app.parts.items;
  layouts : l.i ≤ length l.fn.deployment.layouts.items;
  lines : l.text.items ++ modules_from (deployed_as l.fn.deployment) l.i (map part_as (drop l.i l.fn.deployment.app.parts.items)) (drop l.i l.fn.deployment.layouts.items)
      ≡ l.fn.text.items ++ modules_from (deployed_as l.fn.deployment) 0 (map part_as l.fn.deployment.app.parts.items) l.fn.deployment.layouts.items;
}

abbrev pub decreases-modules : goal.decreases-modules
decreases-modules l = length l.fn.deployment.app.parts.items - l.i
