use Rattle.std.specs.Prelude.{◌≡◌, ◌++◌, drop}
use Rattle.sx_deploy.specs.SeenDeployment.{deployed_as}
use Rattle.command_describe.specs.Output.{device_line, each_from}
use Rattle.command_describe.proofs.devices.push_devices.Given as goal

abbrev pub invariant-loop-number : goal.invariant-loop-number
invariant-loop-number l = l.text.items ++ each_from (device_line (deployed_as l.deployment)) l.number (drop l.number l.deployment.app.devices.items)
    ≡ l.fn.text.items ++ each_from (device_line (deployed_as l.deployment)) 0 l.deployment.app.devices.items
