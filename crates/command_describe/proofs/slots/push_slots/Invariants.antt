use Rattle.std.specs.Prelude.{◌≡◌, ◌++◌, drop}
use Rattle.sx_deploy.specs.SeenDeployment.{deployed_as}
use Rattle.command_describe.specs.Output.{each_from, slot_line}
use Rattle.command_describe.proofs.slots.push_slots.Given as goal

abbrev pub invariant-loop-number : goal.invariant-loop-number
invariant-loop-number l = l.text.items ++ each_from (slot_line (deployed_as l.deployment) l.«module» l.layout) l.number (drop l.number l.ends)
    ≡ l.fn.text.items ++ each_from (slot_line (deployed_as l.deployment) l.«module» l.layout) 0 l.ends
