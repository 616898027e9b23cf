-- How a command ends whose text gives no deployment.
use Rattle.std.specs.Prelude.{ℕ, List, ◌++◌, codes}
use Rattle.command_promise.specs.declared.status.Status.TheVariants.{Refused}
use Rattle.command_promise.specs.Told.{Output}
use Rattle.sx_entries.specs.declared.fault.DeployFault.{DeployFault}
use Rattle.sx_entries.specs.Text.{fault_text}
use Rattle.command_text.specs.Output.{line}

-- the line of a deployment's fault
unfoldable pub fault_line : DeployFault → List ℕ
fault_line f = line (codes "fault deployment " ++ fault_text f)

-- status 1: a rule is broken
abbrev pub fault_output : DeployFault → Output
fault_output f = record { text = fault_line f; status = Refused }
