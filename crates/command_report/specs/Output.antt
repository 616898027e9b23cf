-- What a command that reports on a deployment writes: a function of the head of the input, of what
-- a deployment's text means, and of what the command says of a deployment.
use Rattle.std.specs.Prelude.{ℕ, List, ◌++◌, Result, Ok, Err}
use Rattle.command_promise.specs.declared.status.Status.TheVariants.{Done}
use Rattle.command_promise.specs.Told.{Output, unread_output}
use Rattle.sx_entries.specs.declared.fault.Place.TheVariants.{Nowhere}
use Rattle.sx_entries.specs.declared.fault.DeployFault.{DeployFault}
use Rattle.sx_entries.specs.Fault.{fault}
use Rattle.command_promise.specs.Head.{Head, Found, TooLong, NoMark, Unread, head}
use Rattle.sx_deploy.specs.Deployment.{Deployed}
use Rattle.sx_io.specs.Reading.{Answer}
use Rattle.command_text.specs.Output.{end_line}
use Rattle.command_head.specs.Meanings.{Meaning}
use Rattle.command_head.specs.Refused.{fault_output}

-- the lines that a command writes of a deployment, before `end`
abbrev pub Report : Type 0
Report = Deployed → List ℕ

-- what it writes of a deployment, or of its fault
abbrev pub report_output : Report → Result Deployed DeployFault → Output
report_output report (Ok d) = record { text = report d ++ end_line; status = Done }
report_output report (Err f) = fault_output f

-- what it writes of an input's head
abbrev pub report_head : Report → Meaning → Head → Output
report_head report meaning (Found text more) = report_output report (meaning text)
report_head report meaning TooLong = fault_output (fault 1 Nowhere)
report_head report meaning NoMark = fault_output (fault 2 Nowhere)
report_head report meaning Unread = unread_output

-- the whole command
abbrev pub report_all : Report → Meaning → List Answer → Output
report_all report meaning answers = report_head report meaning (head answers)
