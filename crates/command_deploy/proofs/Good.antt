-- The status of an input whose own lines are a schedule.
use Rattle.std.proofs.Common.{◌≡◌, List, Result, Ok, Err}
use Rattle.sx_asm.specs.Assembled.{assembled}
use Rattle.sx_io.specs.Reading.{Answer}
use Rattle.sx_entries.specs.declared.fault.DeployFault.{DeployFault}
use Rattle.sx_sched.specs.Reading.{Assembler}
use Rattle.command_promise.specs.declared.status.Status.TheVariants.{Done, Misused}
use Rattle.command_promise.specs.Head.{Head, Found, TooLong, NoMark, Unread}
use Rattle.sx_deploy.specs.Deployment.{Deployed}
use Rattle.command_head.specs.Meanings.{Meaning}
use Rattle.command_world.specs.WellFormed.{IsGoodInput, IsGoodRun}
use Rattle.command_world.specs.Status.{schedule_status}
use Rattle.command_world.proofs.Stops.{good_zero, not_two}
use Rattle.command_deploy.specs.Afterwards.{head_status}
use Rattle.command_deploy.specs.Output.{found_status}

pub found_zero : (assemble : Assembler) (r : Result Deployed DeployFault) (more : List Answer) → IsGoodRun assemble r more → found_status (schedule_status assemble) r more ≡ Done
found_zero assemble (Ok d) more good = good_zero assemble d more good
found_zero assemble (Err f) more good = absurd good

pub input_zero : (assemble : Assembler) (meaning : Meaning) (h : Head) → IsGoodInput assemble meaning h → head_status (schedule_status assemble) meaning h ≡ Done
input_zero assemble meaning (Found text more) good = found_zero assemble (meaning text) more good
input_zero assemble meaning TooLong good = absurd good
input_zero assemble meaning NoMark good = absurd good
input_zero assemble meaning Unread good = absurd good

pub found_not_two : (r : Result Deployed DeployFault) (more : List Answer) → found_status (schedule_status assembled) r more ≡ Misused → ⊥
found_not_two (Ok d) more e = not_two d more e
found_not_two (Err f) more e = cc e
