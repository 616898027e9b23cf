use Rattle.std.proofs.Common.{[], ap}
use Rattle.command_promise.specs.declared.turned.Turned.TheVariants.{Stop}
use Rattle.command_text.specs.Output.{end_line}
use Rattle.command_snap.specs.Output.{ended_output}
use Rattle.command_snap.proofs.Written.{put_and_end}
use Rattle.command_snap.proofs.schedule.answer_none.Goals as goal

pub returns-in-Stop-clause-ends : goal.returns-in-Stop-clause-ends
returns-in-Stop-clause-ends g c = c.in-Stop.ensures.does (λ more. ended_output) []

pub returns-in-Stop-clause-memory : goal.returns-in-Stop-clause-memory
returns-in-Stop-clause-memory g c = λ six. c.in-Stop.ensures.memory (ap Stop six)

pub returns-in-On-clause-ends : goal.returns-in-On-clause-ends
unfolding end_line
returns-in-On-clause-ends g c = put_and_end _ _ _ _ _ _ ended_output (c.in-On.ensures.does (λ more. ended_output)) c.finish.ensures.ends

pub returns-in-On-clause-memory : goal.returns-in-On-clause-memory
returns-in-On-clause-memory g c = λ six. cc (six, c.finish.ensures.status (λ five. cc (six, five)))
