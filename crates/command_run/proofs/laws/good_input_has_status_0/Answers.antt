use Rattle.command_promise.specs.Head.{head}
use Rattle.command_deploy.proofs.Good.{input_zero}
use Rattle.command_run.proofs.laws.good_input_has_status_0.Goals as goal

pub returns : goal.returns
returns c = λ assemble meaning answers good. input_zero assemble meaning (head answers) good
