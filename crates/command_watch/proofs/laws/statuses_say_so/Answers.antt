use Rattle.command_promise.specs.Head.{head}
use Rattle.command_watch.proofs.Statuses.{head_twelve, head_zero}
use Rattle.command_watch.proofs.laws.statuses_say_so.Goals as goal

pub returns : goal.returns
returns c = λ means answers. record { kept = head_zero means (head answers); broken = head_twelve means (head answers) }
