use Rattle.sx_executor.proofs.Deep.{empty}
use Rattle.sx_executor.proofs.home.Deep.empty.Goals as goal

pub returns : goal.returns
returns c = λ live places. empty live places
