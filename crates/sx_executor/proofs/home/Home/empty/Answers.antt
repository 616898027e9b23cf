use Rattle.sx_executor.proofs.Homes.{empty}
use Rattle.sx_executor.proofs.home.Home.empty.Goals as goal

pub returns : goal.returns
returns c = λ live. empty live
