use Rattle.sx_top.proofs.Again.{lines_run_again}
use Rattle.sx_top.proofs.laws.lines_run_again.Goals as goal

pub returns : goal.returns
returns c = lines_run_again
