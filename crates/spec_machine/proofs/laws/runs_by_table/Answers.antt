use Rattle.spec_machine.proofs.RunsByTable.{runs_by_table}
use Rattle.spec_machine.proofs.laws.runs_by_table.Goals as goal

pub returns : goal.returns
returns c = runs_by_table
