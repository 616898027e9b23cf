use Rattle.command_run.proofs.Listed.{lines_give_items}
use Rattle.command_run.proofs.laws.lines_give_items.Goals as goal

pub returns : goal.returns
returns c = lines_give_items
