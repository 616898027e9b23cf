use Rattle.command_run.proofs.Listed.{each_gives_its_items}
use Rattle.command_run.proofs.laws.each_gives_its_items.Goals as goal

pub returns : goal.returns
returns c = each_gives_its_items
