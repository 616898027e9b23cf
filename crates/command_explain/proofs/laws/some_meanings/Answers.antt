use Rattle.command_explain.proofs.Found.{are_meant, meant}
use Rattle.command_explain.proofs.laws.some_meanings.Goals as goal

pub returns : goal.returns
returns c = (meant, are_meant)
