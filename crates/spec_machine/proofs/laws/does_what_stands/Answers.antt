use Rattle.spec_machine.proofs.DoesWhatStands.{does_what_stands}
use Rattle.spec_machine.proofs.laws.does_what_stands.Goals as goal

pub returns : goal.returns
returns c = does_what_stands
