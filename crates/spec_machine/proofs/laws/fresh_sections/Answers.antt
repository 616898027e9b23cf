use Rattle.spec_machine.proofs.Meanings.{fresh_sections}
use Rattle.spec_machine.proofs.laws.fresh_sections.Goals as goal

pub returns : goal.returns
returns c = fresh_sections
