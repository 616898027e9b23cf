use Rattle.spec_machine.proofs.Meanings.{others_keep_sections}
use Rattle.spec_machine.proofs.laws.others_keep_sections.Goals as goal

pub returns : goal.returns
returns c = others_keep_sections
