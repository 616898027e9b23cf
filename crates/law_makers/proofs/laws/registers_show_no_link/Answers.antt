use Rattle.law_makers.proofs.Timing.{registers_show_no_link}
use Rattle.law_makers.proofs.laws.registers_show_no_link.Goals as goal

pub returns : goal.returns
returns c = registers_show_no_link
