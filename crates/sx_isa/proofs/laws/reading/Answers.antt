use Rattle.sx_isa.proofs.Agreement.{reading_found, reading_none}
use Rattle.sx_isa.proofs.laws.reading.Goals as goal

pub returns-clause-found : goal.returns-clause-found
returns-clause-found c = reading_found

pub returns-clause-none : goal.returns-clause-none
returns-clause-none c = reading_none
