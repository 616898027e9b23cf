use Rattle.sx_isa.proofs.Agreement.{length_found, length_illegal, length_read}
use Rattle.sx_isa.proofs.laws.lengths.Goals as goal

pub returns-clause-found : goal.returns-clause-found
returns-clause-found c = length_found

pub returns-clause-none : goal.returns-clause-none
returns-clause-none c = length_illegal

pub returns-clause-read : goal.returns-clause-read
returns-clause-read c = length_read
