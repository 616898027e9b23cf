use Rattle.sx_asm.proofs.Listings.{relists_line, relists_listing}
use Rattle.sx_asm.proofs.laws.relists.Goals as goal

pub returns-clause-line : goal.returns-clause-line
returns-clause-line c = relists_line

pub returns-clause-listing : goal.returns-clause-listing
returns-clause-listing c = relists_listing
