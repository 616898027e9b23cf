use Rattle.law_makers.proofs.Impostors.{identities_differ}
use Rattle.law_makers.proofs.laws.identities_differ.Goals as goal

pub returns : goal.returns
returns c = identities_differ
