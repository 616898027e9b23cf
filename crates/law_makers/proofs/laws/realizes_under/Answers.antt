use Rattle.law_makers.proofs.NamedSound.{realizes_under}
use Rattle.law_makers.proofs.laws.realizes_under.Goals as goal

pub returns : goal.returns
returns c = realizes_under
