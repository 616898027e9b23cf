use Rattle.law_forgery.proofs.Tabling.{tags_tabled}
use Rattle.law_forgery.proofs.laws.tags_tabled.Goals as goal

pub returns : goal.returns
returns c = tags_tabled
