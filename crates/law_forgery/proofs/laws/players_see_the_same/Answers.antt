use Rattle.law_forgery.proofs.Scripts.{players_see_the_same}
use Rattle.law_forgery.proofs.laws.players_see_the_same.Goals as goal

pub returns : goal.returns
returns c = players_see_the_same
