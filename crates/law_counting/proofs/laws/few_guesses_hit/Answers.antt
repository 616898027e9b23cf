use Rattle.law_counting.proofs.Hits.{few_guesses_hit}
use Rattle.law_counting.proofs.laws.few_guesses_hit.Goals as goal

pub returns : goal.returns
returns c = few_guesses_hit
