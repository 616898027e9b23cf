use Rattle.law_counting.proofs.Mixing.{ciphers_are_random}
use Rattle.law_counting.proofs.laws.ciphers_are_random.Goals as goal

pub returns : goal.returns
returns c = ciphers_are_random
