use Rattle.law_makers.proofs.NamedSound.{named_is_sound}
use Rattle.law_makers.proofs.laws.named_is_sound.Goals as goal

pub returns : goal.returns
returns c = named_is_sound
