use Rattle.law_makers.proofs.Timing.{steps_show_no_key}
use Rattle.law_makers.proofs.laws.steps_show_no_key.Goals as goal

pub returns : goal.returns
returns c = steps_show_no_key
