use Rattle.law_uses.proofs.Trying.{unwraps_are_tried}
use Rattle.law_uses.proofs.laws.unwraps_are_tried.Goals as goal

pub returns : goal.returns
returns c = unwraps_are_tried
