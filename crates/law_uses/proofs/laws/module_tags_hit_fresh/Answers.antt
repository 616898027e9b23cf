use Rattle.law_uses.proofs.Hit.{module_tags_hit_fresh}
use Rattle.law_uses.proofs.laws.module_tags_hit_fresh.Goals as goal

pub returns : goal.returns
returns c = module_tags_hit_fresh
