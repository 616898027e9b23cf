use Rattle.law_isolation.proofs.Guarding.{scripts_guarded}
use Rattle.law_isolation.proofs.laws.scripts_guarded.Goals as goal

pub returns : goal.returns
returns c = scripts_guarded
