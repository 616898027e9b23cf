use Rattle.spec_machine.proofs.RunGuard.{acts_guarded}
use Rattle.spec_machine.proofs.laws.acts_guarded.Goals as goal

pub returns : goal.returns
returns c = acts_guarded
