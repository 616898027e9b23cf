use Rattle.std.proofs.Common.{refl}
use Rattle.sx_deployer.proofs.laws.lamp_is_renewed.Goals as goal

pub returns : goal.returns
returns c = record { again = refl; first = refl }
