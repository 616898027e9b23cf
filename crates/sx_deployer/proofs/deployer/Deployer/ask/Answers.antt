use Rattle.std.proofs.Common.{refl}
use Rattle.sx_deployer.proofs.deployer.Deployer.ask.Goals as goal

pub returns-clause-state : goal.returns-clause-state
returns-clause-state g c =
    rw (← c.self.view_is, c.from-2.ensures, c.write_ask-packet.ensures, c.to_le_bytes.ensures, c.from.ensures) refl
