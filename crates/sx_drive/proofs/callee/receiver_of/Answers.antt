use Rattle.std.proofs.Common.{refl}
use Rattle.std.specs.Prelude.{option_map}
use Rattle.sx_deploy.specs.SeenDeployment.{deployed_as}
use Rattle.sx_drive.specs.Driving.{callee_of}
use Rattle.sx_drive.proofs.Callees.{packet_there, no_packet, lent_there, lent_none}
use Rattle.sx_drive.proofs.callee.receiver_of.Goals as goal

pub returns-in-Some-clause-found : goal.returns-in-Some-clause-found
returns-in-Some-clause-found c =
    packet_there (deployed_as c.args.deployment.now).app c.args.packet.now c.in-Some.link.now (option_map callee_of c.target_of.result) (lent_there
    c.args.packet.now c.args.packet.now 2 2 c.in-Some.link.now refl refl c.in-Some.ensures.lookup.3.0 c.in-Some.ensures.lookup.1) c.target_of.ensures.found

pub returns-in-None-clause-found : goal.returns-in-None-clause-found
returns-in-None-clause-found c =
    no_packet (deployed_as c.args.deployment.now).app c.args.packet.now (lent_none c.args.packet.now c.args.packet.now 2 2 refl refl c.in-None.ensures.lookup.3)
