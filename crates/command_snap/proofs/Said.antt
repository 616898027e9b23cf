-- What follows for `snap` from what it wrote and read.
use Rattle.std.proofs.Common.{◌≡◌, Bool}
use Rattle.command_promise.specs.declared.status.Status.{Status}
use Rattle.command_promise.specs.declared.status.Status.TheVariants.{Misused}
use Rattle.command_promise.specs.Told.{CommandAt}
use Rattle.sx_tag.specs.Mac.{Mac}
use Rattle.command_deploy.specs.Afterwards.{DeployTold}
use Rattle.command_deploy.proofs.Said.{deploy_not_two, deploy_says}
use Rattle.command_snap.specs.Output.{snap_deployed}
use Rattle.command_snap.specs.Promise.{SnapPromise, snap_part}
use Rattle.command_snap.specs.Wants.{snap_may}
use Rattle.command_snap.proofs.Owing.{snap_owes}

pub snap_says : {tells to_tell : Bool} {m0 m1 : CommandAt} {status : Status} (mac : Mac) → DeployTold mac (snap_deployed mac) snap_may tells to_tell m0 m1 status → SnapPromise mac tells to_tell m0 m1 status
snap_says {tells} {to_tell} {m0} {m1} {status} mac told =
    deploy_says {tells = tells} {to_tell = to_tell} {m0 = m0} {m1 = m1} {status = status} mac (snap_part mac) (snap_owes mac) (λ deployment texts bytes realize. tt) told

pub says_not_two : {tells to_tell : Bool} {m0 m1 : CommandAt} {status : Status} (mac : Mac) → SnapPromise mac tells to_tell m0 m1 status → status ≡ Misused → ⊥
says_not_two mac says two = deploy_not_two mac (snap_part mac) (snap_owes mac) says two
