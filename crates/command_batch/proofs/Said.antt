-- What follows for `batch` from what it wrote and read.
use Rattle.std.proofs.Common.{◌≡◌, Bool}
use Rattle.sx_asm.specs.Assembled.{assembled}
use Rattle.command_promise.specs.declared.status.Status.{Status}
use Rattle.command_promise.specs.declared.status.Status.TheVariants.{Misused}
use Rattle.command_promise.specs.Told.{CommandAt}
use Rattle.sx_tag.specs.Mac.{Mac, IsTag}
use Rattle.command_deploy.specs.Afterwards.{DeployTold}
use Rattle.command_deploy.proofs.Said.{deploy_not_two, deploy_says}
use Rattle.command_run.proofs.Said.{runs_with}
use Rattle.command_batch.specs.Output.{batch_deployed}
use Rattle.command_batch.specs.Promise.{BatchPromise, batch_may, batch_part}
use Rattle.command_batch.proofs.Owing.{batch_owes}

pub batch_says : {tells to_tell : Bool} {m0 m1 : CommandAt} {status : Status} (mac : Mac) → IsTag mac → DeployTold mac (batch_deployed assembled mac) (batch_may assembled) tells to_tell m0 m1 status
    → BatchPromise assembled mac tells to_tell m0 m1 status
batch_says {tells} {to_tell} {m0} {m1} {status} mac tag told =
    deploy_says {tells = tells} {to_tell = to_tell} {m0 = m0} {m1 = m1} {status = status} mac (batch_part assembled mac) (batch_owes mac)
    (λ deployment texts bytes realize. runs_with mac tag deployment texts realize) told

pub batch_not_two : {tells to_tell : Bool} {m0 m1 : CommandAt} {status : Status} (mac : Mac) → BatchPromise assembled mac tells to_tell m0 m1 status → status ≡ Misused → ⊥
batch_not_two mac says two = deploy_not_two mac (batch_part assembled mac) (batch_owes mac) says two
