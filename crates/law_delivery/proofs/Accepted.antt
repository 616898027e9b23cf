-- From an accepted text on: it has room, and its modules' numbers are words.
use Rattle.sx_deploy.proofs.Sound.{sound}
use Rattle.spec_run.specs.Accepted.{setting_of}
use Rattle.spec_run.proofs.accepted.Settled.{lawfully}
use Rattle.law_setup.proofs.Accepting.{has_room}
use Rattle.law_delivery.specs.Laws.{AcceptedRunDelivers}
use Rattle.law_delivery.proofs.Joined.{honest_run_delivers}

pub accepted_run_delivers : AcceptedRunDelivers
accepted_run_delivers text d h mac texts tag images rs c honest low =
    honest_run_delivers (setting_of mac d texts) rs c (lawfully mac d texts (sound text d h) images tag) (has_room text d h mac texts images.bytes)
    (λ m q there. ((sound text d h).modules m q there).words) honest low
