-- What the command `snap` promises, of its streams at its start (m0) and at its end (m1).
use Rattle.std.specs.Prelude.{◌≡◌, Bool}
use Rattle.command_promise.specs.declared.status.Status.{Status}
use Rattle.command_promise.specs.declared.status.Status.TheVariants.{OutOfMemory}
use Rattle.command_promise.specs.Told.{CommandAt}
use Rattle.sx_tag.specs.Mac.{Mac}
use Rattle.command_deploy.specs.Promise.{DeployPromise, OwnPart}
use Rattle.command_snap.specs.Output.{snap_deployed}
use Rattle.command_snap.specs.Status.{snap_status}
use Rattle.command_snap.specs.Wants.{snap_may}

-- what is `snap`'s own after the head; it is cut short only if memory runs out
abbrev pub snap_part : Mac → OwnPart
snap_part mac = record {
  output = snap_deployed mac;
  status = snap_status;
  Cut = λ status. status ≡ OutOfMemory;
  MayWant = snap_may;
  With = λ deployment texts. Unit {0};
}

-- the command `snap`
abbrev pub SnapPromise : Mac → Bool → Bool → CommandAt → CommandAt → Status → Type 0
SnapPromise mac = DeployPromise mac (snap_part mac)
