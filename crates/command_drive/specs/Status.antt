-- The exit status of `drive`, whatever the images are, if no line was left out of its run.
use Rattle.std.specs.Prelude.{List}
use Rattle.command_promise.specs.declared.status.Status.{Status}
use Rattle.sx_io.specs.Reading.{Answer}
use Rattle.sx_deploy.specs.Deployment.{Deployed}
use Rattle.command_world.specs.Status.{stop_status}
use Rattle.command_drive.specs.Input.{readings_from}

-- the exit status after the head of a deployment
abbrev pub drive_status : Deployed → List Answer → Status
drive_status d more = stop_status (readings_from d 1 more).stop
