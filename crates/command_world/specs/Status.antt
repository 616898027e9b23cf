-- The exit status of a schedule, whatever the images are.
use Rattle.std.specs.Prelude.{List}
use Rattle.sx_io.specs.Reading.{Answer}
use Rattle.command_promise.specs.declared.status.Status.{Status}
use Rattle.command_promise.specs.declared.status.Status.TheVariants.{Done, Broken, ReadFailed}
use Rattle.sx_sched.specs.Reading.{Assembler}
use Rattle.sx_deploy.specs.Deployment.{Deployed}
use Rattle.command_world.specs.Schedule.{Stop, AtEnd, Breaks, schedule}
use Rattle.command_world.specs.Schedule as sched

-- the exit status by where a schedule stops
abbrev pub stop_status : Stop → Status
stop_status AtEnd = Done
stop_status sched.Unread = ReadFailed
stop_status (Breaks rule number) = Broken

-- the exit status after the head of a deployment
abbrev pub schedule_status : Assembler → Deployed → List Answer → Status
schedule_status assemble d more = stop_status (schedule assemble d.names 1 more).stop
