-- The exit status of `batch`, whatever the images are.
use Rattle.std.specs.Prelude.{ℕ, ◌+◌, ◌==◌, if◌then◌else◌, List, [], ◌∷◌, Result, Ok, Err}
use Rattle.sx_io.specs.Reading.{Answer, Line, End, Long, Fault}
use Rattle.command_promise.specs.declared.status.Status.{Status}
use Rattle.command_promise.specs.declared.status.Status.TheVariants.{Done, Broken, ReadFailed, TooLong}
use Rattle.command_promise.specs.Head.{is_mark}
use Rattle.sx_trace.specs.Names.{NameLists}
use Rattle.sx_sched.specs.Lines as lines
use Rattle.sx_sched.specs.Reading.{Assembler}
use Rattle.sx_deploy.specs.Deployment.{Deployed}
use Rattle.command_world.specs.Schedule.{judged_line}
use Rattle.command_batch.specs.Output.{last_number, most_schedules}

-- from the line with this number on in the schedule of this number; a line that breaks a rule
-- breaks its schedule alone
abbrev pub schedules_status : ℕ → ℕ → ℕ → List Answer → Status
schedules_status first count number [] = Done
schedules_status first count number (End ∷ more) = Done
schedules_status first count number (Long ∷ more) = Broken
schedules_status first count number (Fault ∷ more) = ReadFailed
schedules_status first count number (Line text ∷ more) =
    if is_mark text then
    (if count == most_schedules then TooLong else schedules_status first (count + 1) first more)
    else if number == last_number then TooLong
    else schedules_status first count (number + 1) more

-- of a common line and what follows
abbrev pub or_broken : Result lines.Line ℕ → Status → Status
or_broken (Ok l) rest = rest
or_broken (Err rule) rest = Broken

-- from the common line with this number on
abbrev pub common_status : Assembler → NameLists → ℕ → List Answer → Status
common_status assemble names number [] = Done
common_status assemble names number (End ∷ more) = Done
common_status assemble names number (Long ∷ more) = Broken
common_status assemble names number (Fault ∷ more) = ReadFailed
common_status assemble names number (Line text ∷ more) =
    if is_mark text then schedules_status number 1 number more
    else or_broken (judged_line assemble names number text)
    (common_status assemble names (number + 1) more)

-- the exit status after the head of a deployment
abbrev pub batch_status : Assembler → Deployed → List Answer → Status
batch_status assemble d more = common_status assemble d.names 1 more
