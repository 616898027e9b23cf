-- What the command `run` writes after the head of a deployment, and its exit status: a function
-- of the assembler, of the texts of the modules' images, and of the answers that the lines of its
-- input give.
use Rattle.std.specs.Prelude.{ℕ, List, ◌++◌}
use Rattle.sx_io.specs.Reading.{Answer}
use Rattle.command_promise.specs.declared.status.Status.TheVariants.{Done}
use Rattle.command_promise.specs.Told.{Output, behind, unread_output}
use Rattle.sx_tag.specs.Mac.{Mac}
use Rattle.sx_trace.specs.declared.items.Item.{Item}
use Rattle.sx_trace.specs.Names.{NameLists}
use Rattle.sx_deploy.specs.Deployment.{Deployed}
use Rattle.spec_run.specs.Setting.{Setting}
use Rattle.spec_run.specs.State.{World, switched_on}
use Rattle.spec_run.specs.Accepted.{setting_of}
use Rattle.spec_run.specs.Run.{run}
use Rattle.sx_sched.specs.Reading.{Assembler}
use Rattle.command_text.specs.Output.{trace_line, end_line}
use Rattle.command_world.specs.Schedule.{Stop, AtEnd, Breaks, Schedule, schedule}
use Rattle.command_world.specs.Schedule as sched
use Rattle.command_world.specs.Images.{images_text}
use Rattle.command_world.specs.Items.{items_text}
use Rattle.command_world.specs.Broken.{broken_output}

-- the last line, and the status
abbrev pub stop_output : Stop → Output
stop_output AtEnd = record { text = end_line; status = Done }
stop_output sched.Unread = unread_output
stop_output (Breaks rule number) = broken_output rule number

-- what a schedule writes: the items of the run of its lines, and how it ended
abbrev pub schedule_output : NameLists → Setting → World → Schedule → Output
schedule_output names set w x =
    behind (items_text names (run set w x.lines).items) (stop_output x.stop)

-- what the schedule from the line with this number on writes
unfoldable pub run_from : Assembler → NameLists → Setting → World → ℕ → List Answer → Output
run_from assemble names set w number answers =
    schedule_output names set w (schedule assemble names number answers)

-- what a schedule writes where all is switched on
abbrev pub run_at_start : Assembler → NameLists → Setting → List Answer → Output
run_at_start assemble names set more = run_from assemble names set (switched_on set) 1 more

-- the images, `trace`, and what the schedule writes
abbrev pub run_deployed : Assembler → Mac → Deployed → List (List ℕ) → List Answer → Output
run_deployed assemble mac d texts more =
    behind (images_text d.names.modules texts ++ trace_line)
    (run_at_start assemble d.names (setting_of mac d texts) more)

-- the items of the run of a schedule that these answers are
abbrev pub items_of : Assembler → Mac → Deployed → List (List ℕ) → List Answer → List Item
items_of assemble mac d texts more =
    let set = setting_of mac d texts in
    (run set (switched_on set) (schedule assemble d.names 1 more).lines).items
