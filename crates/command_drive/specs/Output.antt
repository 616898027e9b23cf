-- What the command `drive` writes after the head of a deployment, and its exit status: a function
-- of the texts of the modules' images, and of the answers that the lines of its input give.
use Rattle.std.specs.Prelude.{ℕ, if◌then◌else◌, List, ◌++◌, flat_map, codes, decimal}
use Rattle.sx_io.specs.Reading.{Answer}
use Rattle.command_promise.specs.declared.status.Status.TheVariants.{Done, Broken, TooLong}
use Rattle.command_promise.specs.Told.{Output, behind, unread_output}
use Rattle.sx_tag.specs.Mac.{Mac}
use Rattle.sx_trace.specs.Items.{item_text}
use Rattle.sx_trace.specs.Names.{NameLists}
use Rattle.sx_sched.specs.Written.{line_text}
use Rattle.sx_deploy.specs.Deployment.{Deployed}
use Rattle.spec_run.specs.Setting.{Setting}
use Rattle.spec_run.specs.Accepted.{setting_of}
use Rattle.sx_drive.specs.Honest.{Driven, Honest, Said, SaidItem, SaidLine, honest_run}
use Rattle.command_text.specs.Output.{line, end_line}
use Rattle.command_text.specs.Refusals.{fault_output}
use Rattle.command_world.specs.Images.{images_text}
use Rattle.command_world.specs.Schedule.{Stop, AtEnd, Unread, Breaks}
use Rattle.command_drive.specs.Input.{readings_from}

-- a line of the schedule comes after `> `, an item as a run writes it
unfoldable pub said_line : NameLists → Said → List ℕ
said_line names (SaidLine l) = line (codes "> " ++ line_text names l)
said_line names (SaidItem i) = line (item_text names i)

-- all that an honest run says
abbrev pub said_text : NameLists → List Said → List ℕ
said_text names said = flat_map (said_line names) said

-- how many steps of nodes there were, and that this is the end
unfoldable pub steps_text : ℕ → List ℕ
steps_text steps = line (codes "steps " ++ decimal steps) ++ end_line

-- the line of a run for which a schedule has no room
unfoldable pub long_line : List ℕ
long_line = line (codes "fault drive long")

-- status 9: a line was due for which a schedule has no room
abbrev pub long_output : Output
long_output = record { text = long_line; status = TooLong }

-- status 3: this line is the first that breaks a rule, and this is the first rule that it breaks
abbrev pub reading_fault : ℕ → ℕ → Output
reading_fault rule number = fault_output (codes "fault reading Q") rule number Broken

-- what is written at the end of the readings, after so many steps of nodes
abbrev pub stop_output : ℕ → Stop → Output
stop_output steps AtEnd = record { text = steps_text steps; status = Done }
stop_output steps Unread = unread_output
stop_output steps (Breaks rule number) = reading_fault rule number

-- what is written after a run that came here; what has no room ends it
abbrev pub ended_output : Honest → Stop → Output
ended_output h stop = if h.long then long_output else stop_output h.world.steps stop

-- all that a run says, and how it ended
abbrev pub told_run : NameLists → Driven → Stop → Output
told_run names a stop = behind (said_text names a.said) (ended_output a.honest stop)

-- what is written of the honest run of the readings, from power-on
unfoldable pub drive_readings : Deployed → Setting → List Answer → Output
drive_readings d set answers =
    let x = readings_from d 1 answers in told_run d.names (honest_run set x.readings) x.stop

-- the images, and the honest run with them
abbrev pub drive_deployed : Mac → Deployed → List (List ℕ) → List Answer → Output
drive_deployed mac d texts more =
    behind (images_text d.names.modules texts) (drive_readings d (setting_of mac d texts) more)

-- the honest run of the readings that these answers are
abbrev pub driven_of : Mac → Deployed → List (List ℕ) → List Answer → Driven
driven_of mac d texts more =
    honest_run (setting_of mac d texts) (readings_from d 1 more).readings
