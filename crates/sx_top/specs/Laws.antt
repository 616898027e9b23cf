-- What the commands that deploy have in common, and what `run` makes of the lines of `drive`.
use Rattle.std.specs.Prelude.{ℕ, ◌≡◌, List, ◌++◌, Option}
use Rattle.sx_io.specs.Reading.{Answer}
use Rattle.command_promise.specs.declared.status.Status.TheVariants.{Done}
use Rattle.command_promise.specs.Told.{behind}
use Rattle.sx_asm.specs.Assembled.{assembled}
use Rattle.sx_tag.specs.Mac.{Mac}
use Rattle.sx_deploy.specs.Deployment.{Deployed}
use Rattle.spec_run.specs.Setting.{Setting}
use Rattle.command_text.specs.Output.{trace_line, end_line}
use Rattle.command_head.specs.Begun.{ReadsAs}
use Rattle.command_world.specs.Images.{images_text}
use Rattle.command_world.specs.Items.{items_text}
use Rattle.command_deploy.specs.Same.{RunsIn}
use Rattle.command_run.specs.Output.{run_deployed}
use Rattle.command_run.specs.Promise.{run_part}
use Rattle.command_run.specs.Tells.{lines_part}
use Rattle.command_batch.specs.Promise.{batch_part}
use Rattle.command_drive.specs.Output.{driven_of}
use Rattle.command_drive.specs.Promise.{DrivesWith, drive_part, items_said, lines_in, written}
use Rattle.command_snap.specs.Promise.{snap_part}

-- Each deployment has one setting: `run`, `drive`, `snap`, `lines` and `batch` run it in this, in
-- each call.
abbrev pub OneSetting : Type 0
OneSetting = (mac : Mac) (d : Deployed) → (set : Setting)
    × RunsIn mac (run_part assembled mac) d set
    × RunsIn mac (drive_part mac) d set
    × RunsIn mac (snap_part mac) d set
    × RunsIn mac (lines_part assembled mac) d set
    × RunsIn mac (batch_part assembled mac) d set

-- With the same deployment and the same images, `run` writes of the lines that `drive` says exactly
-- the items that `drive` says, and reads to the end.
abbrev pub LinesRunAgain : Type 0
LinesRunAgain = (mac : Mac) (deployment : Option (List ℕ)) (texts : List (List ℕ))
    → DrivesWith mac deployment texts
    → (d : Deployed) → ReadsAs deployment d → (readings : List Answer)
    → let said = (driven_of mac d texts readings).said in
    run_deployed assembled mac d texts (written d.names (lines_in said))
    ≡ behind (images_text d.names.modules texts ++ trace_line)
    (record {
      text = items_text d.names (items_said mac d texts readings) ++ end_line;
      status = Done;
    })
