-- What the command `drive` promises, of its streams at its start (m0) and at its end (m1).
use Rattle.std.specs.Prelude.{ℕ, ◌+◌, ◌≡◌, ◌≤◌, ◌⊎◌, Bool, false, if◌then◌else◌, List, [], ◌∷◌}
use Rattle.std.specs.Prelude.{◌++◌, length, map, Option}
use Rattle.sx_io.specs.Reading.{Answer, End}
use Rattle.sx_io.specs.Reading as answer
use Rattle.command_promise.specs.declared.status.Status.{Status}
use Rattle.command_promise.specs.declared.status.Status.TheVariants.{OutOfMemory, TooLong}
use Rattle.command_promise.specs.Told.{CommandAt}
use Rattle.sx_tag.specs.Mac.{Mac}
use Rattle.sx_asm.specs.Assembled.{assembled}
use Rattle.sx_trace.specs.declared.items.Item.{Item}
use Rattle.sx_trace.specs.Names.{NameLists}
use Rattle.sx_sched.specs.Lines.{Line}
use Rattle.sx_sched.specs.Written.{line_text}
use Rattle.sx_deploy.specs.Deployment.{Deployed}
use Rattle.spec_run.specs.Setting.{Setting}
use Rattle.spec_run.specs.State.{switched_on}
use Rattle.spec_run.specs.Accepted.{setting_of}
use Rattle.spec_run.specs.Run.{run}
use Rattle.law_isolation.specs.Guarded.{GuardedRun}
use Rattle.sx_mean.specs.Application.{AppTree}
use Rattle.spec_honest.specs.Course.{Course, IsHonest}
use Rattle.spec_honest.specs.Delivers.{Delivers}
use Rattle.sx_drive.specs.Honest.{Driven, Reading, Said, SaidItem, SaidLine}
use Rattle.law_honest.specs.Samplings.{items_of, samplings_of, told}
use Rattle.command_world.specs.Schedule.{AtEnd, schedule}
use Rattle.command_head.specs.Begun.{ReadsAs}
use Rattle.command_deploy.specs.Promise.{DeployPromise, OwnPart}
use Rattle.command_drive.specs.Output.{drive_deployed, driven_of}
use Rattle.command_drive.specs.Input.{MayRunOut, judged_reading, readings_from}
use Rattle.command_drive.specs.Status.{drive_status}

-- the lines of the schedule that were said
abbrev pub lines_in : List Said → List Line
lines_in [] = []
lines_in (SaidLine line ∷ said) = line ∷ lines_in said
lines_in (SaidItem i ∷ said) = lines_in said

-- The run of the lines that were said, from power-on, shows the items that were said, those of each
-- line after it (`told`); and in it each thing that happens leaves each private section alone.
pub record IsTheRun (set : Setting) (a : Driven) : Type 0 where
  pub items : items_of a.said ≡ (run set (switched_on set) (lines_in a.said)).items
  pub steps : a.honest.world.steps ≡ (run set (switched_on set) (lines_in a.said)).world.steps
  pub guarded : GuardedRun set (lines_in a.said)
  pub told : a.said ≡ told set (switched_on set) (lines_in a.said)

-- the answers of an input of these lines, as they are written
abbrev pub written : NameLists → List Line → List Answer
written names lines = map (λ line. answer.Line (line_text names line)) lines ++ End ∷ []

-- The lines are a whole schedule: their texts, read as `run` reads them, are these lines.
pub record AreRead (names : NameLists) (lines : List Line) : Type 0 where
  pub few : length lines ≤ 65536
  pub replays : schedule assembled names 1 (written names lines)
      ≡ record { lines = lines; stop = AtEnd }

-- What was said is what the source alone predicts of these readings; so it delivers: each item is
-- allowed, nothing is forged, each value that was sent was taken once and in order, and the outputs
-- are those of the handlers alone.
pub record IsPredicted (app : AppTree) (readings : List Reading) (a : Driven) : Type 0 where
  pub course : Course
  pub honest : IsHonest app (samplings_of readings) course
  pub items : items_of a.said ≡ course.items
  pub delivers : Delivers app (samplings_of readings) (items_of a.said)

-- Whatever the readings are, the lines that are written are run with these images as `run` runs
-- them, and that run is guarded (`ran`); they are a schedule that `run` reads as the same lines
-- (`replays`). If no line was left out, its items are those that the source alone predicts, and
-- every event that was sent was delivered (`delivered`). None is left out if the course of the
-- readings has at most 65,536 lines (`room`), and the status is 9 exactly where one was (`status`).
pub record DrivesWith (mac : Mac) (deployment : Option (List ℕ)) (texts : List (List ℕ)) : Type
    0 where
  pub ran : (d : Deployed) → ReadsAs deployment d → (readings : List Answer)
      → IsTheRun (setting_of mac d texts) (driven_of mac d texts readings)
  pub replays : (d : Deployed) → ReadsAs deployment d → (readings : List Answer)
      → AreRead d.names (lines_in (driven_of mac d texts readings).said)
  pub delivered : (d : Deployed) → ReadsAs deployment d → (readings : List Answer)
      → (driven_of mac d texts readings).honest.long ≡ false
      → IsPredicted d.app (readings_from d 1 readings).readings (driven_of mac d texts readings)
  pub room : (d : Deployed) → ReadsAs deployment d → (readings : List Answer) → (c : Course)
      → IsHonest d.app (samplings_of (readings_from d 1 readings).readings) c
      → (driven_of mac d texts readings).honest.long ≡ false
  pub status : (d : Deployed) → ReadsAs deployment d → (readings : List Answer)
      → (drive_deployed mac d texts readings).status
      ≡ (if (driven_of mac d texts readings).honest.long then TooLong else drive_status d readings)

-- the items that are said with these images
abbrev pub items_said : Mac → Deployed → List (List ℕ) → List Answer → List Item
items_said mac d texts readings = items_of (driven_of mac d texts readings).said

-- memory may run out at this line of readings, after these
abbrev pub drive_may : Deployed → List Answer → List ℕ → Type 0
drive_may d earlier text = MayRunOut (judged_reading d (length earlier + 1) text)

-- what is `drive`'s own after the head; it is cut short if memory runs out, or if a line was
-- left out
abbrev pub drive_part : Mac → OwnPart
drive_part mac = record {
  output = drive_deployed mac;
  status = drive_status;
  Cut = λ status. (status ≡ OutOfMemory) ⊎ (status ≡ TooLong);
  MayWant = drive_may;
  With = DrivesWith mac;
}

-- the command `drive`
abbrev pub DrivePromise : Mac → Bool → Bool → CommandAt → CommandAt → Status → Type 0
DrivePromise mac = DeployPromise mac (drive_part mac)
