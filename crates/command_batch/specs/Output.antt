-- What the command `batch` writes after the head of a deployment: a function of the assembler, of
-- the texts of the modules' images, and of the answers that the lines of its input give.
use Rattle.std.specs.Prelude.{ℕ, ◌+◌, ◌==◌, if◌then◌else◌, List, [], ◌∷◌, codes, Result, Ok, Err}
use Rattle.sx_io.specs.Reading.{Answer, End, Long, Fault}
use Rattle.sx_io.specs.Reading as answer
use Rattle.command_promise.specs.declared.status.Status.TheVariants.{Done, TooLong}
use Rattle.command_promise.specs.Head.{is_mark}
use Rattle.command_promise.specs.Told.{Output, behind, unread_output}
use Rattle.sx_tag.specs.Mac.{Mac}
use Rattle.sx_trace.specs.Names.{NameLists}
use Rattle.sx_sched.specs.Lines.{Line}
use Rattle.sx_sched.specs.Reading.{Assembler}
use Rattle.sx_deploy.specs.Deployment.{Deployed}
use Rattle.spec_run.specs.Setting.{Setting}
use Rattle.spec_run.specs.State.{World, switched_on}
use Rattle.spec_run.specs.Accepted.{setting_of}
use Rattle.command_text.specs.Output.{line, end_line}
use Rattle.command_world.specs.Broken.{broken_line, broken_output}
use Rattle.command_world.specs.Items.{items_text}
use Rattle.command_world.specs.Schedule.{judged_line}
use Rattle.command_world.specs.Turning.{after_next}

-- so many schedules are answered
abbrev pub most_schedules : ℕ
most_schedules = 65536

-- lines up to this number are passed over
abbrev pub last_number : ℕ
last_number = 4294967295

-- the line that says that there are too many of them
unfoldable pub long_line : List ℕ
long_line = line (codes "fault batch long")

-- status 9: there are too many schedules, or too many lines are to be passed over
abbrev pub long_output : Output
long_output = record { text = long_line; status = TooLong }

-- the state of a schedule between two lines: it came to this world, or one of its lines broke a
-- rule, and the others are passed over
pub data Standing : Type 0 where
  Runs : World → Standing
  Passes : Standing

-- the last line of a schedule that is run to its end
abbrev pub last_text : Standing → List ℕ
last_text (Runs w) = end_line
last_text Passes = []

-- what a line of a schedule writes, and the state of the schedule after it
pub record Reply : Type 0 where
  pub text : List ℕ
  pub standing : Standing

-- a line with this number, or the rule that it breaks
abbrev pub reply : NameLists → Setting → Standing → ℕ → Result Line ℕ → Reply
reply names set (Runs w) number (Ok l) =
    let a = after_next set w l in
    record { text = items_text names a.items; standing = Runs a.world }
reply names set (Runs w) number (Err rule) =
    record { text = broken_line rule number; standing = Passes }
reply names set Passes number r = record { text = []; standing = Passes }

-- What is written from the line with this number on, in the schedule of this number. Each schedule
-- begins in the same world, with the same number.
unfoldable pub schedules_from : Assembler → NameLists → Setting → World → ℕ → ℕ → Standing → ℕ
    → List Answer → Output
schedules_from assemble names set start first count s number [] =
    record { text = last_text s; status = Done }
schedules_from assemble names set start first count s number (End ∷ more) =
    record { text = last_text s; status = Done }
schedules_from assemble names set start first count s number (Long ∷ more) = broken_output 1 number
schedules_from assemble names set start first count s number (Fault ∷ more) = unread_output
schedules_from assemble names set start first count s number (answer.Line text ∷ more) =
    if is_mark text then
    behind (last_text s) (if count == most_schedules then long_output
    else schedules_from assemble names set start first (count + 1) (Runs start) first more)
    else
    let h = reply names set s number (judged_line assemble names number text) in
    behind h.text (if number == last_number then long_output
    else schedules_from assemble names set start first count h.standing (number + 1) more)

-- a common line is performed before what follows, or it breaks a rule
abbrev pub on_common : ℕ → Result Line ℕ → (Line → Output) → Output
on_common number (Err rule) rest = broken_output rule number
on_common number (Ok l) rest = rest l

-- what is written from the common line with this number on
unfoldable pub common_from : Assembler → NameLists → Setting → World → ℕ → List Answer → Output
common_from assemble names set w number [] = record { text = end_line; status = Done }
common_from assemble names set w number (End ∷ more) = record { text = end_line; status = Done }
common_from assemble names set w number (Long ∷ more) = broken_output 1 number
common_from assemble names set w number (Fault ∷ more) = unread_output
common_from assemble names set w number (answer.Line text ∷ more) =
    if is_mark text then schedules_from assemble names set w number 1 (Runs w) number more
    else on_common number (judged_line assemble names number text)
    (λ l. common_from assemble names set (after_next set w l).world (number + 1) more)

-- what is written after the head of a deployment, where all is switched on
abbrev pub batch_deployed : Assembler → Mac → Deployed → List (List ℕ) → List Answer → Output
batch_deployed assemble mac d texts more =
    let set = setting_of mac d texts in
    common_from assemble d.names set (switched_on set) 1 more
