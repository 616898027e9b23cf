-- The status of `drive` is that of the input, whatever the images are, unless a line was left out.
use Rattle.std.proofs.Common.{◌≡◌, inl, inr, ℕ, ◌+◌, Bool, true, false, List, [], ◌∷◌, refl, Result, Ok, Err}
use Rattle.std.specs.Prelude.{if◌then◌else◌}
use Rattle.sx_io.specs.Reading.{Answer, End, Long, Fault}
use Rattle.sx_io.specs.Reading as answer
use Rattle.command_promise.specs.declared.status.Status.{Status}
use Rattle.command_promise.specs.declared.status.Status.TheVariants.{Done, Misused, Broken, ReadFailed}
use Rattle.command_promise.proofs.Endings.{Unfinished, Faultless}
use Rattle.sx_tag.specs.Mac.{Mac}
use Rattle.sx_deploy.specs.Deployment.{Deployed}
use Rattle.spec_run.specs.Accepted.{setting_of}
use Rattle.sx_drive.specs.Honest.{Honest, honest_run}
use Rattle.command_world.specs.Schedule.{Stop, AtEnd, Unread, Breaks}
use Rattle.command_world.specs.Status.{stop_status}
use Rattle.command_world.proofs.Stops.{stop_not_two}
use Rattle.command_deploy.proofs.Owing.{CutOr}
use Rattle.command_drive.specs.declared.readings.ReadingLine.{ReadingLine}
use Rattle.command_drive.specs.declared.readings.ReadingLine.TheVariants as says
use Rattle.command_drive.specs.declared.readings.ReadingRule.{ReadingRule}
use Rattle.command_drive.specs.Output.{drive_deployed, drive_readings, long_output, stop_output}
use Rattle.command_drive.specs.Promise.{drive_part}
use Rattle.command_drive.specs.Input.{Readings, judged_reading, on_line, readings_from}
use Rattle.command_drive.specs.Status.{drive_status}

pub stop_same : (steps : ℕ) (x : Stop) → (stop_output steps x).status ≡ stop_status x
stop_same steps AtEnd = refl
stop_same steps Unread = refl
stop_same steps (Breaks rule number) = refl

ended_same : (mac : Mac) (h : Honest) (x : Stop) (b : Bool) → CutOr (drive_part mac) (if b then long_output else stop_output h.world.steps x).status (stop_status x)
ended_same mac h x true = inl (inr refl)
ended_same mac h x false = inr (stop_same h.world.steps x)

-- the status of the readings, or a line was left out
pub deployed_same : (mac : Mac) (d : Deployed) (texts : List (List ℕ)) (more : List Answer) → CutOr (drive_part mac) (drive_deployed mac d texts more).status (drive_status d more)
unfolding drive_readings
deployed_same mac d texts more =
    let x = readings_from d 1 more in
    let h = (honest_run (setting_of mac d texts) x.readings).honest in ended_same mac h x.stop h.long

-- ---- statuses that answers of a kind don't give

line_not : (n : Status) (number : ℕ) (r : Result ReadingLine ReadingRule) (rest : Readings) → (Broken ≡ n → ⊥) → (stop_status rest.stop ≡ n → ⊥) → stop_status (on_line number r rest).stop ≡ n → ⊥
line_not n number (Err rule) rest three h e = three e
line_not n number (Ok says.Blank) rest three h e = h e
line_not n number (Ok (says.Reading device value)) rest three h e = h e

-- answers that no end of the input ends don't give status 0
readings_not_zero : (d : Deployed) (number : ℕ) (answers : List Answer) → Unfinished answers → stop_status (readings_from d number answers).stop ≡ Done → ⊥
readings_not_zero d number [] u e = u
readings_not_zero d number (End ∷ more) u e = u
readings_not_zero d number (Long ∷ more) u e = cc e
readings_not_zero d number (Fault ∷ more) u e = cc e
readings_not_zero d number (answer.Line text ∷ more) u e =
    line_not Done number (judged_reading d number text) (readings_from d (number + 1) more) (λ x. cc x) (readings_not_zero d (number + 1) more u) e

pub not_zero : (d : Deployed) (answers : List Answer) → Unfinished answers → drive_status d answers ≡ Done → ⊥
not_zero d answers u e = readings_not_zero d 1 answers u e

-- answers without a read that failed don't give status 4
readings_not_four : (d : Deployed) (number : ℕ) (answers : List Answer) → Faultless answers → stop_status (readings_from d number answers).stop ≡ ReadFailed → ⊥
readings_not_four d number [] u e = cc e
readings_not_four d number (End ∷ more) u e = cc e
readings_not_four d number (Long ∷ more) u e = cc e
readings_not_four d number (Fault ∷ more) u e = u
readings_not_four d number (answer.Line text ∷ more) u e =
    line_not ReadFailed number (judged_reading d number text) (readings_from d (number + 1) more) (λ x. cc x) (readings_not_four d (number + 1) more u) e

pub not_four : (d : Deployed) (answers : List Answer) → Faultless answers → drive_status d answers ≡ ReadFailed → ⊥
not_four d answers u e = readings_not_four d 1 answers u e

-- no answers give status 2
pub not_two : (d : Deployed) (answers : List Answer) → drive_status d answers ≡ Misused → ⊥
not_two d answers e = stop_not_two (readings_from d 1 answers).stop e
