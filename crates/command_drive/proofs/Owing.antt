-- What `drive` owes after the head of a deployment.
use Rattle.std.proofs.Common.{◌≡◌, ◌∙◌, ◌⊎◌, ℕ, ◌+◌, ◌<◌, List, [], ◌∷◌, refl, sym, ap, arith, Result, Ok, Err, inl, inr, Bool, true, false, subst}
use Rattle.std.specs.Prelude.{if◌then◌else◌}
use Rattle.sx_io.specs.Reading.{Answer, Long}
use Rattle.sx_io.specs.Reading as answer
use Rattle.command_promise.specs.declared.status.Status.{Status}
use Rattle.command_promise.specs.declared.status.Status.TheVariants.{ReadFailed, OutOfMemory, TooLong}
use Rattle.command_promise.specs.Status.{status_number}
use Rattle.command_promise.specs.Told.{Output, behind}
use Rattle.command_promise.proofs.Due.{lines_then, EndsUnread, Due, due-behind, behind-ends}
use Rattle.sx_tag.specs.Mac.{Mac}
use Rattle.sx_deploy.specs.Deployment.{Deployed}
use Rattle.sx_deploy.proofs.Sound.{sound}
use Rattle.spec_run.specs.Setting.{Setting}
use Rattle.spec_run.specs.Accepted.{setting_of}
use Rattle.sx_drive.specs.Honest.{Driven, Honest, each, honest_run, reads, setup, start}
use Rattle.sx_drive.specs.Driving.{reading}
use Rattle.command_deploy.proofs.Owing.{Owes, memory_above}
use Rattle.command_world.specs.Images.{images_text}
use Rattle.command_world.specs.Schedule.{Stop, AtEnd, Unread, Breaks}
use Rattle.command_drive.specs.declared.readings.ReadingLine.{ReadingLine}
use Rattle.command_drive.specs.declared.readings.ReadingLine.TheVariants as says
use Rattle.command_drive.specs.declared.readings.ReadingRule.{ReadingRule}
use Rattle.command_drive.specs.Output.{drive_deployed, drive_readings, ended_output, long_output, reading_fault, said_text, stop_output, told_run}
use Rattle.command_drive.specs.Parts.{drive_from, part_output}
use Rattle.command_drive.specs.Promise.{drive_part}
use Rattle.command_drive.specs.Input.{judged_reading, readings_from, rule_number}
use Rattle.command_drive.proofs.Named.{are_there}
use Rattle.command_drive.proofs.Playing.{follows_long, follows_short}
use Rattle.command_drive.proofs.Statuses.{deployed_same, not_zero, not_four, not_two}
use Rattle.command_drive.proofs.Ways.{AreThere}
use Rattle.command_drive.proofs.Written.{drive_blank, drive_breaks, drive_reading, drive_set_up, drive_too_long, drive_unread}

-- ---- where a read failed, its line is the last

stop_ends : (steps : ℕ) (x : Stop) → EndsUnread (stop_output steps x)
stop_ends steps AtEnd e = absurd (cc e)
stop_ends steps Unread e = ([], refl)
stop_ends steps (Breaks rule number) e = absurd (cc e)

ended_ends : (h : Honest) (x : Stop) (b : Bool) → EndsUnread (if b then long_output else stop_output h.world.steps x)
ended_ends h x true e = absurd (cc e)
ended_ends h x false e = stop_ends h.world.steps x e

run_ends : (d : Deployed) (a : Driven) (x : Stop) → EndsUnread (told_run d.names a x)
run_ends d a x e = behind-ends (said_text d.names a.said) (ended_output a.honest x) (ended_ends a.honest x a.honest.long) e

drive_ends : (d : Deployed) (set : Setting) (h : Honest) (number : ℕ) (more : List Answer) → EndsUnread (drive_from d set h number more)
unfolding drive_from
drive_ends d set h number more e =
    let x = readings_from d number more in run_ends d (each (reads set) x.readings h) x.stop e

start_ends : (d : Deployed) (set : Setting) (more : List Answer) → EndsUnread (drive_readings d set more)
unfolding drive_readings
start_ends d set more e =
    let x = readings_from d 1 more in run_ends d (honest_run set x.readings) x.stop e

deployed_ends : (mac : Mac) (d : Deployed) (texts : List (List ℕ)) (more : List Answer) → EndsUnread (drive_deployed mac d texts more)
deployed_ends mac d texts more e =
    behind-ends (images_text d.names.modules texts) (drive_readings d (setting_of mac d texts) more) (start_ends d (setting_of mac d texts) more) e

-- ---- line by line

status_of : (o p : Output) → o ≡ p → o.status ≡ ReadFailed → p.status ≡ ReadFailed
status_of o p e four = ap (λ (x : Output). x.status) (sym e) ∙ four

drive_long : (d : Deployed) (set : Setting) (h : Honest) (number : ℕ) → h.long ≡ false → (drive_from d set h number (Long ∷ [])).status ≡ ReadFailed → ⊥
drive_long d set h number short e =
    let four = status_of (drive_from d set h number (Long ∷ [])) (reading_fault 1 number) (drive_too_long d set h number short) e in cc four

-- a part of the run is due, and what follows where it leads
due_part : (d : Deployed) (a : Driven) (left : Honest → List Answer → Output) (G : List Answer → Output) (ls : List (List ℕ)) (b : Bool) → a.honest.long ≡ b
    → ((more : List Answer) → G more ≡ part_output d.names a left (lines_then ls more)) → (a.honest.long ≡ false → Due (λ more. left a.honest (lines_then ls more))) → Due G
due_part d a left G ls true e same rest =
    inl (behind (said_text d.names a.said) long_output, λ x. cc x, λ more. same more ∙ follows_long d.names a left (lines_then ls more) e)
due_part d a left G ls false e same rest =
    due-behind G (λ more. left a.honest (lines_then ls more)) (said_text d.names a.said) (λ more. same more ∙ follows_short d.names a left (lines_then ls more) e) (rest e)

due_line : (d : Deployed) (set : Setting) (h : Honest) (number : ℕ) (l : List ℕ) (ls : List (List ℕ)) (r : Result ReadingLine ReadingRule) → AreThere d.names set → h.long ≡ false
    → judged_reading d number l ≡ r → ((g : Honest) → g.long ≡ false → Due (λ more. drive_from d set g (number + 1) (lines_then ls more)))
    → Due (λ more. drive_from d set h number (answer.Line l ∷ lines_then ls more))
due_line d set h number l ls (Err rule) there short e f =
    inl (reading_fault (rule_number rule) number, λ x. cc x, λ more. drive_breaks d set h number l rule (lines_then ls more) short e)
due_line d set h number l ls (Ok says.Blank) there short e f =
    due-behind (λ more. drive_from d set h number (answer.Line l ∷ lines_then ls more)) (λ more. drive_from d set h (number + 1) (lines_then ls more)) []
    (λ more. drive_blank d set h number l (lines_then ls more) e) (f h short)
due_line d set h number l ls (Ok (says.Reading device value)) there short e f =
    let a = reading device value set h in
    due_part d a (λ g. drive_from d set g (number + 1)) (λ more. drive_from d set h number (answer.Line l ∷ lines_then ls more)) ls a.honest.long refl
    (λ more. drive_reading d set h number l device value (lines_then ls more) there e) (λ s. f a.honest s)

due_drive : (d : Deployed) (set : Setting) (ls : List (List ℕ)) → AreThere d.names set → (h : Honest) (number : ℕ) → h.long ≡ false
    → Due (λ more. drive_from d set h number (lines_then ls more))
due_drive d set [] there h number short =
    inr (
      [],
      drive_from d set h number,
      λ more. refl,
      drive_unread d set h number short,
      drive_long d set h number short,
      λ more. drive_ends d set h number more,
    )
due_drive d set (l ∷ ls) there h number short =
    due_line d set h number l ls (judged_reading d number l) there short refl (λ g s. due_drive d set ls there g (number + 1) s)

due_start : (d : Deployed) (set : Setting) (ls : List (List ℕ)) → AreThere d.names set → Due (λ more. drive_readings d set (lines_then ls more))
due_start d set ls there =
    let a = setup set (start set) in
    due_part d a (λ g. drive_from d set g 1) (λ more. drive_readings d set (lines_then ls more)) ls a.honest.long refl (λ more. drive_set_up d set (lines_then ls more) there)
    (λ s. due_drive d set ls there a.honest 1 s)

due_deployed : (mac : Mac) (d : Deployed) (texts : List (List ℕ)) (ls : List (List ℕ)) → AreThere d.names (setting_of mac d texts) → Due (λ more. drive_deployed mac d texts (lines_then ls more))
due_deployed mac d texts ls there =
    due-behind (λ more. drive_deployed mac d texts (lines_then ls more)) (λ more. drive_readings d (setting_of mac d texts) (lines_then ls more))
    (images_text d.names.modules texts) (λ more. refl) (due_start d (setting_of mac d texts) ls there)

-- memory ran out, or a line was left out: with a status above 4
cut_above : (n : Status) → status_number n < 5 → (n ≡ OutOfMemory) ⊎ (n ≡ TooLong) → ⊥
cut_above n few (inl six) = memory_above n few six
cut_above n few (inr nine) = let P : Status → Type 0 = λ s. status_number s < 5 in omega (arith, subst P nine few)

pub drive_owes : (mac : Mac) → Owes (drive_part mac)
drive_owes mac = record {
  due = λ text d read texts ls. due_deployed mac d texts ls (are_there d (setting_of mac d texts) (sound text d read) refl);
  ends = λ d texts more. deployed_ends mac d texts more;
  status = λ d texts more. deployed_same mac d texts more;
  starved = inl refl;
  cut = λ n few cut. cut_above n few cut;
  not_zero = λ d answers u. not_zero d answers u;
  not_four = λ d answers u. not_four d answers u;
  not_two = λ d answers. not_two d answers;
}
