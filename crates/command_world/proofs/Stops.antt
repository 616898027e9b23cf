-- The status of a schedule, whatever the images are.
use Rattle.std.proofs.Common.{◌≡◌, ℕ, ◌+◌, List, [], ◌∷◌, refl, Result, Ok, Err, IsOk}
use Rattle.sx_asm.specs.Assembled.{assembled}
use Rattle.sx_io.specs.Reading.{Answer, Line, End, Long, Fault}
use Rattle.command_promise.specs.declared.status.Status.{Status}
use Rattle.command_promise.specs.declared.status.Status.TheVariants.{Done, Misused, Broken, ReadFailed}
use Rattle.command_promise.proofs.Endings.{Unfinished, Faultless}
use Rattle.sx_trace.specs.Names.{NameLists}
use Rattle.sx_sched.specs.Lines as lines
use Rattle.sx_sched.specs.Reading.{Assembler}
use Rattle.sx_deploy.specs.Deployment.{Deployed}
use Rattle.command_world.specs.Schedule.{Stop, AtEnd, Breaks, Schedule, judged_line, on_line, schedule}
use Rattle.command_world.specs.Schedule as sched
use Rattle.command_world.specs.WellFormed.{IsWellFormed}
use Rattle.command_world.specs.Status.{schedule_status, stop_status}

line_zero : (number : ℕ) (r : Result lines.Line ℕ) (rest : Schedule) → IsOk r → stop_status rest.stop ≡ Done → stop_status (on_line number r rest).stop ≡ Done
line_zero number (Ok line) rest good h = h
line_zero number (Err rule) rest good h = absurd (cc good)

schedule_zero : (assemble : Assembler) (names : NameLists) (number : ℕ) (answers : List Answer) → IsWellFormed assemble names number answers
    → stop_status (schedule assemble names number answers).stop ≡ Done
schedule_zero assemble names number [] good = absurd good
schedule_zero assemble names number (End ∷ more) good = refl
schedule_zero assemble names number (Long ∷ more) good = absurd good
schedule_zero assemble names number (Fault ∷ more) good = absurd good
schedule_zero assemble names number (Line text ∷ more) good =
    line_zero number (judged_line assemble names number text) (schedule assemble names (number + 1) more) good.0 (schedule_zero assemble names (number + 1) more good.1)

pub good_zero : (assemble : Assembler) (d : Deployed) (answers : List Answer) → IsWellFormed assemble d.names 1 answers → schedule_status assemble d answers ≡ Done
good_zero assemble d answers good = schedule_zero assemble d.names 1 answers good

line_not : (number : ℕ) (n : Status) (r : Result lines.Line ℕ) (rest : Schedule) → (Broken ≡ n → ⊥) → (stop_status rest.stop ≡ n → ⊥) → stop_status (on_line number r rest).stop ≡ n → ⊥
line_not number n (Err rule) rest three h e = three e
line_not number n (Ok line) rest three h e = h e

-- answers that no end of the input ends don't give status 0
schedule_not_zero : (names : NameLists) (number : ℕ) (answers : List Answer) → Unfinished answers → stop_status (schedule assembled names number answers).stop ≡ Done → ⊥
schedule_not_zero names number [] u e = u
schedule_not_zero names number (End ∷ more) u e = u
schedule_not_zero names number (Long ∷ more) u e = cc e
schedule_not_zero names number (Fault ∷ more) u e = cc e
schedule_not_zero names number (Line text ∷ more) u e =
    line_not number Done (judged_line assembled names number text) (schedule assembled names (number + 1) more) (λ x. cc x) (schedule_not_zero names (number + 1) more u) e

pub not_zero : (d : Deployed) (answers : List Answer) → Unfinished answers → schedule_status assembled d answers ≡ Done → ⊥
not_zero d answers u e = schedule_not_zero d.names 1 answers u e

-- answers without a read that failed don't give status 4
schedule_not_four : (names : NameLists) (number : ℕ) (answers : List Answer) → Faultless answers → stop_status (schedule assembled names number answers).stop ≡ ReadFailed → ⊥
schedule_not_four names number [] u e = cc e
schedule_not_four names number (End ∷ more) u e = cc e
schedule_not_four names number (Long ∷ more) u e = cc e
schedule_not_four names number (Fault ∷ more) u e = u
schedule_not_four names number (Line text ∷ more) u e =
    line_not number ReadFailed (judged_line assembled names number text) (schedule assembled names (number + 1) more) (λ x. cc x) (schedule_not_four names (number + 1) more u) e

pub not_four : (d : Deployed) (answers : List Answer) → Faultless answers → schedule_status assembled d answers ≡ ReadFailed → ⊥
not_four d answers u e = schedule_not_four d.names 1 answers u e

-- no answers give status 2
pub stop_not_two : (x : Stop) → stop_status x ≡ Misused → ⊥
stop_not_two AtEnd e = cc e
stop_not_two sched.Unread e = cc e
stop_not_two (Breaks rule number) e = cc e

pub not_two : (d : Deployed) (answers : List Answer) → schedule_status assembled d answers ≡ Misused → ⊥
not_two d answers e = stop_not_two (schedule assembled d.names 1 answers).stop e
