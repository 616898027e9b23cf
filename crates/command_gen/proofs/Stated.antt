-- The workload is a good input: its deployment is accepted, and its lines keep the rules.
use Rattle.std.proofs.Common.{◌≡◌, ℕ, zero, suc, ◌+◌, ◌≤◌, false, nat_lt, List, refl, sym, subst, arith}
use Rattle.std.specs.Prelude.{Result, Ok, Err, IsOk}
use Rattle.std.proofs.lemmas.Bool.Decides.{nat_tests}
use Rattle.command_promise.specs.declared.status.Status.TheVariants.{Done}
use Rattle.sx_asm.specs.Assembled.{assembled}
use Rattle.sx_trace.specs.Names.{NameLists}
use Rattle.sx_entries.specs.declared.fault.DeployFault.{DeployFault}
use Rattle.sx_deploy.specs.Deployment.{Deployed}
use Rattle.sx_deploy.proofs.Meanings.{one_meaning}
use Rattle.sx_sched.specs.declared.lines.LineError.{LineError}
use Rattle.sx_sched.specs.Lines.{Line}
use Rattle.sx_sched.specs.Reading.{said_line}
use Rattle.sx_bulk.specs.Bulk as bulk
use Rattle.sx_bulk.specs.Laws.{names}
use Rattle.sx_bulk.proofs.Accepts.{accepted}
use Rattle.sx_bulk.proofs.WellFormed as good
use Rattle.command_head.specs.Meanings.{Meaning, IsMeaning}
use Rattle.command_world.specs.Schedule.{judged_line, or_rule}
use Rattle.command_world.specs.WellFormed.{IsWellFormed, IsGoodRun}
use Rattle.command_world.specs.Status.{schedule_status}
use Rattle.command_gen.specs.Promise.{answers_from, workload}
use Rattle.command_deploy.specs.Output.{found_status}
use Rattle.command_deploy.proofs.Good.{found_zero}

said_good : (r : Result Line LineError) → IsOk r → IsOk (or_rule r)
said_good (Ok line) h = h
said_good (Err e) h = absurd (cc)

line_good : (number : ℕ) (text : List ℕ) → number ≤ 65536 → IsOk (said_line assembled names text) → IsOk (judged_line assembled names number text)
unfolding judged_line
line_good number text few h =
    let within : nat_lt 65536 number ≡ false = grind (arith, nat_tests, few) in
    rw within (said_good (said_line assembled names text) h)

lines_good : (more i number : ℕ) → number ≡ i + 1 → i + more ≤ 64026 → IsWellFormed assembled names number (answers_from more i)
lines_good zero i number e h = tt
lines_good (suc more) i number e h = (
  line_good number (bulk.line i) (omega (arith, e, h)) (good.well_formed i (omega (arith, h))),
  lines_good more (i + 1) (number + 1) (omega (arith, e)) (omega (arith, h)),
)

pub well_formed : (n : ℕ) → n ≤ 8000 → IsWellFormed assembled names 1 (workload n)
unfolding workload
well_formed n h = lines_good (bulk.lines n) 0 1 refl (omega (arith, h))

pub is_good : (meaning : Meaning) → IsMeaning meaning → (n : ℕ) → n ≤ 8000 → IsGoodRun assembled (meaning bulk.head) (workload n)
is_good meaning is n h =
    let same : Ok accepted.0 ≡ meaning bulk.head = one_meaning bulk.head (Ok accepted.0) (meaning bulk.head) accepted.1 (is bulk.head) in
    let run : IsGoodRun assembled (Ok accepted.0) (workload n) = subst (λ (names : NameLists). IsWellFormed assembled names 1 (workload n)) (sym accepted.2) (well_formed n h) in
    subst (λ (r : Result Deployed DeployFault). IsGoodRun assembled r (workload n)) same run

-- so its status is 0
pub status_zero : (meaning : Meaning) → IsMeaning meaning → (n : ℕ) → n ≤ 8000 → found_status (schedule_status assembled) (meaning bulk.head) (workload n) ≡ Done
status_zero meaning is n h = found_zero assembled (meaning bulk.head) (workload n) (is_good meaning is n h)
