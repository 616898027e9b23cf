use Rattle.std.proofs.Common.{◌≡◌, ◌+◌, ℕ, refl, subst, sym}
use Rattle.sx_asm.specs.Assembled.{assembled}
use Rattle.command_promise.specs.Told.{command_at}
use Rattle.command_promise.proofs.Laws.{ends-out-of-memory, prefix-none, told-stop}
use Rattle.sx_deploy.specs.SeenDeployment.{deployed_as}
use Rattle.spec_run.specs.Accepted.{setting}
use Rattle.spec_run.specs.Law.{IsSoundSetting}
use Rattle.spec_run.specs.State.{World}
use Rattle.sx_world.specs.Held.{Held}
use Rattle.sx_world.specs.Standing.{Stands}
use Rattle.command_batch.specs.Output.{Runs, schedules_from}
use Rattle.command_batch.specs.Parts.{HasStood, ReadsOn, next_from}
use Rattle.command_batch.proofs.Giving.{since_wanting}
use Rattle.command_batch.proofs.schedules.run_copy.Goals as goal

pub run_schedule-requires-clause-images : goal.run_schedule-requires-clause-images
run_schedule-requires-clause-images g c =
    let P : Held → Type 0 = λ held. IsSoundSetting (setting g.T.Tag.mac (deployed_as c.args.deployment.now) held.sites) in subst P (sym c.in-Ok.ensures) c.requires.images

pub run_schedule-requires-clause-stood : goal.run_schedule-requires-clause-stood
run_schedule-requires-clause-stood g c =
    let P : Held → Type 0 = λ held. HasStood (setting g.T.Tag.mac (deployed_as c.args.deployment.now) held.sites) held in subst P (sym c.in-Ok.ensures) c.requires.stood

pub run_schedule-requires-clause-counted : goal.run_schedule-requires-clause-counted
run_schedule-requires-clause-counted g c = let P : Held → Type 0 = λ held. held.performed + 1 ≡ c.args.first in subst P (sym c.in-Ok.ensures) c.requires.counted

pub returns-in-Ok-clause-reads : goal.returns-in-Ok-clause-reads
returns-in-Ok-clause-reads g c =
    let d = deployed_as c.args.deployment.now in
    let m1 = command_at (g.S.Source.at c.args.input.now) (g.K.Sink.at c.args.output.now) in
    let m2 = command_at (g.S.Source.at c.run_schedule.new.input) (g.K.Sink.at c.run_schedule.new.output) in
    let P : Held → Type 0 = λ held. (w : World) (count : ℕ) → Stands (setting g.T.Tag.mac d held.sites) held w
    → ReadsOn g.S.Source.tells g.K.Sink.tells c.args.lines.now c.run_schedule.new.lines m1 m2 c.run_schedule.result
    (schedules_from assembled d.names (setting g.T.Tag.mac d held.sites) w c.args.first count (Runs w) c.args.first) (next_from d.names (setting g.T.Tag.mac d held.sites) w c.args.first count) in
    subst P c.in-Ok.ensures c.run_schedule.ensures.reads

pub returns-in-Ok-clause-memory : goal.returns-in-Ok-clause-memory
returns-in-Ok-clause-memory g c = λ six s1 old w. c.run_schedule.ensures.memory six s1 old (since_wanting (deployed_as c.args.deployment.now) w)

pub returns-in-Err-clause-reads : goal.returns-in-Err-clause-reads
returns-in-Err-clause-reads g c = λ w count stands limit m0 defined aside noted b.
    let d = deployed_as c.args.deployment.now in
    let set = setting g.T.Tag.mac d c.args.start.now.sites in
    told-stop b (λ more. ends-out-of-memory _ _ _ (schedules_from assembled d.names set w c.args.first count (Runs w) c.args.first more) (λ t. prefix-none _ _ _ refl) refl)

pub returns-in-Err-clause-memory : goal.returns-in-Err-clause-memory
returns-in-Err-clause-memory g c = λ six s1 old w. w
