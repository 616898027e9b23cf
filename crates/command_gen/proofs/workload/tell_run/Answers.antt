use Rattle.std.proofs.Common.{◌∙◌, ℕ, ap, refl, subst, sym, Err}
use Rattle.command_promise.specs.declared.status.Status.TheVariants.{Done}
use Rattle.command_promise.proofs.Laws.{ends-same, ends-out-of-memory, prefix-none}
use Rattle.sx_deploy.specs.SeenDeployment.{deployed_as}
use Rattle.spec_run.specs.Accepted.{setting}
use Rattle.sx_bulk.specs.Bulk as bulk
use Rattle.command_gen.specs.declared.counting.Stopped.{Stopped}
use Rattle.command_gen.specs.Counting.{EndsAs}
use Rattle.command_gen.specs.Counts.{summary}
use Rattle.command_gen.specs.Promise.{gen_run}
use Rattle.command_gen.proofs.Generated.{ends_broken}
use Rattle.command_gen.proofs.workload.tell_run.Goals as goal

pub returns-in-Ok : goal.returns-in-Ok
returns-in-Ok g c =
    ends-same _ _ _ _ _ _
    (c.in-Ok.ensures ∙ ap (λ (k : ℕ). record { text = summary (bulk.lines c.args.samples) c.in-Ok.counts k; status = Done }) (sym c.steps.ensures)) c.tell.ensures

pub returns-in-Err-Broken : goal.returns-in-Err-Broken
returns-in-Err-Broken g c =
    let d = deployed_as c.args.deployment.now in
    let set = setting g.T.Tag.mac d c.args.world.now.sites in
    let P : Stopped → Type 0 = λ e. EndsAs c.args.samples d.names set c.run_workload.new.world.running.steps (Err e) in
    ends-same _ _ _ _ _ _ (subst P c.in-Err-Broken.field-0-is c.in-Err-Broken.ensures)
    (ends_broken c.in-Err-Broken.rule-is c.in-Err-Broken.number-is c.break_off.ensures.ends)

pub returns-in-Err-OutOfMemory : goal.returns-in-Err-OutOfMemory
returns-in-Err-OutOfMemory g c =
    let d = deployed_as c.args.deployment.now in
    ends-out-of-memory _ _ _ (gen_run c.args.samples d.names (setting g.T.Tag.mac d c.args.world.now.sites)) (λ t. prefix-none _ _ _ refl) refl
