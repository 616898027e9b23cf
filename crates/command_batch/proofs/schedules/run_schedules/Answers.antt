use Rattle.std.proofs.Common.{◌+◌, ap, arith, refl, sym}
use Rattle.sx_asm.specs.Assembled.{assembled}
use Rattle.command_promise.specs.declared.turned.Turned.TheVariants.{Stop}
use Rattle.command_promise.proofs.Laws.{begun-same, ends-same, told-stop}
use Rattle.sx_deploy.specs.SeenDeployment.{deployed_as}
use Rattle.spec_run.specs.Accepted.{setting}
use Rattle.command_batch.specs.Output.{Runs, schedules_from}
use Rattle.command_batch.specs.Parts.{next_from}
use Rattle.command_batch.proofs.Giving.{since_wanting}
use Rattle.command_batch.proofs.Written.{next_ends, next_goes}
use Rattle.command_batch.proofs.schedules.run_schedules.Goals as goal

pub schedules-init : goal.schedules-init
schedules-init g c =
    let d = deployed_as c.args.deployment.now in
    let set = setting g.T.Tag.mac d c.args.start.now.sites in record {
      few = omega arith;
      answered = record {
        begun = λ w stands limit m0 defined aside noted b. begun-same (next_from d.names set w c.args.first 0) (λ more. sym (next_goes d.names set w c.args.first 0 more (omega arith))) b;
        keeps = λ s1 old w. w;
      };
    }

pub returns-in-Stop-clause-rest : goal.returns-in-Stop-clause-rest
returns-in-Stop-clause-rest g c = λ w stands limit m0 defined aside noted b.
    let d = deployed_as c.args.deployment.now in
    let set = setting g.T.Tag.mac d c.args.start.now.sites in
    let first = c.args.first in
    let count = c.schedules.count in
    c.in-Stop.ensures.reads w (count + 1) stands limit m0 defined aside noted
    (begun-same (schedules_from assembled d.names set w first (count + 1) (Runs w) first) (λ more. next_goes d.names set w first count more (omega (arith, c.schedules-test.true)))
    (c.schedules.invariant.answered.begun w stands limit m0 defined aside noted b))

pub returns-in-Stop-clause-memory : goal.returns-in-Stop-clause-memory
returns-in-Stop-clause-memory g c = λ six s1 old w. c.in-Stop.ensures.memory (ap Stop six) s1 old (c.schedules.invariant.answered.keeps s1 old w)

pub schedules-preserved : goal.schedules-preserved
schedules-preserved g c =
    let d = deployed_as c.args.deployment.now in
    let set = setting g.T.Tag.mac d c.args.start.now.sites in
    let first = c.args.first in
    let count = c.schedules.count in record {
      few = omega (arith, c.schedules-test.true);
      answered = record {
        begun = λ w stands limit m0 defined aside noted b.
            c.in-On.ensures.reads w (count + 1) stands limit m0 defined aside noted
            (begun-same (schedules_from assembled d.names set w first (count + 1) (Runs w) first) (λ more. next_goes d.names set w first count more (omega (arith, c.schedules-test.true)))
            (c.schedules.invariant.answered.begun w stands limit m0 defined aside noted b));
        keeps = λ s1 old w. c.in-On.ensures.marked refl s1 old (since_wanting d (c.schedules.invariant.answered.keeps s1 old w));
      };
    }

pub returns-clause-rest : goal.returns-clause-rest
returns-clause-rest g c = λ w stands limit m0 defined aside noted b.
    let d = deployed_as c.args.deployment.now in
    let set = setting g.T.Tag.mac d c.args.start.now.sites in
    told-stop (c.schedules.invariant.answered.begun w stands limit m0 defined aside noted b)
    (λ more. ends-same _ _ _ _ _ _ (next_ends d.names set w c.args.first c.schedules.count more (omega (arith, c.schedules.invariant.few, c.schedules-test.false))) c.end_long.ensures.ends)

pub returns-clause-memory : goal.returns-clause-memory
returns-clause-memory g c = λ six. absurd (c.end_long.ensures.memory six)
