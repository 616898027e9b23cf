use Rattle.std.proofs.Common.{◌∙◌, ◌+◌, ℕ, ◌∷◌, ap, refl, sym, Err}
use Rattle.sx_asm.specs.Assembled.{assembled}
use Rattle.sx_io.specs.Reading.{Line}
use Rattle.command_promise.proofs.Laws.{ends-same, ends-out-of-memory, prefix-none}
use Rattle.sx_sched.specs.Seen.{line_of}
use Rattle.sx_deploy.specs.SeenDeployment.{deployed_as}
use Rattle.spec_run.specs.Accepted.{setting}
use Rattle.command_world.specs.Broken.{broken_output}
use Rattle.command_world.specs.Turning.{after_next}
use Rattle.command_batch.specs.Output.{common_from}
use Rattle.command_batch.proofs.Written.{common_breaks, common_goes}
use Rattle.command_batch.proofs.Replied.{wrote_nothing}
use Rattle.command_batch.proofs.common.turn.Goals as goal

pub returns-in-Ok-act-clause-turns : goal.returns-in-Ok-act-clause-turns
returns-in-Ok-act-clause-turns g c = λ w shows.
    let d = deployed_as c.args.deployment.now in
    let set = setting g.T.Tag.mac d c.args.world.now.sites in
    let line = line_of c.in-Ok.line in
    let acted = c.in-Ok-act.ensures.acted w shows in record {
      next = (after_next set w line).world;
      stands = λ on. acted.0;
      does = wrote_nothing g.K.Sink.tells (g.K.Sink.at c.args.output.now) (λ more. common_from assembled d.names set w c.args.number (Line c.args.said.now ∷ more))
          (common_from assembled d.names set (after_next set w line).world (c.args.number + 1))
          (λ more. common_goes assembled d.names set w c.args.number c.args.said.now more line c.requires.unmarked c.in-Ok.ensures.line);
    }

pub returns-in-Ok-clause-turns : goal.returns-in-Ok-clause-turns
returns-in-Ok-clause-turns g c = λ w shows.
    let d = deployed_as c.args.deployment.now in
    let set = setting g.T.Tag.mac d c.args.world.now.sites in record {
      next = w;
      stands = λ on. absurd (cc on);
      does = λ more. ends-out-of-memory _ _ _ (common_from assembled d.names set w c.args.number (Line c.args.said.now ∷ more)) (λ t. prefix-none _ _ _ refl) refl;
    }

pub returns-in-Err-Fault-clause-turns : goal.returns-in-Err-Fault-clause-turns
returns-in-Err-Fault-clause-turns g c = λ w shows.
    let d = deployed_as c.args.deployment.now in
    let set = setting g.T.Tag.mac d c.args.world.now.sites in
    let rule = c.in-Err-Fault.rule in record {
      next = w;
      stands = λ on. absurd (cc on);
      does = λ more.
          ends-same _ _ _ _ _ _
          (common_breaks assembled d.names set w c.args.number c.args.said.now more rule c.requires.unmarked
          (c.judge_line.ensures.rule rule (c.in-Err-Fault.is ∙ ap Err c.in-Err-Fault.field-0-is))
          ∙ ap (λ (r : ℕ). broken_output r c.args.number) (sym c.in-Err-Fault.rule-is))
          c.break_off.ensures.ends;
    }

pub returns-clause-turns : goal.returns-clause-turns
returns-clause-turns g c = λ w shows.
    let d = deployed_as c.args.deployment.now in
    let set = setting g.T.Tag.mac d c.args.world.now.sites in record {
      next = w;
      stands = λ on. absurd (cc on);
      does = λ more. ends-out-of-memory _ _ _ (common_from assembled d.names set w c.args.number (Line c.args.said.now ∷ more)) (λ t. prefix-none _ _ _ refl) refl;
    }
