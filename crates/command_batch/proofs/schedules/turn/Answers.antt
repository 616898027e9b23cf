use Rattle.std.proofs.Common.{◌≡◌, ◌∙◌, ℕ, List, ◌∷◌, ◌++◌, ap, refl, subst, Err}
use Rattle.sx_asm.specs.Assembled.{assembled}
use Rattle.sx_io.specs.Reading.{Answer, Line}
use Rattle.command_promise.specs.Parts.{DoesPart}
use Rattle.command_promise.specs.Told.{Output, behind, unread_output}
use Rattle.command_promise.specs.declared.turned.Turned.TheVariants as turn
use Rattle.command_promise.proofs.Laws.{ends-out-of-memory, prefix-none}
use Rattle.sx_trace.specs.declared.items.Item.{Item}
use Rattle.sx_sched.specs.Seen.{line_of}
use Rattle.sx_deploy.specs.SeenDeployment.{deployed_as}
use Rattle.spec_run.specs.Accepted.{setting}
use Rattle.command_world.specs.Broken.{broken_line}
use Rattle.command_world.specs.Turning.{after_next}
use Rattle.command_run.proofs.Written.{made_front}
use Rattle.command_batch.specs.Output.{Runs, schedules_from}
use Rattle.command_batch.proofs.Replied.{line_broken, line_stopped, line_told, line_unbroken, line_unwritten, line_wanted}
use Rattle.command_batch.proofs.schedules.turn.Goals as goal

pub returns-in-On-clause-replies : goal.returns-in-On-clause-replies
returns-in-On-clause-replies g c = λ w shows.
    let d = deployed_as c.args.deployment.now in
    let set = setting g.T.Tag.mac d c.args.world.now.sites in
    let line = line_of c.in-Ok.line in
    let next = after_next set w line in
    let acted = c.in-Ok-act.ensures.acted w shows in
    let made : c.deref.result.now ≡ next.items = c.deref.ensures.value ∙ acted.1 ∙ ap (λ (front : List Item). front ++ next.items) c.clear.ensures.items in record {
      next = next.world;
      stands = λ on. acted.0;
      replies = λ start first count.
          line_told d.names set w c.args.number c.args.said.now c.requires.unmarked start first count line c.in-Ok.ensures.line c.in-Ok.ensures.few c.deref.result.now made c.in-On.ensures.does;
    }

pub returns-in-Ok-act-clause-replies : goal.returns-in-Ok-act-clause-replies
returns-in-Ok-act-clause-replies g c = λ w shows.
    let d = deployed_as c.args.deployment.now in
    let set = setting g.T.Tag.mac d c.args.world.now.sites in
    let line = line_of c.in-Ok.line in
    let next = after_next set w line in
    let acted = c.in-Ok-act.ensures.acted w shows in
    let made : c.deref.result.now ≡ next.items = c.deref.ensures.value ∙ acted.1 ∙ ap (λ (front : List Item). front ++ next.items) c.clear.ensures.items in record {
      next = next.world;
      stands = λ on. absurd (cc on);
      replies = λ start first count.
          line_stopped d.names set w c.args.number c.args.said.now c.requires.unmarked start first count line c.in-Ok.ensures.line c.in-Ok.ensures.few c.deref.result.now made c.in-Stop.ensures.does;
    }

pub returns-in-On-put_line-clause-replies : goal.returns-in-On-put_line-clause-replies
returns-in-On-put_line-clause-replies g c = λ w shows.
    let d = deployed_as c.args.deployment.now in
    let set = setting g.T.Tag.mac d c.args.world.now.sites in
    let line = line_of c.in-Ok.line in
    let next = after_next set w line in
    let made = c.deref-in-Err.result.now in
    let front = made_front _ _ made next.items c.clear.ensures.items c.deref-in-Err.ensures.value (c.in-Err.ensures.front w shows) in record {
      next = next.world;
      stands = λ on. absurd (cc on);
      replies = λ start first count.
          line_wanted d.names set w c.args.number c.args.said.now c.requires.unmarked start first count line c.in-Ok.ensures.line c.in-Ok.ensures.few made front
          (c.in-On-put_line.ensures.whole refl) (c.in-On-put_line.ensures.does (λ more. unread_output)).no_fault;
    }

pub returns-in-Ok-clause-replies : goal.returns-in-Ok-clause-replies
returns-in-Ok-clause-replies g c = λ w shows.
    let d = deployed_as c.args.deployment.now in
    let set = setting g.T.Tag.mac d c.args.world.now.sites in
    let line = line_of c.in-Ok.line in
    let next = after_next set w line in
    let made = c.deref-in-Err.result.now in
    let front = made_front _ _ made next.items c.clear.ensures.items c.deref-in-Err.ensures.value (c.in-Err.ensures.front w shows) in record {
      next = next.world;
      stands = λ on. absurd (cc on);
      replies = λ start first count.
          line_unwritten d.names set w c.args.number c.args.said.now c.requires.unmarked start first count line c.in-Ok.ensures.line c.in-Ok.ensures.few made front
          c.in-Stop-put_line.ensures.does;
    }

pub returns-in-On-put_broken-clause-replies : goal.returns-in-On-put_broken-clause-replies
returns-in-On-put_broken-clause-replies g c = λ w shows.
    let d = deployed_as c.args.deployment.now in
    let set = setting g.T.Tag.mac d c.args.world.now.sites in
    let rule = c.in-Err-Fault.rule in
    let P : ℕ → Type 0 = λ r. (left : List Answer → Output) → DoesPart g.K.Sink.tells (g.K.Sink.at c.args.output.now) (g.K.Sink.at c.put_broken.new.output)
    (λ more. behind (broken_line r c.args.number) (left more)) turn.On left in record {
      next = w;
      stands = λ on. absurd (cc on);
      replies = λ start first count.
          line_broken d.names set w c.args.number c.args.said.now c.requires.unmarked start first count rule
          (c.judge_line.ensures.rule rule (c.in-Err-Fault.is ∙ ap Err c.in-Err-Fault.field-0-is)) (subst P c.in-Err-Fault.rule-is c.in-On-put_broken.ensures.does);
    }

pub returns-in-Err-Fault-clause-replies : goal.returns-in-Err-Fault-clause-replies
returns-in-Err-Fault-clause-replies g c = λ w shows.
    let d = deployed_as c.args.deployment.now in
    let set = setting g.T.Tag.mac d c.args.world.now.sites in
    let rule = c.in-Err-Fault.rule in
    let P : ℕ → Type 0 = λ r. (left : List Answer → Output) → DoesPart g.K.Sink.tells (g.K.Sink.at c.args.output.now) (g.K.Sink.at c.put_broken.new.output)
    (λ more. behind (broken_line r c.args.number) (left more)) (turn.Stop c.in-Stop-put_broken.status) left in record {
      next = w;
      stands = λ on. absurd (cc on);
      replies = λ start first count.
          line_unbroken d.names set w c.args.number c.args.said.now c.requires.unmarked start first count rule
          (c.judge_line.ensures.rule rule (c.in-Err-Fault.is ∙ ap Err c.in-Err-Fault.field-0-is)) (subst P c.in-Err-Fault.rule-is c.in-Stop-put_broken.ensures.does);
    }

pub returns-clause-replies : goal.returns-clause-replies
returns-clause-replies g c = λ w shows.
    let d = deployed_as c.args.deployment.now in
    let set = setting g.T.Tag.mac d c.args.world.now.sites in record {
      next = w;
      stands = λ on. absurd (cc on);
      replies = λ start first count more.
          ends-out-of-memory _ _ _ (schedules_from assembled d.names set start first count (Runs w) c.args.number (Line c.args.said.now ∷ more)) (λ t. prefix-none _ _ _ refl) refl;
    }
