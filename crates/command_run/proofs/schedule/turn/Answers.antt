use Rattle.std.proofs.Common.{◌≡◌, ◌∙◌, ℕ, List, ◌∷◌, ◌++◌, ap, refl, sym, Err}
use Rattle.sx_io.specs.Reading.{Line}
use Rattle.command_promise.specs.Told.{behind}
use Rattle.command_promise.proofs.Laws.{ends-same}
use Rattle.sx_trace.specs.declared.items.Item.{Item}
use Rattle.sx_sched.specs.Seen.{line_of}
use Rattle.sx_deploy.specs.SeenDeployment.{deployed_as}
use Rattle.spec_run.specs.Accepted.{setting}
use Rattle.command_world.specs.Broken.{broken_output}
use Rattle.command_world.specs.Turning.{after_next}
use Rattle.command_run.specs.Turns.{shown_from}
use Rattle.command_run.proofs.Written.{line_breaks, line_cut, line_kept, made_front}
use Rattle.command_run.proofs.schedule.turn.Goals as goal

pub returns-in-Ok-act-clause-turns : goal.returns-in-Ok-act-clause-turns
returns-in-Ok-act-clause-turns g c = λ w shows.
    let d = deployed_as c.args.deployment.now in
    let set = setting g.T.Tag.mac d c.args.world.now.sites in
    let line = line_of c.in-Ok.line in
    let next = after_next set w line in
    let acted = c.in-Ok-act.ensures.acted w shows in
    let made : c.deref.result.now ≡ next.items = c.deref.ensures.value ∙ acted.1 ∙ ap (λ (front : List Item). front ++ next.items) c.clear.ensures.items in record {
      next = next.world;
      stands = λ on. acted.0;
      does = line_kept c.args.shown d.names set w c.args.number c.args.said.now g.K.Sink.tells (g.K.Sink.at c.args.output.now) (g.K.Sink.at c.keep_line.new.output)
          c.args.kept.now.items c.keep_line.new.kept.items c.keep_line.result line c.deref.result.now c.in-Ok.ensures.line made c.keep_line.ensures.does;
    }

pub returns-in-Ok-clause-turns : goal.returns-in-Ok-clause-turns
returns-in-Ok-clause-turns g c = λ w shows.
    let d = deployed_as c.args.deployment.now in
    let set = setting g.T.Tag.mac d c.args.world.now.sites in
    let line = line_of c.in-Ok.line in
    let next = after_next set w line in
    let made = c.deref-in-Err.result.now in
    let front = made_front _ _ made next.items c.clear.ensures.items c.deref-in-Err.ensures.value (c.in-Err.ensures.front w shows) in record {
      next = next.world;
      stands = λ on. absurd (cc on);
      does = line_cut c.args.shown d.names set w c.args.number c.args.said.now c.args.kept.now.items line made c.in-Ok.ensures.line front c.finish_line.ensures.ends;
    }

pub returns-in-Err-Fault-clause-turns : goal.returns-in-Err-Fault-clause-turns
returns-in-Err-Fault-clause-turns g c = λ w shows.
    let d = deployed_as c.args.deployment.now in
    let set = setting g.T.Tag.mac d c.args.world.now.sites in
    let rule = c.in-Err-Fault.rule in record {
      next = w;
      stands = λ on. absurd (cc on);
      does = λ more.
          ends-same _ _ _ _ _ _
          (ap (behind c.args.kept.now.items)
          (line_breaks c.args.shown d.names set w c.args.number c.args.said.now rule more (c.judge_line.ensures.rule rule (c.in-Err-Fault.is ∙ ap Err c.in-Err-Fault.field-0-is))
          ∙ ap (λ (r : ℕ). broken_output r c.args.number) (sym c.in-Err-Fault.rule-is)))
          c.break_kept.ensures.ends;
    }

pub returns-clause-turns : goal.returns-clause-turns
returns-clause-turns g c = λ w shows.
    let d = deployed_as c.args.deployment.now in
    let set = setting g.T.Tag.mac d c.args.world.now.sites in record {
      next = w;
      stands = λ on. absurd (cc on);
      does = λ more. c.finish_wanted.ensures.ends (shown_from c.args.shown d.names set w c.args.number (Line c.args.said.now ∷ more));
    }
