use Rattle.sx_mean.specs.View.{app_as}
use Rattle.command_explain.proofs.Judged.{judges, judges_none, wanted_unforged}
use Rattle.command_explain.proofs.trace.turn.Goals as goal

pub returns-in-Ok-clause-judges : goal.returns-in-Ok-clause-judges
returns-in-Ok-clause-judges g c = λ items h counted.
    judges (app_as c.args.app.now) items c.args.item.now c.args.number c.in-Ok.said counted (c.in-Ok.ensures.answer items h)
    (c.in-Ok.ensures.follows items h) c.keep_said.ensures.does c.keep_said.ensures.legal

pub returns-in-Ok-clause-memory : goal.returns-in-Ok-clause-memory
returns-in-Ok-clause-memory g c = λ six. absurd (c.keep_said.ensures.memory six)

pub returns-in-Err-clause-judges : goal.returns-in-Err-clause-judges
returns-in-Err-clause-judges g c = λ items h counted. judges_none (app_as c.args.app.now) items c.args.item.now c.finish_wanted.ensures.ends

pub returns-in-Err-clause-memory : goal.returns-in-Err-clause-memory
returns-in-Err-clause-memory g c = λ six. wanted_unforged c.args.judge.now.has_forged c.in-Err.ensures.unjudged

pub returns-in-Ok-clause-wants : goal.returns-in-Ok-clause-wants
returns-in-Ok-clause-wants g c = λ six. absurd (c.keep_said.ensures.memory six)

pub returns-in-Err-clause-wants : goal.returns-in-Err-clause-wants
returns-in-Err-clause-wants g c = λ six. c.in-Err.ensures.memory
