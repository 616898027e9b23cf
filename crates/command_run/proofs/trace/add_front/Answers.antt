use Rattle.std.proofs.Common.{rules, ◌≡◌, ◌++◌, subst, Result, Err}
use Rattle.sx_io.specs.declared.outside.Failed.{Failed}
use Rattle.command_text.specs.Batch.{Writes}
use Rattle.command_run.specs.Turns.{front}
use Rattle.command_run.proofs.Fronted.{first_failed, line_added, second_failed}
use Rattle.command_run.proofs.trace.add_front.Goals as goal

pub returns-in_err-add_text-in-Lines : goal.returns-in_err-add_text-in-Lines
returns-in_err-add_text-in-Lines g c =
    let due = c.args.batch.now.items ++ front c.args.shown c.args.said.now in
    let R : Result (Unit {0}) Failed → Type 0 = λ r. Writes g.K.Sink.tells (g.K.Sink.at c.args.output.now) (g.K.Sink.at c.add_text.new.output) due c.add_text.new.batch.items r in
    let same : Err c.in_err-add_text-in-Lines.field-0.0 ≡ c.from_residual.result = search rules in
    subst R same (first_failed c.args.batch.now.items c.args.said.now c.args.shown c.in-Lines.is c.in_err-add_text-in-Lines.ensures)

pub returns-in_err-add_text-in-Lines-2 : goal.returns-in_err-add_text-in-Lines-2
returns-in_err-add_text-in-Lines-2 g c =
    let due = c.args.batch.now.items ++ front c.args.shown c.args.said.now in
    let k2 = g.K.Sink.at c.add_text-in-Lines.new.output in
    let R : Result (Unit {0}) Failed → Type 0 = λ r. Writes g.K.Sink.tells (g.K.Sink.at c.args.output.now) k2 due c.add_text-in-Lines.new.batch.items r in
    let same : Err c.in_err-add_text-in-Lines-2.field-0.0 ≡ c.from_residual-in_err-add_text-in-Lines-2.result = search rules in
    subst R same (second_failed c.args.batch.now.items c.args.said.now c.args.shown c.in-Lines.is c.in_ok-add_text-in-Lines.ensures c.in_err-add_text-in-Lines-2.ensures)

pub returns-in_ok-add_text-in-Lines-2 : goal.returns-in_ok-add_text-in-Lines-2
returns-in_ok-add_text-in-Lines-2 g c =
    line_added c.args.batch.now.items c.args.said.now (g.K.Sink.at c.add_text-in-Lines-2.new.output) c.add_text-in-Lines-2.new.batch.items c.add_text-in-Lines-2.result
    c.args.shown c.in-Lines.is c.in_ok-add_text-in-Lines.ensures c.in_ok-add_text-in-Lines-2.ensures c.add_text-in-Lines-2.ensures
