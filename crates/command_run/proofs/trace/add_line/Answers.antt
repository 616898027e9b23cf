use Rattle.std.proofs.Common.{rules, ◌≡◌, ◌++◌, subst, Result, Err}
use Rattle.sx_io.specs.declared.outside.Failed.{Failed}
use Rattle.command_text.specs.Batch.{Writes}
use Rattle.command_run.specs.Turns.{shown_text}
use Rattle.command_run.proofs.Fronted.{front_failed, items_kept}
use Rattle.command_run.proofs.trace.add_line.Goals as goal

pub returns-in_err-add_front : goal.returns-in_err-add_front
returns-in_err-add_front g c =
    let due = c.args.batch.now.items ++ shown_text c.args.shown c.args.names.now (record { text = c.args.said.now; items = c.args.items.now }) in
    let R : Result (Unit {0}) Failed → Type 0 = λ r. Writes g.K.Sink.tells (g.K.Sink.at c.args.output.now) (g.K.Sink.at c.add_front.new.output) due c.add_front.new.batch.items r in
    let same : Err c.in_err-add_front.field-0.0 ≡ c.from_residual.result = search rules in
    subst R same (front_failed c.args.names.now c.args.shown c.args.said.now c.args.items.now c.args.batch.now.items c.in_err-add_front.ensures)

pub returns : goal.returns
returns g c =
    items_kept c.args.names.now c.args.shown c.args.said.now c.args.items.now c.args.batch.now.items (g.K.Sink.at c.add_items.new.output) c.add_items.new.batch.items c.add_items.result
    c.in_ok-add_front.ensures c.add_items.ensures
