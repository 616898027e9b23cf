use Rattle.std.proofs.Common.{rules, ◌≡◌, ◌++◌, List, ap, subst, Result, Err}
use Rattle.sx_trace.specs.declared.items.Item.{Item}
use Rattle.sx_io.specs.declared.outside.Failed.{Failed}
use Rattle.sx_drive.specs.Driving.{said_of}
use Rattle.command_text.specs.Batch.{Writes}
use Rattle.command_world.specs.Items.{items_text}
use Rattle.command_drive.specs.Output.{said_text}
use Rattle.command_drive.proofs.Telling.{said_added, said_failed}
use Rattle.command_drive.proofs.saying.add_said.Goals as goal

pub add_line-requires-clause-named : goal.add_line-requires-clause-named
add_line-requires-clause-named g c = c.requires.named.0

pub returns-in_err-add_line : goal.returns-in_err-add_line
returns-in_err-add_line g c =
    let due = c.args.batch.now.items ++ said_text c.args.names.now (said_of c.args.said.now) in
    let R : Result (Unit {0}) Failed → Type 0 = λ r. Writes g.K.Sink.tells (g.K.Sink.at c.args.output.now) (g.K.Sink.at c.add_line.new.output) due c.add_line.new.batch.items r in
    let same : Err c.in_err-add_line.field-0.0 ≡ c.from_residual.result = search rules in
    subst R same (said_failed c.args.names.now c.args.batch.now.items c.args.said.now c.in_err-add_line.ensures)

pub returns : goal.returns
returns g c =
    said_added (g.K.Sink.at c.add_items.new.output) c.args.names.now c.args.batch.now.items c.args.said.now (items_text c.args.names.now c.deref.result.now) c.add_items.new.batch.items
    c.add_items.result (ap (λ (items : List Item). items_text c.args.names.now items) c.deref.ensures.value) c.in_ok-add_line.ensures c.add_items.ensures
