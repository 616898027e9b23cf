use Rattle.std.proofs.Common.{rules, ◌≡◌, ◌++◌, refl, subst, Result, Err}
use Rattle.sx_io.specs.declared.outside.Failed.{Failed}
use Rattle.command_text.specs.Batch.{Writes}
use Rattle.command_world.specs.Items.{items_text}
use Rattle.command_text.proofs.Batches.{writes_none}
use Rattle.command_world.proofs.ItemLines.{line_added, line_failed, no_line}
use Rattle.command_world.proofs.items.add_items.Goals as goal

pub loop-item-init : goal.loop-item-init
loop-item-init g c = record { writes = writes_none g.K.Sink.tells (g.K.Sink.at c.args.output.now) (c.args.batch.now.items ++ items_text c.args.names.now c.args.items.now) }

pub loop-item-preserved : goal.loop-item-preserved
loop-item-preserved g c =
    record { writes = line_added c.args.names.now c.args.items.now c.loop-item.item-index c.loop-item.batch.items _ c.loop-item-test.true c.loop-item.invariant.writes c.in_ok-add_item.ensures }

pub returns-in_err-add_item : goal.returns-in_err-add_item
returns-in_err-add_item g c =
    let due = c.args.batch.now.items ++ items_text c.args.names.now c.args.items.now in
    let R : Result (Unit {0}) Failed → Type 0 = λ r. Writes g.K.Sink.tells (g.K.Sink.at c.args.output.now) (g.K.Sink.at c.add_item.new.output) due c.add_item.new.batch.items r in
    let same : Err c.in_err-add_item.field-0.0 ≡ c.from_residual.result = search rules in
    subst R same (line_failed c.args.names.now c.args.items.now c.loop-item.item-index c.loop-item.batch.items _ c.loop-item-test.true c.loop-item.invariant.writes c.in_err-add_item.ensures)

pub returns : goal.returns
returns g c =
    no_line c.args.names.now c.args.items.now c.loop-item.item-index c.loop-item.batch.items c.loop-item.batch.items c.loop-item-test.false refl c.loop-item.invariant.writes
