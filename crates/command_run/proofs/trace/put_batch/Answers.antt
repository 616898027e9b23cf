use Rattle.std.proofs.Common.{rules, ◌≡◌, [], subst, Result, Err}
use Rattle.sx_io.specs.declared.outside.Failed.{Failed}
use Rattle.command_text.specs.Batch.{Writes}
use Rattle.command_text.proofs.Batches.{writes_batch, writes_put, writes_then}
use Rattle.command_run.specs.Turns.{shown_text}
use Rattle.command_run.proofs.Fronted.{items_added, items_failed}
use Rattle.command_run.proofs.trace.put_batch.Goals as goal

pub returns-in_err-add_items : goal.returns-in_err-add_items
returns-in_err-add_items g c =
    let due = shown_text c.args.shown c.args.names.now (record { text = c.args.said.now; items = c.args.items.now }) in
    let R : Result (Unit {0}) Failed → Type 0 = λ r. Writes g.K.Sink.tells (g.K.Sink.at c.args.output.now) (g.K.Sink.at c.add_items.new.output) due [] r in
    let same : Err c.in_err-add_items.field-0.0 ≡ c.from_residual-in_err-add_items.result = search rules in
    subst R same (items_failed c.args.names.now c.args.shown c.args.said.now c.args.items.now c.new-batch.result.items c.new-batch.ensures c.in_ok-add_front.ensures c.in_err-add_items.ensures)

pub returns : goal.returns
returns g c =
    let e = c.put_all.ensures in
    let text = c.as_slice.result.now in
    let k1 = g.K.Sink.at c.add_items.new.output in
    let k2 = g.K.Sink.at c.put_all.new.sink in
    writes_then k2 [] c.put_all.result
    (writes_batch c.new-batch.result.items c.add_items.new.batch.items text c.new-batch.ensures c.as_slice.ensures.value
    (items_added c.args.names.now c.args.shown c.args.said.now c.args.items.now c.new-batch.result.items c.in_ok-add_front.ensures c.in_ok-add_items.ensures))
    (writes_put g.K.Sink.tells k1 k2 text c.put_all.result e.ok e.failed e.faultless e.fault)
