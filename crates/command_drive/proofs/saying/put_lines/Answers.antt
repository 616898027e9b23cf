use Rattle.std.proofs.Common.{rules, ◌≡◌, ◌++◌, ℕ, List, [], length, refl, subst, sym, Result, Err}
use Rattle.std.proofs.lemmas.Option.{slice_get_read}
use Rattle.sx_io.specs.declared.outside.Failed.{Failed}
use Rattle.command_text.specs.Batch.{Writes, WritesUpTo}
use Rattle.command_text.proofs.Batches.{writes_none, writes_put, writes_then}
use Rattle.command_drive.proofs.Named.{named_at}
use Rattle.command_drive.proofs.Telling.{line_added, line_failed, no_line, told_text}
use Rattle.command_drive.proofs.saying.put_lines.Goals as goal

pub loop-one-init : goal.loop-one-init
loop-one-init g c =
    let k = g.K.Sink.at c.args.output.now in
    let due = told_text c.args.names.now c.args.said.now in
    let P : List ℕ → Type 0 = λ t. WritesUpTo g.K.Sink.tells k k due (t ++ due) in
    record { writes = subst P (sym c.new-batch.ensures) (writes_none g.K.Sink.tells k due) }

pub add_said-requires-clause-named : goal.add_said-requires-clause-named
add_said-requires-clause-named g c =
    let said = c.args.said.now in
    let i = c.loop-one.one-index in
    named_at c.args.names.now said i c.one-item.result c.requires.named (slice_get_read said (length said) i c.one-item.result refl c.loop-one-test.true c.one-item.is)

pub loop-one-preserved : goal.loop-one-preserved
loop-one-preserved g c =
    record {
      writes = line_added c.args.names.now c.args.said.now c.loop-one.one-index c.loop-one.batch.items c.one-item.result c.loop-one-test.true c.one-item.is
          c.loop-one.invariant.writes c.in_ok-add_said.ensures;
    }

pub returns-in_err-add_said : goal.returns-in_err-add_said
returns-in_err-add_said g c =
    let due = told_text c.args.names.now c.args.said.now in
    let R : Result (Unit {0}) Failed → Type 0 = λ r. Writes g.K.Sink.tells (g.K.Sink.at c.args.output.now) (g.K.Sink.at c.add_said.new.output) due [] r in
    let same : Err c.in_err-add_said.field-0.0 ≡ c.from_residual.result = search rules in
    subst R same (line_failed c.args.names.now c.args.said.now c.loop-one.one-index c.loop-one.batch.items c.one-item.result c.loop-one-test.true c.one-item.is
    c.loop-one.invariant.writes c.in_err-add_said.ensures)

pub returns : goal.returns
returns g c =
    let e = c.put_all.ensures in
    let text = c.as_slice.result.now in
    writes_then (g.K.Sink.at c.put_all.new.sink) [] c.put_all.result
    (no_line c.args.names.now c.args.said.now c.loop-one.one-index c.loop-one.batch.items text c.loop-one-test.false c.as_slice.ensures.value c.loop-one.invariant.writes)
    (writes_put g.K.Sink.tells (g.K.Sink.at c.loop-one.output) (g.K.Sink.at c.put_all.new.sink) text c.put_all.result e.ok e.failed e.faultless e.fault)
