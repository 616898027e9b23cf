use Rattle.std.specs.Prelude.{◌++◌, drop}
use Rattle.command_text.specs.Batch.{WritesUpTo}
use Rattle.command_drive.proofs.Telling.{told_text}
use Rattle.command_drive.proofs.saying.put_lines.Given as goal

-- All was written but the batch and the lines that are left.
abbrev pub invariant-loop-one : goal.invariant-loop-one
invariant-loop-one g l = record {
  writes : WritesUpTo g.K.Sink.tells (g.K.Sink.at l.fn.output) (g.K.Sink.at l.output) (told_text l.fn.names l.said)
      (l.batch.items ++ told_text l.fn.names (drop l.one-index l.said));
}
