use Rattle.std.specs.Prelude.{◌++◌, drop}
use Rattle.command_text.specs.Batch.{WritesUpTo}
use Rattle.command_world.specs.Items.{items_text}
use Rattle.command_world.proofs.items.add_items.Given as goal

-- All was written but the batch and the items that are left.
abbrev pub invariant-loop-item : goal.invariant-loop-item
invariant-loop-item g l = record {
  writes : WritesUpTo g.K.Sink.tells (g.K.Sink.at l.fn.output) (g.K.Sink.at l.output) (l.fn.batch.items ++ items_text l.fn.names l.items)
      (l.batch.items ++ items_text l.fn.names (drop l.item-index l.items));
}
