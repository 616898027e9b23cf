use Rattle.std.proofs.Common.{◌≡◌, drop, length}
use Rattle.sx_tmpl.specs.Fits.{none_noted, with_notes}
use Rattle.sx_tmpl.proofs.table.noted_ends.Given as goal

abbrev pub invariant-loop-op : goal.invariant-loop-op
invariant-loop-op l = (length l.noted.items ≡ 256) × (with_notes (drop l.op-index l.ops) l.noted.items ≡ with_notes l.fn.ops (none_noted 256))
