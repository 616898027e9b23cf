use Rattle.std.proofs.Common.{◌≡◌, ◌+◌, ◌++◌, drop}
use Rattle.sx_ir.specs.Sizes.{ops_bytes}
use Rattle.sx_tmpl.specs.Text.{places_from}
use Rattle.sx_tmpl.proofs.table.places.Given as goal

abbrev pub invariant-loop-op : goal.invariant-loop-op
invariant-loop-op l =
    (l.places.items ++ places_from l.next (drop l.op-index l.ops) ≡ places_from l.fn.from l.fn.ops)
    × (l.next + ops_bytes (drop l.op-index l.ops) ≡ l.fn.from + ops_bytes l.fn.ops)
