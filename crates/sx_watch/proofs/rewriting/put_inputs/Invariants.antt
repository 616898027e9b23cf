use Rattle.std.specs.Prelude.{◌≡◌, ◌++◌, drop}
use Rattle.sx_watch.specs.Parts.{inputs_from}
use Rattle.sx_watch.proofs.rewriting.put_inputs.Given as goal

abbrev pub invariant-loop-head : goal.invariant-loop-head
invariant-loop-head l = (l.number ≡ l.head-index) × (l.list.items ++ inputs_from l.number (drop l.head-index l.heads) ≡ l.fn.list.items ++ inputs_from 0 l.heads)
