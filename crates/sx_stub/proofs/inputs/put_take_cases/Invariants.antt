use Rattle.std.proofs.Common.{◌≡◌, ◌+◌, ◌*◌, ◌≤◌, ◌++◌, drop, length}
use Rattle.sx_lang.specs.View.{module_of}
use Rattle.sx_stub.specs.Stub.{cases, take_receiving}
use Rattle.sx_stub.proofs.inputs.put_take_cases.Given as goal

abbrev pub invariant-loop-e : goal.invariant-loop-e
invariant-loop-e l =
    (l.k ≡ l.e-index) × (length l.code.items ≤ length l.initial.code.items + 18 * l.e-index)
    × (l.code.items ++ cases (take_receiving (module_of l.tree)) (length l.code.items) l.k (drop l.e-index l.ends) ≡ l.initial.code.items ++ cases (take_receiving (module_of l.tree))
    (length l.initial.code.items) 0 l.ends)
