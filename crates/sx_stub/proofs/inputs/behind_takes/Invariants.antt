use Rattle.std.proofs.Common.{◌≡◌, ◌+◌, ◌*◌, ◌≤◌, drop, length}
use Rattle.sx_lang.specs.View.{module_of}
use Rattle.sx_stub.specs.Stub.{cases, take_receiving}
use Rattle.sx_stub.proofs.inputs.behind_takes.Given as goal

abbrev pub invariant-loop-e : goal.invariant-loop-e
invariant-loop-e l =
    (l.at ≤ l.place + 18 * l.e-index)
    × (l.at + length (cases (take_receiving (module_of l.tree)) l.at l.e-index (drop l.e-index l.ends)) ≡ l.place + length (cases (take_receiving (module_of l.tree)) l.place 0 l.ends))
