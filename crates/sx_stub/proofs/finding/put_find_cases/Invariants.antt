use Rattle.std.proofs.Common.{◌≡◌, ◌+◌, ◌*◌, ◌++◌, drop, length}
use Rattle.sx_stub.specs.Stub.{cases, find_any}
use Rattle.sx_stub.proofs.finding.put_find_cases.Given as goal

abbrev pub invariant-loop-e : goal.invariant-loop-e
invariant-loop-e l =
    (l.k ≡ l.e-index) × (length l.code.items ≡ length l.initial.code.items + 4 * l.e-index)
    × (l.code.items ++ cases (find_any l.found) (length l.code.items) l.k (drop l.e-index l.ends) ≡ l.initial.code.items ++ cases (find_any l.found) (length l.initial.code.items) 0 l.ends)
