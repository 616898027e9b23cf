use Rattle.std.proofs.Common.{◌≡◌, ◌+◌, ◌*◌, ◌++◌, drop, length}
use Rattle.sx_stub.specs.Stub.{cases, open_any}
use Rattle.sx_stub.proofs.keys.put_open_cases.Given as goal

abbrev pub invariant-loop-e : goal.invariant-loop-e
invariant-loop-e l =
    (l.k ≡ l.e-index) × (length l.code.items ≡ length l.initial.code.items + 6 * l.e-index)
    × (l.code.items ++ cases open_any (length l.code.items) l.k (drop l.e-index l.ends) ≡ l.initial.code.items ++ cases open_any (length l.initial.code.items) 0 l.ends)
