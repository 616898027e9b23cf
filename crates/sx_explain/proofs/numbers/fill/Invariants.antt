use Rattle.std.proofs.Common.{◌≡◌, length}
use Rattle.sx_explain.specs.Filling.{full}
use Rattle.sx_explain.proofs.numbers.fill.Given as goal

-- the numbers so far
abbrev pub invariant-loop-at : goal.invariant-loop-at
invariant-loop-at l =
    (full l.number l.count l.numbers.items ≡ full l.number l.count l.initial.numbers.items) × (length l.numbers.items ≡ l._at)
