use Rattle.std.proofs.Common.{◌≡◌, ◌++◌, drop, take}
use Rattle.sx_span.specs.Narrow.{limit_local}
use Rattle.sx_span.proofs.narrowing.limit_local.Given as goal

abbrev pub invariant-loop-i : goal.invariant-loop-i
invariant-loop-i l = (l.locals ≡ l.fn.locals) × (limit_local l.fn.locals l.x l.range ≡ take l.i l.fn.locals ++ limit_local (drop l.i l.fn.locals) l.x l.range)
