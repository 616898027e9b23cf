use Rattle.std.proofs.Common.{◌≡◌, true}
use Rattle.sx_executor.specs.Machine.{reaches}
use Rattle.sx_executor.proofs.executor.Executor.may_range.Given as goal

abbrev pub invariant-loop-i : goal.invariant-loop-i
invariant-loop-i g l = reaches l.self l.access l.buffer.at l.i ≡ true
