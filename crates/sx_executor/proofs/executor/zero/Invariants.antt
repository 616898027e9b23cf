use Rattle.std.proofs.Common.{◌≡◌}
use Rattle.spec_machine.specs.Memory.{zeroed}
use Rattle.sx_executor.proofs.executor.zero.Given as goal

abbrev pub invariant-loop-i : goal.invariant-loop-i
invariant-loop-i g l = g.B.Bus.bytes l.bus ≡ zeroed (g.B.Bus.bytes l.fn.bus) l.buffer.at l.i
