use Rattle.std.proofs.Common.{◌≡◌, take}
use Rattle.spec_machine.specs.Memory.{bytes_from}
use Rattle.sx_executor.proofs.executor.Executor.read_bytes.Given as goal

abbrev pub invariant-loop-i : goal.invariant-loop-i
invariant-loop-i g l = take l.i l.into ≡ bytes_from l.self.mem l.at l.i
