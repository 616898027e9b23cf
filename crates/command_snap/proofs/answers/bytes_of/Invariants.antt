use Rattle.std.specs.Prelude.{◌≡◌}
use Rattle.spec_machine.specs.Memory.{bytes_from}
use Rattle.command_snap.proofs.answers.bytes_of.Given as goal

abbrev pub invariant-loop-i : goal.invariant-loop-i
invariant-loop-i g l = l.bytes.items ≡ bytes_from l.node.mem l.from l.i
