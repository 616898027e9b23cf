use Rattle.std.proofs.Common.{◌≡◌, ◌+◌, drop}
use Rattle.spec_machine.specs.Memory.{put_bytes}
use Rattle.sx_executor.proofs.executor.Executor.write_each.Given as goal

-- the bytes that are left, from the next address on, complete what was to be written
abbrev pub invariant-loop-i : goal.invariant-loop-i
invariant-loop-i g l =
    (put_bytes l.self.mem (l.at + l.i) (drop l.i l.bytes) ≡ put_bytes l.fn.self.mem l.at l.bytes)
    × (l.self ≡ record l.fn.self { mem = l.self.mem })
