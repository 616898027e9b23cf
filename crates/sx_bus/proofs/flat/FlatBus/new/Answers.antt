use Rattle.std.proofs.Common.{sym, subst, refl}
use Rattle.sx_bus.specs.Memory.{AreMemoryBytes}
use Rattle.sx_bus.proofs.Bytes.{AreMemoryBytes-blank}
use Rattle.sx_bus.proofs.flat.FlatBus.new.Goals as goal

pub invariant_of-result : goal.invariant_of-result
invariant_of-result c = record { ranged = subst AreMemoryBytes (sym c.in_ok-memory.ensures.items) (AreMemoryBytes-blank 65536 refl) }
