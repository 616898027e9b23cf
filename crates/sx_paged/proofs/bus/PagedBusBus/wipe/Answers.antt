use Rattle.sx_paged.proofs.Joined.{IsMemory-none, AreMemoryBytes-none, joined-none}
use Rattle.sx_paged.proofs.bus.PagedBusBus.wipe.Goals as goal

pub invariant_of-self : goal.invariant_of-self
invariant_of-self c = rw c.wipe.ensures (record { shaped = IsMemory-none; ranged = AreMemoryBytes-none })

pub returns-clause-bytes : goal.returns-clause-bytes
returns-clause-bytes c = rw c.wipe.ensures joined-none
