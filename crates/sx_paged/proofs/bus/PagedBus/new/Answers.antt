use Rattle.sx_paged.proofs.Joined.{IsMemory-none, AreMemoryBytes-none, joined-none}
use Rattle.sx_paged.proofs.bus.PagedBus.new.Goals as goal

pub invariant_of-result : goal.invariant_of-result
invariant_of-result c = rw c.in_ok-pages.ensures (record { shaped = IsMemory-none; ranged = AreMemoryBytes-none })

pub returns-clause-bytes : goal.returns-clause-bytes
returns-clause-bytes c = rw c.in_ok-pages.ensures joined-none
