use Rattle.std.proofs.Common.{arith}
use Rattle.sx_paged.proofs.Joined.{IsMemory-put, AreMemoryBytes-put, joined-put}
use Rattle.sx_paged.proofs.bus.PagedBusBus.put.Goals as goal

pub invariant_of-self : goal.invariant_of-self
invariant_of-self c =
    let old = c.args.self.now in
    rw c.put.ensures (record {
      shaped = IsMemory-put old.pages c.args.at c.args.byte old.shaped (omega (arith, c.ranges.at.fits));
      ranged = AreMemoryBytes-put old.pages c.args.at c.args.byte old.shaped (omega (arith, c.ranges.at.fits)) (omega (arith, c.ranges.byte.fits)) old.ranged;
    })

pub returns-clause-bytes : goal.returns-clause-bytes
returns-clause-bytes c = rw c.put.ensures (joined-put c.args.self.now.pages c.args.at c.args.byte c.args.self.now.shaped (omega (arith, c.ranges.at.fits)))
