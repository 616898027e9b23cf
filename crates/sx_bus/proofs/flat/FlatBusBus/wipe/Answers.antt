use Rattle.std.proofs.Common.{◌≡◌, ◌++◌, take, drop, length, sym, subst, arith}
use Rattle.std.proofs.lemmas.Grind.{common_steps}
use Rattle.sx_bus.specs.Memory.{blank, AreMemoryBytes}
use Rattle.sx_bus.proofs.Bytes.{AreMemoryBytes-blank}
use Rattle.sx_bus.proofs.Blank.{length-blank}
use Rattle.sx_bus.proofs.flat.FlatBusBus.wipe.Goals as goal

pub invariant_of-self : goal.invariant_of-self
invariant_of-self c =
    let memory = c.args.self.now.memory in
    let long = length-blank (length memory.items) in
    let written : take memory.len (c.clear.new.bytes ++ drop (length c.clear.new.bytes) memory.items) ≡ blank (length memory.items) = grind (arith, common_steps) in
    record { ranged = subst AreMemoryBytes (sym written) (AreMemoryBytes-blank (length memory.items) c.args.self.now.ranged.size) }
