use Rattle.std.proofs.Common.{◌≡◌, ◌++◌, drop}
use Rattle.std.specs.Prelude.{Ok}
use Rattle.sx_asm.specs.Meaning.{code_of}
use Rattle.sx_asm.specs.Assembled.{formed, reached}
use Rattle.sx_asm.proofs.assembling.code_of.Given as goal

abbrev pub invariant-loop-entry : goal.invariant-loop-entry
invariant-loop-entry l = record {
  code : code_of l.labels l.at l.entries ≡ l.code.items ++ code_of l.labels l.address (drop l.entry-index l.entries);
  formed_left : formed (drop l.entry-index l.entries) ≡ Ok tt;
  reached_left : reached l.labels l.address (drop l.entry-index l.entries) ≡ Ok tt;
}
