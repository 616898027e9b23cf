use Rattle.std.proofs.Common.{◌≡◌, ◌≤◌, drop}
use Rattle.sx_asm.specs.Assembled.{named}
use Rattle.sx_asm.proofs.assembling.named.Given as goal

abbrev pub invariant-loop-entry : goal.invariant-loop-entry
invariant-loop-entry l = record {
  names : named l.labels 0 l.entries ≡ named l.labels l.before (drop l.entry-index l.entries);
  few : l.before ≤ l.entry-index;
}
