use Rattle.std.specs.Prelude.{◌≤◌, ◌-◌, ◌+◌}
use Rattle.command_asm.specs.Gathering.{gathered_bytes}
use Rattle.command_asm.proofs.Gathering.{Come}
use Rattle.command_asm.proofs.assembling.gather.Given as goal

-- what has come is what was gathered
abbrev pub invariant-lines : goal.invariant-lines
invariant-lines g l = record {
  few : l.count ≤ 262144;
  numbered : l.number ≤ l.count + 1;
  come : Come g.S.Source.tells (g.S.Source.at l.fn.source) (g.S.Source.at l.source) l.lines l.number l.count (gathered_bytes l.gathered);
}

abbrev pub decreases-lines : goal.decreases-lines
decreases-lines g l = 262145 - l.count
