use Rattle.std.specs.Prelude.{ℕ, List, ◌≤◌, ◌-◌}
use Rattle.command_asm.specs.Kept.{KeepsBytes}
use Rattle.command_asm.proofs.Coming.{Come}
use Rattle.command_asm.proofs.disassembling.read_code.Given as goal

-- the bytes of the lines before this number have come, and are kept as long as they are few enough
abbrev pub invariant-lines : goal.invariant-lines
invariant-lines g l = record {
  few : l.number ≤ 65537;
  come : (bytes : List ℕ) × KeepsBytes l.code bytes
      × Come g.S.Source.tells (g.S.Source.at l.fn.input) (g.S.Source.at l.input) l.lines l.number
      bytes;
}

abbrev pub decreases-lines : goal.decreases-lines
decreases-lines g l = 65537 - l.number
