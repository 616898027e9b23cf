use Rattle.std.proofs.Common.{◌≡◌, drop, map}
use Rattle.sx_asm.specs.Tokens.{found_in}
use Rattle.sx_asm.specs.Entries.{entry_of}
use Rattle.sx_asm.proofs.lexing.found_in.Given as goal

abbrev pub invariant-loop-name : goal.invariant-loop-name
invariant-loop-name l = found_in (map entry_of l.table) l.word ≡ found_in (map entry_of (drop l.name-index l.table)) l.word
