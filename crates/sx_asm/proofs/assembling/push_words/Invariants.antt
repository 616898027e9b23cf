use Rattle.std.proofs.Common.{◌≡◌, ◌++◌, drop}
use Rattle.sx_asm.specs.Meaning.{bytes_of}
use Rattle.sx_asm.proofs.assembling.push_words.Given as goal

abbrev pub invariant-loop-word : goal.invariant-loop-word
invariant-loop-word l = l.fn.code.items ++ bytes_of l.words ≡ l.code.items ++ bytes_of (drop l.word-index l.words)
