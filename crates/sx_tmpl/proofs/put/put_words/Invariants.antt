use Rattle.std.proofs.Common.{◌≡◌, ◌++◌, drop}
use Rattle.sx_tmpl.specs.Text.{bytes_of}
use Rattle.sx_tmpl.proofs.put.put_words.Given as goal

abbrev pub invariant-loop-word : goal.invariant-loop-word
invariant-loop-word l = l.text.items ++ bytes_of (drop l.word-index l.words) ≡ l.fn.text.items ++ bytes_of l.fn.words
