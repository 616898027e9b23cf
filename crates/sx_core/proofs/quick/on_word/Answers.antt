use Rattle.std.proofs.Common.{rules, true}
use Rattle.sx_core.proofs.quick.on_word.Goals as goal

pub on_word_at_hand-requires-clause-read : goal.on_word_at_hand-requires-clause-read
on_word_at_hand-requires-clause-read g c = c.is_at_hand.ensures.read (search rules) true

pub on_word_at_hand-requires-clause-write : goal.on_word_at_hand-requires-clause-write
on_word_at_hand-requires-clause-write g c = c.is_at_hand.ensures.write (search rules) true
