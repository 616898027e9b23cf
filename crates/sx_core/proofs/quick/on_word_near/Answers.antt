use Rattle.std.proofs.Common.{rules, true}
use Rattle.sx_core.proofs.quick.on_word_near.Goals as goal

pub test_of_word-requires-clause-read : goal.test_of_word-requires-clause-read
test_of_word-requires-clause-read g c = c.is_readable.ensures.read (search rules) true
