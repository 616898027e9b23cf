use Rattle.std.proofs.Common.{rules, false}
use Rattle.sx_core.proofs.bytes.on_byte_near.Goals as goal

pub test_of_byte-requires-clause-read : goal.test_of_byte-requires-clause-read
test_of_byte-requires-clause-read g c = c.is_readable.ensures.read (search rules) false
