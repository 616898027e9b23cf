use Rattle.std.proofs.Common.{rules, false}
use Rattle.sx_core.proofs.bytes.on_byte.Goals as goal

pub on_byte_at_hand-requires-clause-read : goal.on_byte_at_hand-requires-clause-read
on_byte_at_hand-requires-clause-read g c = c.is_at_hand.ensures.read (search rules) false

pub on_byte_at_hand-requires-clause-write : goal.on_byte_at_hand-requires-clause-write
on_byte_at_hand-requires-clause-write g c = c.is_at_hand.ensures.write (search rules) false
