use Rattle.command_world.proofs.Bytes.{HaveBytes}
use Rattle.command_world.proofs.compiling.have_bytes.Given as goal

-- the texts so far are lists of bytes
abbrev pub invariant-loop-image : goal.invariant-loop-image
invariant-loop-image l = HaveBytes l.images l.image-index
