use Rattle.sx_asm.proofs.Lines.{taken_more}
use Rattle.sx_asm.proofs.reading.taken.Goals as goal

pub returns-in-Some : goal.returns-in-Some
returns-in-Some c = rw c.in-Some.is (taken_more c.args.line.now c.in-Some.field-0.now)
