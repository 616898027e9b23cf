use Rattle.sx_asm.proofs.grammar.instruction_from.Goals as goal

pub returns-in-One : goal.returns-in-One
returns-in-One c = rw c.in-One.is c.one.ensures
