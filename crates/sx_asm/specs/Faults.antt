-- What an error says.
use Rattle.sx_asm.specs.declared.error.AsmError.{AsmError}
use Rattle.sx_asm.specs.declared.error.AsmError.TheVariants.{Fault, OutOfMemory}

-- a broken rule, and not a lack of memory
abbrev pub IsFault : AsmError → Type 0
IsFault (Fault rule line) = Unit {0}
IsFault OutOfMemory = ⊥
