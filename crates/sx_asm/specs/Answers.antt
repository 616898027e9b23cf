-- What an assembler's answers mean.
use Rattle.std.specs.Prelude.{◌≡◌, Result, Ok, Err, IsOk}
use Rattle.sx_asm.specs.declared.error.AsmError.{AsmError}
use Rattle.sx_asm.specs.declared.error.AsmError.TheVariants.{Fault, OutOfMemory}

-- the answer is the right one, unless memory runs out
abbrev pub AnswersMeant : {T V : Type 0} → (T → V) → Result V AsmError → Result T AsmError → Type 0
AnswersMeant view meant (Ok x) = meant ≡ Ok (view x)
AnswersMeant view meant (Err (Fault rule line)) = meant ≡ Err (Fault rule line)
AnswersMeant view meant (Err OutOfMemory) = Unit {0}

-- memory runs out only where there is no fault
abbrev pub HidesNoFault : {T V : Type 0} → Result V AsmError → Result T AsmError → Type 0
HidesNoFault meant (Ok x) = Unit {0}
HidesNoFault meant (Err (Fault rule line)) = Unit {0}
HidesNoFault meant (Err OutOfMemory) = IsOk meant
