-- A part of what an instruction is: extension words are words.
use Rattle.sx_isa.specs.declared.instruction.Operand.{Operand}
use Rattle.sx_isa.specs.declared.instruction.Operand.TheVariants.{Reg, Indexed, Indirect, Increment}
use Rattle.sx_isa.specs.declared.instruction.Operand.TheVariants.{Symbolic, Absolute, Immediate}
use Rattle.sx_isa.specs.declared.instruction.Operand.TheVariants.{Const}
use Rattle.sx_isa.specs.Instructions.{IsWord}

-- an extension word is a word
abbrev pub HasWord : Operand → Type 0
HasWord (Reg r) = Unit {0}
HasWord (Indexed r x) = IsWord x
HasWord (Symbolic x) = IsWord x
HasWord (Absolute x) = IsWord x
HasWord (Indirect r) = Unit {0}
HasWord (Increment r) = Unit {0}
HasWord (Immediate x) = IsWord x
HasWord (Const c) = Unit {0}
