-- What a first word says, with extension words of 0.
use Rattle.std.specs.Prelude.{◌≡◌, ℕ, Some}
use Rattle.sx_isa.specs.declared.instruction.Instr.{Instr}
use Rattle.sx_isa.specs.Reading.{instruction_at}

-- the first word is that of this instruction, which has so many words
abbrev pub IsDecoded : ℕ → Instr → ℕ → Type 0
IsDecoded first instruction words = instruction_at first 0 0 ≡ Some (instruction, words)
