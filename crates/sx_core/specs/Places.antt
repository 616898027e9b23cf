-- Places in memory that an extension word tells.
--     place_of      the place at the word, or at a register plus it
use Rattle.std.specs.Prelude.{ℕ, Option, Some, None}
use Rattle.sx_isa.specs.declared.instruction.Operand.{Operand}
use Rattle.sx_isa.specs.declared.instruction.Operand.TheVariants.{Absolute, Indexed}

-- the place at an extension word, or at a register plus it
abbrev pub place_of : Option ℕ → ℕ → Operand
place_of None x = Absolute x
place_of (Some base) x = Indexed base x
