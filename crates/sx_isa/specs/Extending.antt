-- An instruction with other extension words (own): it is read where these follow the same first
-- word.
--     has_word, with_word      whether an operand has an extension word, and it with another one
--     extended      the instruction with other words in place of its own
use Rattle.std.specs.Prelude.{ℕ, Bool, true, false, if◌then◌else◌}
use Rattle.sx_isa.specs.declared.instruction.Operand.{Operand}
use Rattle.sx_isa.specs.declared.instruction.Operand.TheVariants.{Reg, Indexed, Indirect, Increment}
use Rattle.sx_isa.specs.declared.instruction.Operand.TheVariants.{Symbolic, Absolute, Immediate}
use Rattle.sx_isa.specs.declared.instruction.Operand.TheVariants.{Const}
use Rattle.sx_isa.specs.declared.instruction.Instr.{Instr}
use Rattle.sx_isa.specs.declared.instruction.Instr.TheVariants.{Two, One, Reti, Jump, Sancus}

-- whether an operand has an extension word
abbrev pub has_word : Operand → Bool
has_word (Reg r) = false
has_word (Indexed r x) = true
has_word (Indirect r) = false
has_word (Increment r) = false
has_word (Symbolic x) = true
has_word (Absolute x) = true
has_word (Immediate x) = true
has_word (Const c) = false

-- the operand with this extension word, if it has one
abbrev pub with_word : Operand → ℕ → Operand
with_word (Reg r) x = Reg r
with_word (Indexed r y) x = Indexed r x
with_word (Indirect r) x = Indirect r
with_word (Increment r) x = Increment r
with_word (Symbolic y) x = Symbolic x
with_word (Absolute y) x = Absolute x
with_word (Immediate y) x = Immediate x
with_word (Const c) x = Const c

-- the source's word comes first
abbrev pub extended : Instr → ℕ → ℕ → Instr
extended (Two op byte src dst) w1 w2 =
    Two op byte (with_word src w1) (with_word dst (if has_word src then w2 else w1))
extended (One op byte arg) w1 w2 = One op byte (with_word arg w1)
extended Reti w1 w2 = Reti
extended (Jump cond offset) w1 w2 = Jump cond offset
extended (Sancus code) w1 w2 = Sancus code
