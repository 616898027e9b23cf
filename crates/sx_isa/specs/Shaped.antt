-- Which instructions can be written in words, apart from the extension words, which are words by
-- their type: computed, so that it is seen of an instruction that is in code.
use Rattle.std.specs.Prelude.{ℕ, ◌==◌, ℤ, pos, negsuc, Bool, true, false, ◌&&◌, not, nat_lt}
use Rattle.std.specs.Prelude.{List, [], ◌∷◌}
use Rattle.sx_isa.specs.declared.instruction.Operand.{Operand}
use Rattle.sx_isa.specs.declared.instruction.Operand.TheVariants.{Reg, Indexed, Indirect, Increment}
use Rattle.sx_isa.specs.declared.instruction.Operand.TheVariants.{Symbolic, Absolute, Immediate}
use Rattle.sx_isa.specs.declared.instruction.Operand.TheVariants.{Const}
use Rattle.sx_isa.specs.declared.instruction.Instr.{Instr}
use Rattle.sx_isa.specs.declared.instruction.Instr.TheVariants.{Two, One, Reti, Jump, Sancus}
use Rattle.sx_isa.specs.Legal.{is_allowed}
use Rattle.sx_isa.specs.Spelling.{is_constant}

abbrev pub is_general : ℕ → Bool
is_general r = nat_lt r 16 && not (r == 0) && not (r == 2) && not (r == 3)

abbrev pub is_source : Operand → Bool
is_source (Reg r) = nat_lt r 16 && not (r == 3)
is_source (Indexed r x) = is_general r
is_source (Symbolic x) = true
is_source (Absolute x) = true
is_source (Indirect r) = nat_lt r 16 && not (r == 2) && not (r == 3)
is_source (Increment r) = is_general r
is_source (Immediate x) = true
is_source (Const c) = is_constant c

abbrev pub is_destination : Operand → Bool
is_destination (Reg r) = nat_lt r 16
is_destination (Indexed r x) = is_general r
is_destination (Symbolic x) = true
is_destination (Absolute x) = true
is_destination _ = false

abbrev pub is_offset : ℤ → Bool
is_offset (pos n) = nat_lt n 512
is_offset (negsuc n) = nat_lt n 512

abbrev pub is_shaped : Instr → Bool
is_shaped (Two op byte src dst) = is_source src && is_destination dst
is_shaped (One op byte arg) = is_source arg && is_allowed op byte arg
is_shaped Reti = true
is_shaped (Jump cond offset) = nat_lt cond 8 && is_offset offset
is_shaped (Sancus code) = nat_lt code 8 && not (code == 3)

abbrev pub are_shaped : List Instr → Bool
are_shaped [] = true
are_shaped (i ∷ is) = is_shaped i && are_shaped is
