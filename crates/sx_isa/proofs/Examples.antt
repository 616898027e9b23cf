-- The readings compute on given words.
use Rattle.std.proofs.Common.{◌≡◌, refl, Some, None, true, false}
use Rattle.std.specs.Prelude.{negsuc}
use Rattle.sx_isa.specs.declared.instruction.Operand.TheVariants.{Reg, Absolute, Indirect, Const}
use Rattle.sx_isa.specs.declared.instruction.Op2.TheVariants.{Mov, Xor}
use Rattle.sx_isa.specs.declared.instruction.Instr.TheVariants.{Two, Jump}
use Rattle.sx_isa.specs.Reading.{two_at, instruction_at, length_of}

-- MOV @R5, R6
indirect : instruction_at 0x4526 0 0 ≡ Some (Two Mov false (Indirect 5) (Reg 6), 1)
unfolding instruction_at two_at
indirect = refl

-- XOR.B #1, &0x306
absolute : instruction_at 0xE3D2 0x0306 0 ≡ Some (Two Xor true (Const 1) (Absolute 0x306), 2)
unfolding instruction_at two_at
absolute = refl

absolute_length : length_of 0xE3D2 ≡ Some 2
unfolding length_of instruction_at two_at
absolute_length = refl

-- JMP to itself
here : instruction_at 0x3FFF 0 0 ≡ Some (Jump 7 (negsuc 0), 1)
unfolding instruction_at
here = refl

-- the gap in the Sancus words
gap : length_of 0x1383 ≡ None
unfolding length_of instruction_at
gap = refl
