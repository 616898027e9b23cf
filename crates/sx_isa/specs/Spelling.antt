-- How instructions are written as words (TI, MSP430x2xx Family User's Guide, "CPU"; the Sancus
-- words are this project's).
use Rattle.std.specs.Prelude.{ℕ, ◌+◌, ◌*◌, ◌-◌, ◌^◌, ◌==◌, ℤ, pos, negsuc, List, [], ◌∷◌, ◌++◌}
use Rattle.std.specs.Prelude.{if◌then◌else◌, Bool, ◌||◌}
use Rattle.sx_isa.specs.declared.instruction.Operand.{Operand}
use Rattle.sx_isa.specs.declared.instruction.Operand.TheVariants.{Reg, Indexed, Indirect, Increment}
use Rattle.sx_isa.specs.declared.instruction.Operand.TheVariants.{Symbolic, Absolute, Immediate}
use Rattle.sx_isa.specs.declared.instruction.Operand.TheVariants.{Const}
use Rattle.sx_isa.specs.declared.instruction.Op2.{Op2}
use Rattle.sx_isa.specs.declared.instruction.Op2.TheVariants.{Mov, Add, Addc, Subc, Sub, Cmp, Bit}
use Rattle.sx_isa.specs.declared.instruction.Op2.TheVariants.{Bic, Bis, Xor, And}
use Rattle.sx_isa.specs.declared.instruction.Op1.{Op1}
use Rattle.sx_isa.specs.declared.instruction.Op1.TheVariants.{Rrc, Swpb, Rra, Sxt, Push, Call}
use Rattle.sx_isa.specs.declared.instruction.Instr.{Instr}
use Rattle.sx_isa.specs.declared.instruction.Instr.TheVariants.{Two, One, Reti, Jump, Sancus}
use Rattle.lemmas.specs.Truth.{truth}

-- a number that a constant generator gives
abbrev pub is_constant : ℕ → Bool
is_constant c = (c == 0) || (c == 1) || (c == 2) || (c == 4) || (c == 8) || (c == 65535)

-- where an operand is: a register's number, an addressing mode, and its extension words
pub record Place : Type 0 where
  pub register : ℕ
  pub mode : ℕ
  pub words : List ℕ

-- a place from its parts
abbrev pub at : ℕ → ℕ → List ℕ → Place
at register mode words = record { register = register; mode = mode; words = words }

-- the constant generators: the modes of R3, and those of R2 that have no other meaning (the guide,
-- "Constant Generator Registers")
abbrev pub constant : ℕ → Place
constant c =
    if c == 0 then at 3 0 [] else
    if c == 1 then at 3 1 [] else
    if c == 2 then at 3 2 [] else
    if c == 4 then at 2 2 [] else
    if c == 8 then at 2 3 [] else at 3 3 []

-- an operand's place, by the mode As; a destination has the modes 0 and 1 alone, as Ad (the guide,
-- "Addressing Modes")
abbrev pub place_of : Operand → Place
place_of (Reg r) = at r 0 []
place_of (Indexed r x) = at r 1 (x ∷ [])
place_of (Symbolic x) = at 0 1 (x ∷ [])
place_of (Absolute x) = at 2 1 (x ∷ [])
place_of (Indirect r) = at r 2 []
place_of (Increment r) = at r 3 []
place_of (Immediate x) = at 0 3 (x ∷ [])
place_of (Const c) = constant c

-- the operation codes of the two formats (the guide, "Instruction Set"); code 10, DADD, has no
-- instruction here
abbrev pub op2_code : Op2 → ℕ
op2_code Mov = 4
op2_code Add = 5
op2_code Addc = 6
op2_code Subc = 7
op2_code Sub = 8
op2_code Cmp = 9
op2_code Bit = 11
op2_code Bic = 12
op2_code Bis = 13
op2_code Xor = 14
op2_code And = 15

-- the codes of the operations on one operand
abbrev pub op1_code : Op1 → ℕ
op1_code Rrc = 0
op1_code Swpb = 1
op1_code Rra = 2
op1_code Sxt = 3
op1_code Push = 4
op1_code Call = 5

-- a word from its fields, the highest first, each with its number of bits, after the bits above
-- them
abbrev pub packed : ℕ → List (ℕ × ℕ) → ℕ
packed high [] = high
packed high (field ∷ fields) = packed (high * 2 ^ field.0 + field.1) fields

-- bits 15 to 12 the operation, 11 to 8 the source's register, 7 Ad, 6 B/W, 5 and 4 As, 3 to 0 the
-- destination's register
abbrev pub two_word : ℕ → ℕ → ℕ → ℕ → ℕ → ℕ → ℕ
two_word op source ad byte mode destination =
    packed 0 ((4, op) ∷ (4, source) ∷ (1, ad) ∷ (1, byte) ∷ (2, mode) ∷ (4, destination) ∷ [])

-- bits 15 to 10 are 000100, 9 to 7 the operation, 6 B/W, 5 and 4 the mode, 3 to 0 the register
abbrev pub one_word : ℕ → ℕ → ℕ → ℕ → ℕ
one_word op byte mode register =
    packed 0b000100 ((3, op) ∷ (1, byte) ∷ (2, mode) ∷ (4, register) ∷ [])

-- a jump's offset in ten bits, in two's complement
abbrev pub offset_field : ℤ → ℕ
offset_field (pos n) = n
offset_field (negsuc n) = 1024 - (n + 1)

-- the words of an instruction; a source's extension word comes before a destination's
abbrev pub spelling : Instr → List ℕ
spelling (Two op byte src dst) =
    let s = place_of src in
    let d = place_of dst in
    two_word (op2_code op) s.register d.mode (truth byte) s.mode d.register ∷ (s.words ++ d.words)
spelling (One op byte arg) =
    let s = place_of arg in
    one_word (op1_code op) (truth byte) s.mode s.register ∷ s.words
spelling Reti = 0x1300 ∷ []
spelling (Jump cond offset) = packed 0b001 ((3, cond) ∷ (10, offset_field offset) ∷ []) ∷ []
spelling (Sancus code) = (0x1380 + code) ∷ []
