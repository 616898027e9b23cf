-- The words and signs of the assembler's language, and the names of registers and instructions.
use Rattle.std.specs.Prelude.{ℕ, ◌==◌, Bool, true, false, if◌then◌else◌, List, [], ◌∷◌, ◌++◌, codes}
use Rattle.sx_isa.specs.declared.instruction.Op2.{Op2}
use Rattle.sx_isa.specs.declared.instruction.Op2.TheVariants.{Mov, Add, Addc, Subc, Sub, Cmp, Bit}
use Rattle.sx_isa.specs.declared.instruction.Op2.TheVariants.{Bic, Bis, Xor, And}
use Rattle.sx_isa.specs.declared.instruction.Op1.{Op1}
use Rattle.sx_isa.specs.declared.instruction.Op1.TheVariants.{Rrc, Swpb, Rra, Sxt, Push, Call}
use Rattle.sx_asm.specs.declared.written.Token.{Token}
use Rattle.sx_asm.specs.declared.written.Token.TheVariants.{Word, Two, One, Jump, Reti, Sancus, Reg}
use Rattle.sx_asm.specs.declared.written.Token.TheVariants.{Colon, Comma, Semicolon, Open, Close}
use Rattle.sx_asm.specs.declared.written.Token.TheVariants.{At, Plus, Hash, HashHash, Ampersand}

-- the names of the operations
abbrev pub op2_name : Op2 → List ℕ
op2_name Mov = codes "mov"
op2_name Add = codes "add"
op2_name Addc = codes "addc"
op2_name Subc = codes "subc"
op2_name Sub = codes "sub"
op2_name Cmp = codes "cmp"
op2_name Bit = codes "bit"
op2_name Bic = codes "bic"
op2_name Bis = codes "bis"
op2_name Xor = codes "xor"
op2_name And = codes "and"

-- the names of the operations on one operand
abbrev pub op1_name : Op1 → List ℕ
op1_name Rrc = codes "rrc"
op1_name Rra = codes "rra"
op1_name Push = codes "push"
op1_name Swpb = codes "swpb"
op1_name Sxt = codes "sxt"
op1_name Call = codes "call"

-- `.b` after the name of an operation on bytes
abbrev pub sized : List ℕ → Bool → List ℕ
sized name byte = if byte then name ++ codes ".b" else name

-- the names of the jumps, by their conditions
abbrev pub jump_name : ℕ → List ℕ
jump_name cond =
    if cond == 0 then codes "jne" else
    if cond == 1 then codes "jeq" else
    if cond == 2 then codes "jnc" else
    if cond == 3 then codes "jc" else
    if cond == 4 then codes "jn" else
    if cond == 5 then codes "jge" else
    if cond == 6 then codes "jl" else codes "jmp"

-- the names of the module instructions, by their numbers
abbrev pub sancus_name : ℕ → List ℕ
sancus_name code =
    if code == 0 then codes "unprotect" else
    if code == 1 then codes "protect" else
    if code == 2 then codes "attest" else
    if code == 4 then codes "wrap" else
    if code == 5 then codes "unwrap" else
    if code == 6 then codes "getid" else codes "getcaller"

-- the names of the registers that are shown
abbrev pub register_name : ℕ → List ℕ
register_name r =
    if r == 0 then codes "pc" else
    if r == 1 then codes "sp" else
    if r == 2 then codes "sr" else
    if r == 3 then codes "r3" else
    if r == 4 then codes "r4" else
    if r == 5 then codes "r5" else
    if r == 6 then codes "r6" else
    if r == 7 then codes "r7" else
    if r == 8 then codes "r8" else
    if r == 9 then codes "r9" else
    if r == 10 then codes "r10" else
    if r == 11 then codes "r11" else
    if r == 12 then codes "r12" else
    if r == 13 then codes "r13" else
    if r == 14 then codes "r14" else codes "r15"

-- words and what they are as tokens
abbrev pub Table : Type 0
Table = List (List ℕ × Token)

-- the signs and their tokens
abbrev pub signs : Table
signs =
    (codes ":", Colon) ∷ (codes ",", Comma) ∷ (codes ";", Semicolon) ∷ (codes "(", Open)
    ∷ (codes ")", Close)
    ∷ (codes "@", At) ∷ (codes "+", Plus) ∷ (codes "#", Hash) ∷ (codes "##", HashHash)
    ∷ (codes "&", Ampersand) ∷ []

-- the names of the registers and their tokens
abbrev pub registers : Table
registers =
    (codes "pc", Reg 0) ∷ (codes "sp", Reg 1) ∷ (codes "sr", Reg 2) ∷ (codes "r0", Reg 0)
    ∷ (codes "r1", Reg 1)
    ∷ (codes "r2", Reg 2) ∷ (codes "r3", Reg 3) ∷ (codes "r4", Reg 4) ∷ (codes "r5", Reg 5)
    ∷ (codes "r6", Reg 6)
    ∷ (codes "r7", Reg 7) ∷ (codes "r8", Reg 8) ∷ (codes "r9", Reg 9) ∷ (codes "r10", Reg 10)
    ∷ (codes "r11", Reg 11)
    ∷ (codes "r12", Reg 12) ∷ (codes "r13", Reg 13) ∷ (codes "r14", Reg 14) ∷ (codes "r15", Reg 15)
    ∷ []

-- each name of an operation, and with `.b` after it
abbrev pub two_names : List Op2 → Table
two_names [] = []
two_names (op ∷ ops) = (sized (op2_name op) false, Two op false)
    ∷ (sized (op2_name op) true, Two op true) ∷ two_names ops

-- the names of operations on one operand, for words and for bytes
abbrev pub one_names : List Op1 → Table
one_names [] = []
one_names (op ∷ ops) = (sized (op1_name op) false, One op false)
    ∷ (sized (op1_name op) true, One op true) ∷ one_names ops

-- the names of jumps under these conditions
abbrev pub jump_names : List ℕ → Table
jump_names [] = []
jump_names (c ∷ cs) = (jump_name c, Jump c) ∷ jump_names cs

-- the names of module instructions of these numbers
abbrev pub sancus_names : List ℕ → Table
sancus_names [] = []
sancus_names (c ∷ cs) = (sancus_name c, Sancus c) ∷ sancus_names cs

-- the names of instructions with two operands
abbrev pub names_with_two : Table
names_with_two = two_names (Mov ∷ Add ∷ Addc ∷ Subc ∷ Sub ∷ Cmp ∷ Bit ∷ Bic ∷ Bis ∷ Xor ∷ And ∷ [])

-- the names of instructions with one operand
abbrev pub names_with_one : Table
names_with_one = one_names (Rrc ∷ Rra ∷ Push ∷ Swpb ∷ Sxt ∷ Call ∷ [])

-- the names of all others, and of the directive
abbrev pub other_names : Table
other_names =
    jump_names (0 ∷ 1 ∷ 2 ∷ 3 ∷ 4 ∷ 5 ∷ 6 ∷ 7 ∷ []) ++ sancus_names (0 ∷ 1 ∷ 2 ∷ 4 ∷ 5 ∷ 6 ∷ 7 ∷ [])
    ++ (codes "reti", Reti) ∷ (codes ".word", Word) ∷ []

-- the names of all instructions
abbrev pub instructions : Table
instructions = names_with_two ++ names_with_one ++ other_names
