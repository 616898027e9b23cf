-- Which instructions there are, and which first words none of them has.
use Rattle.std.specs.Prelude.{◌≡◌, ◌≢◌, ℕ, ◌/◌, ◌%◌, ◌<◌, ◌≤◌, IsTrue, ℤ, pos, negsuc, List, length}
use Rattle.std.specs.Prelude.{take, ◌⊎◌, [], ◌∷◌}
use Rattle.sx_isa.specs.declared.instruction.Operand.{Operand}
use Rattle.sx_isa.specs.declared.instruction.Operand.TheVariants.{Reg, Indexed, Indirect, Increment}
use Rattle.sx_isa.specs.declared.instruction.Operand.TheVariants.{Symbolic, Absolute, Immediate}
use Rattle.sx_isa.specs.declared.instruction.Operand.TheVariants.{Const}
use Rattle.sx_isa.specs.declared.instruction.Instr.{Instr}
use Rattle.sx_isa.specs.declared.instruction.Instr.TheVariants.{Two, One, Reti, Jump, Sancus}
use Rattle.sx_isa.specs.Spelling.{spelling, is_constant}
use Rattle.sx_isa.specs.Legal.{is_allowed}

-- a number of 16 bits
abbrev pub IsWord : ℕ → Type 0
IsWord x = x < 65536

-- the registers that have no meaning of their own in the modes 1 and 3: R1, R4 to R15
abbrev pub IsGeneral : ℕ → Type 0
IsGeneral r = (r < 16) × (r ≢ 0) × (r ≢ 2) × (r ≢ 3)

-- what an instruction can read
abbrev pub IsSource : Operand → Type 0
IsSource (Reg r) = (r < 16) × (r ≢ 3)
IsSource (Indexed r x) = IsGeneral r × IsWord x
IsSource (Symbolic x) = IsWord x
IsSource (Absolute x) = IsWord x
IsSource (Indirect r) = (r < 16) × (r ≢ 2) × (r ≢ 3)
IsSource (Increment r) = IsGeneral r
IsSource (Immediate x) = IsWord x
IsSource (Const c) = IsTrue (is_constant c)

-- what an instruction with two operands can write
abbrev pub IsDestination : Operand → Type 0
IsDestination (Reg r) = r < 16
IsDestination (Indexed r x) = IsGeneral r × IsWord x
IsDestination (Symbolic x) = IsWord x
IsDestination (Absolute x) = IsWord x
IsDestination _ = ⊥

-- what ten bits hold in two's complement: -512 to 511
abbrev pub IsOffset : ℤ → Type 0
IsOffset (pos n) = n < 512
IsOffset (negsuc n) = n < 512

-- the instructions that there are
abbrev pub IsInstruction : Instr → Type 0
IsInstruction (Two op byte src dst) = IsSource src × IsDestination dst
IsInstruction (One op byte arg) = IsSource arg × IsTrue (is_allowed op byte arg)
IsInstruction Reti = Unit {0}
IsInstruction (Jump cond offset) = (cond < 8) × IsOffset offset
IsInstruction (Sancus code) = (code < 8) × (code ≢ 3)

-- the registers and modes of constants and immediates
abbrev pub IsValuePlace : ℕ → ℕ → Type 0
IsValuePlace register mode =
    (register ≡ 3) ⊎ ((register ≡ 2) × (2 ≤ mode)) ⊎ ((register ≡ 0) × (mode ≡ 3))

-- the words with one operand: 0x1000 to 0x12FF
abbrev pub IsOneOperand : ℕ → Type 0
IsOneOperand w = (0x1000 ≤ w) × (w < 0x1300)

-- The first words that no instruction has, in this order: those below the formats; byte forms of
-- SWPB, SXT and CALL; RRC, SWPB, RRA and SXT on a constant or an immediate; what lies between RETI
-- and the Sancus words; their gap; what lies above them; DADD; a destination R3 in memory.
abbrev pub IsIllegal : ℕ → Type 0
IsIllegal w =
    (w < 0x1000)
    ⊎ (IsOneOperand w × (w / 128 % 2 ≡ 1) × (w / 64 % 2 ≡ 1))
    ⊎ (IsOneOperand w × (w / 128 % 8 < 4) × IsValuePlace (w % 16) (w / 16 % 4))
    ⊎ ((0x1300 < w) × (w < 0x1380))
    ⊎ (w ≡ 0x1383)
    ⊎ ((0x1388 ≤ w) × (w < 0x2000))
    ⊎ (w / 4096 ≡ 10)
    ⊎ ((0x4000 ≤ w) × (w / 128 % 2 ≡ 1) × (w % 16 ≡ 3))

-- the instruction's n words are at the start of ws
abbrev pub BeginsWith : List ℕ → Instr → ℕ → Type 0
BeginsWith ws i n = IsInstruction i × (n ≡ length (spelling i)) × (take n ws ≡ spelling i)

-- the first of some words, or 0
abbrev pub head_or_zero : List ℕ → ℕ
head_or_zero [] = 0
head_or_zero (x ∷ xs) = x

-- the first word of an instruction
abbrev pub first_word : Instr → ℕ
first_word i = head_or_zero (spelling i)
