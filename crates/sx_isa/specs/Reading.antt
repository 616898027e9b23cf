-- The instruction at the start of some words, computed from the fields of its first word. Nobody
-- has to believe this file: it is a second reading of what `spelling` writes, to compute with, and
-- `laws::reading` shows that the two agree.
use Rattle.std.specs.Prelude.{ℕ, ◌+◌, ◌-◌, ◌/◌, ◌%◌, ◌==◌, Bool, ◌&&◌, ◌||◌, not, nat_lt, nat_le, ℤ}
use Rattle.std.specs.Prelude.{pos, negsuc, Option, Some, None, option_map, if◌then◌else◌}
use Rattle.sx_isa.specs.declared.instruction.Operand.{Operand}
use Rattle.sx_isa.specs.declared.instruction.Operand.TheVariants.{Reg, Indexed, Indirect, Increment}
use Rattle.sx_isa.specs.declared.instruction.Operand.TheVariants.{Symbolic, Absolute, Immediate}
use Rattle.sx_isa.specs.declared.instruction.Operand.TheVariants.{Const}
use Rattle.sx_isa.specs.declared.instruction.Op2.{Op2}
use Rattle.sx_isa.specs.declared.instruction.Op2.TheVariants.{Mov, Add, Addc, Subc, Sub, Cmp, Bit}
use Rattle.sx_isa.specs.declared.instruction.Op2.TheVariants.{Bic, Bis, Xor, And}
use Rattle.sx_isa.specs.declared.instruction.Op1.{Op1}
use Rattle.sx_isa.specs.declared.instruction.Op1.TheVariants.{Rrc, Swpb, Rra, Sxt, Push, Call}
use Rattle.sx_isa.specs.declared.instruction.Instr.{Instr}
use Rattle.sx_isa.specs.declared.instruction.Instr.TheVariants.{Two, One, Reti, Jump, Sancus}
use Rattle.sx_isa.specs.Legal.{is_allowed}
use Rattle.lemmas.specs.Truth.{truth}

-- the operand of a register in the mode As, where x is the word that follows
abbrev pub source_at : ℕ → ℕ → ℕ → Operand
source_at register mode x =
    if mode == 0 then (if register == 3 then Const 0 else Reg register) else
    if mode == 1 then (
    if register == 0 then Symbolic x else
    if register == 2 then Absolute x else
    if register == 3 then Const 1 else Indexed register x
    ) else
    if mode == 2 then (
    if register == 2 then Const 4 else
    if register == 3 then Const 2 else Indirect register
    ) else (
    if register == 0 then Immediate x else
    if register == 2 then Const 8 else
    if register == 3 then Const 65535 else Increment register
    )

-- the operand of a register in the mode Ad; R3 is none in memory
abbrev pub destination_at : ℕ → ℕ → ℕ → Option Operand
destination_at register ad x =
    if ad == 0 then Some (Reg register) else
    if register == 0 then Some (Symbolic x) else
    if register == 2 then Some (Absolute x) else
    if register == 3 then None else Some (Indexed register x)

-- whether a word follows for a register in a mode
abbrev pub takes_word : ℕ → ℕ → Bool
takes_word register mode = ((mode == 1) && not (register == 3)) || ((mode == 3) && (register == 0))

-- the operation on two operands of this code
abbrev pub op2_at : ℕ → Option Op2
op2_at code =
    if code == 4 then Some Mov else
    if code == 5 then Some Add else
    if code == 6 then Some Addc else
    if code == 7 then Some Subc else
    if code == 8 then Some Sub else
    if code == 9 then Some Cmp else
    if code == 11 then Some Bit else
    if code == 12 then Some Bic else
    if code == 13 then Some Bis else
    if code == 14 then Some Xor else
    if code == 15 then Some And else None

-- the operation on one operand of this code
abbrev pub op1_at : ℕ → Option Op1
op1_at code =
    if code == 0 then Some Rrc else
    if code == 1 then Some Swpb else
    if code == 2 then Some Rra else
    if code == 3 then Some Sxt else
    if code == 4 then Some Push else
    if code == 5 then Some Call else None

-- ten bits as a number in two's complement
abbrev pub offset_at : ℕ → ℤ
offset_at field = if nat_lt field 512 then pos field else negsuc (1023 - field)

-- an instruction from its parts, and its length; None where a part is none
abbrev pub two_of : Option Op2 → Bool → Operand → Option Operand → ℕ → Option (Instr × ℕ)
two_of None byte src dst n = None
two_of (Some op) byte src None n = None
two_of (Some op) byte src (Some dst) n = Some (Two op byte src dst, n)

-- the instruction, where the operation allows its operand
abbrev pub one_of : Option Op1 → Bool → Operand → ℕ → Option (Instr × ℕ)
one_of None byte arg n = None
one_of (Some op) byte arg n = if is_allowed op byte arg then Some (One op byte arg, n) else None

-- bits 15 to 12 the operation, 11 to 8 the source's register, 7 Ad, 6 B/W, 5 and 4 As, 3 to 0 the
-- destination's register
unfoldable pub two_at : ℕ → ℕ → ℕ → Option (Instr × ℕ)
two_at w0 w1 w2 =
    let source = w0 / 256 % 16 in
    let mode = w0 / 16 % 4 in
    let destination = w0 % 16 in
    let ad = w0 / 128 % 2 in
    let first = takes_word source mode in
    let second = takes_word destination ad in
    two_of (op2_at (w0 / 4096)) (w0 / 64 % 2 == 1) (source_at source mode w1)
    (destination_at destination ad (if first then w2 else w1)) (1 + truth first + truth second)

-- bits 9 to 7 the operation, 6 B/W, 5 and 4 As, 3 to 0 the register
unfoldable pub one_at : ℕ → ℕ → Option (Instr × ℕ)
one_at w0 w1 =
    let register = w0 % 16 in
    let mode = w0 / 16 % 4 in
    one_of (op1_at (w0 / 128 % 8)) (w0 / 64 % 2 == 1) (source_at register mode w1)
    (1 + truth (takes_word register mode))

-- 0x1380 to 0x1387 without 0x1383
abbrev pub is_sancus : ℕ → Bool
is_sancus w0 = nat_le 0x1380 w0 && nat_le w0 0x1387 && not (w0 == 0x1383)

-- The instruction at the start of the words w0, w1, w2, and how many of them are its own. None
-- where w0 is illegal.
unfoldable pub instruction_at : ℕ → ℕ → ℕ → Option (Instr × ℕ)
instruction_at w0 w1 w2 =
    if nat_le 0x4000 w0 then two_at w0 w1 w2 else
    if nat_le 0x2000 w0 then Some (Jump (w0 / 1024 % 8) (offset_at (w0 % 1024)), 1) else
    if is_sancus w0 then Some (Sancus (w0 - 0x1380), 1) else
    if w0 == 0x1300 then Some (Reti, 1) else
    if nat_le 0x1000 w0 && nat_lt w0 0x1300 then one_at w0 w1 else None

-- How many words an instruction has whose first is w0; the words that follow don't matter. None
-- where w0 is illegal.
unfoldable pub length_of : ℕ → Option ℕ
length_of w0 = option_map (λ f. f.1) (instruction_at w0 0 0)
