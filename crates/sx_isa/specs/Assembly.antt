-- Instructions as TI's guide writes them, the source before the destination:
--     # n       a number, from a constant generator where one gives it (0, 1, 2, 4, 8, 0xFFFF)
--     ## x      a number in an extension word
--     & a       the memory at an address
--     x ⟨ r ⟩   the memory at a register plus an offset; `indirect r` is TI's @Rn, and
--               `increment r` its @Rn+
-- `#` and `##` are as the assembler reads and shows them. A jump counts words from the word after
-- it.
use Rattle.std.specs.Prelude.{ℕ, ◌-◌, false, true, ℤ, pos, negsuc, if◌then◌else◌}
use Rattle.sx_isa.specs.declared.instruction.Operand.{Operand}
use Rattle.sx_isa.specs.declared.instruction.Operand.TheVariants.{Reg, Indexed, Indirect, Increment}
use Rattle.sx_isa.specs.declared.instruction.Operand.TheVariants.{Absolute, Immediate, Const}
use Rattle.sx_isa.specs.declared.instruction.Op1.TheVariants as one
use Rattle.sx_isa.specs.declared.instruction.Op2.TheVariants as two
use Rattle.sx_isa.specs.declared.instruction.Instr.{Instr}
use Rattle.sx_isa.specs.declared.instruction.Instr.TheVariants.{Two, One, Jump, Sancus}
use Rattle.sx_isa.specs.Spelling.{is_constant}

-- the registers
abbrev pub pc : Operand
pc = Reg 0

abbrev pub sp : Operand
sp = Reg 1

abbrev pub sr : Operand
sr = Reg 2

abbrev pub r4 : Operand
r4 = Reg 4

abbrev pub r5 : Operand
r5 = Reg 5

abbrev pub r6 : Operand
r6 = Reg 6

abbrev pub r7 : Operand
r7 = Reg 7

abbrev pub r8 : Operand
r8 = Reg 8

abbrev pub r9 : Operand
r9 = Reg 9

abbrev pub r10 : Operand
r10 = Reg 10

abbrev pub r11 : Operand
r11 = Reg 11

abbrev pub r12 : Operand
r12 = Reg 12

abbrev pub r13 : Operand
r13 = Reg 13

abbrev pub r14 : Operand
r14 = Reg 14

abbrev pub r15 : Operand
r15 = Reg 15

-- the other operands
infixl 20 #◌
infixl 20 ##◌
infixl 20 &◌
infixl 20 ◌⟨◌⟩
abbrev pub #◌ : ℕ → Operand
# n = if is_constant n then Const n else Immediate n

abbrev pub ##◌ : ℕ → Operand
## x = Immediate x

abbrev pub &◌ : ℕ → Operand
& a = Absolute a

abbrev pub ◌⟨◌⟩ : ℕ → Operand → Operand
x ⟨ Reg r ⟩ = Indexed r x
x ⟨ o ⟩ = o

abbrev pub indirect : Operand → Operand
indirect (Reg r) = Indirect r
indirect o = o

abbrev pub increment : Operand → Operand
increment (Reg r) = Increment r
increment o = o

-- instructions with two operands
abbrev pub mov : Operand → Operand → Instr
mov s d = Two two.Mov false s d

abbrev pub mov_b : Operand → Operand → Instr
mov_b s d = Two two.Mov true s d

abbrev pub add : Operand → Operand → Instr
add s d = Two two.Add false s d

abbrev pub sub : Operand → Operand → Instr
sub s d = Two two.Sub false s d

abbrev pub cmp : Operand → Operand → Instr
cmp s d = Two two.Cmp false s d

abbrev pub bis : Operand → Operand → Instr
bis s d = Two two.Bis false s d

abbrev pub xor : Operand → Operand → Instr
xor s d = Two two.Xor false s d

abbrev pub and : Operand → Operand → Instr
and s d = Two two.And false s d

-- with one operand
abbrev pub push : Operand → Instr
push s = One one.Push false s

abbrev pub call : Operand → Instr
call s = One one.Call false s

-- the guide's emulated instructions
abbrev pub pop : Operand → Instr
pop d = mov (increment sp) d

abbrev pub ret : Instr
ret = pop pc

abbrev pub br : Operand → Instr
br s = mov s pc

abbrev pub clr : Operand → Instr
clr d = mov (# 0) d

abbrev pub tst : Operand → Instr
tst d = cmp (# 0) d

abbrev pub inc : Operand → Instr
inc d = add (# 1) d

abbrev pub incd : Operand → Instr
incd d = add (# 2) d

abbrev pub dec : Operand → Instr
dec d = sub (# 1) d

abbrev pub rla : Operand → Instr
rla d = add d d

-- jumps
abbrev pub ahead : ℕ → ℤ
ahead n = pos n

abbrev pub back : ℕ → ℤ
back n = negsuc (n - 1)

abbrev pub jnz : ℤ → Instr
jnz n = Jump 0 n

abbrev pub jz : ℤ → Instr
jz n = Jump 1 n

abbrev pub jnc : ℤ → Instr
jnc n = Jump 2 n

abbrev pub jc : ℤ → Instr
jc n = Jump 3 n

abbrev pub jge : ℤ → Instr
jge n = Jump 5 n

abbrev pub jmp : ℤ → Instr
jmp n = Jump 7 n

-- module instructions
abbrev pub wrap : Instr
wrap = Sancus 4

abbrev pub unwrap : Instr
unwrap = Sancus 5
