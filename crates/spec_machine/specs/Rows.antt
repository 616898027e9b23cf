-- The rows of the plain instructions: the plan of each (TI's MSP430 user's guides).
use Rattle.std.specs.Prelude.{ℕ, ℤ, pos, negsuc, ◌+◌, ◌-◌, ◌*◌, ◌%◌, ◌==◌, Bool, true, false, not}
use Rattle.std.specs.Prelude.{if◌then◌else◌, List, slice_index, slice_set, Option, Some, None}
use Rattle.sx_isa.specs.declared.instruction.Instr.{Instr}
use Rattle.sx_isa.specs.declared.instruction.Instr.TheVariants.{Two, One, Reti, Jump, Sancus}
use Rattle.sx_isa.specs.declared.instruction.Operand.{Operand}
use Rattle.sx_isa.specs.declared.instruction.Operand.TheVariants.{Reg, Indexed, Indirect, Increment}
use Rattle.sx_isa.specs.declared.instruction.Operand.TheVariants.{Symbolic, Absolute, Immediate}
use Rattle.sx_isa.specs.declared.instruction.Operand.TheVariants.{Const}
use Rattle.sx_isa.specs.declared.instruction.Op2.{Op2}
use Rattle.sx_isa.specs.declared.instruction.Op2.TheVariants as op2
use Rattle.sx_isa.specs.declared.instruction.Op1.{Op1}
use Rattle.sx_isa.specs.declared.instruction.Op1.TheVariants as op1
use Rattle.sx_isa.specs.Reading.{length_of, instruction_at}
use Rattle.sx_alu.specs.declared.flags.Flags.{Flags}
use Rattle.sx_alu.specs.declared.calculation.Calc.{Calc}
use Rattle.sx_alu.specs.declared.calculation.Calc.TheVariants as calc
use Rattle.sx_alu.specs.Table.{differ}
use Rattle.sx_alu.specs.Table as alu
use Rattle.sx_rules.specs.declared.access.Violation.TheVariants as bad
use Rattle.spec_machine.specs.Plan.{Plan, Done, Stop, Fetch, Load, Store}
use Rattle.spec_machine.specs.Registers.{cut_value, onward, reg, set_reg, at_pc, flags, set_flags}
use Rattle.spec_machine.specs.Registers.{incremented}

-- The source operand is read, and its register goes on where the mode says so; what follows gets
-- the value and the registers. PC is already after the first word, where the source's extension
-- word is.
abbrev pub from_source : Bool → Operand → List ℕ → (ℕ → List ℕ → Plan) → Plan
from_source wide (Reg r) regs k = k (cut_value wide (reg regs r)) regs
from_source wide (Indexed r x) regs k = Load wide (onward (reg regs r) x) (λ v. k v regs)
from_source wide (Symbolic x) regs k = Load wide (onward (reg regs 0) x) (λ v. k v regs)
from_source wide (Absolute x) regs k = Load wide x (λ v. k v regs)
from_source wide (Indirect r) regs k = Load wide (reg regs r) (λ v. k v regs)
from_source wide (Increment r) regs k = Load wide (reg regs r) (λ v. k v (incremented wide regs r))
from_source wide (Immediate x) regs k = k (cut_value wide x) regs
from_source wide (Const c) regs k = k (cut_value wide c) regs

-- what an operation on two operands gives of source and destination
abbrev pub computed : Op2 → Bool → ℕ → ℕ → Flags → ℕ × Flags
computed op2.Mov wide s d f = (s, f)
computed op2.Add wide s d f = alu.row calc.Add wide s d f
computed op2.Addc wide s d f = alu.row calc.AddCarry wide s d f
computed op2.Subc wide s d f = alu.row calc.SubCarry wide s d f
computed op2.Sub wide s d f = alu.row calc.Sub wide s d f
computed op2.Cmp wide s d f = alu.row calc.Sub wide s d f
computed op2.Bit wide s d f = alu.row calc.And wide s d f
computed op2.Bic wide s d f = alu.row calc.AndNot wide s d f
computed op2.Bis wide s d f = alu.row calc.Or wide s d f
computed op2.Xor wide s d f = alu.row calc.Xor wide s d f
computed op2.And wide s d f = alu.row calc.And wide s d f

-- MOV doesn't read its destination
abbrev pub reads : Op2 → Bool
reads op2.Mov = false
reads _ = true

-- CMP and BIT write nothing
abbrev pub writes : Op2 → Bool
writes op2.Cmp = false
writes op2.Bit = false
writes _ = true

-- The end of an operation on a register: the flags, and then the result, which is where the
-- register is SR.
abbrev pub into_register : Bool → ℕ → ℕ × Flags → List ℕ → Plan
into_register written r result regs =
    if written then Done (set_reg (set_flags regs result.1) r result.0) else
    Done (set_flags regs result.1)

-- the end of an operation on a place in memory
abbrev pub into_memory : Bool → Bool → ℕ → ℕ × Flags → List ℕ → Plan
into_memory wide written at result regs =
    if written then Store wide at result.0 (Done (set_flags regs result.1)) else
    Done (set_flags regs result.1)

-- an operation whose destination is in memory: it is read where the operation needs it, and written
-- where the operation writes
abbrev pub on_memory : Op2 → Bool → ℕ → ℕ → List ℕ → Plan
on_memory op wide at s regs =
    if reads op then Load wide at (λ d. into_memory wide (writes op) at
    (computed op wide s d (flags regs)) regs)
    else into_memory wide (writes op) at (computed op wide s 0 (flags regs)) regs

-- An operation with its source read, at the destination. PC is already after the instruction, and
-- an extension word of the destination is its last word.
abbrev pub onto : Op2 → Bool → Operand → ℕ → List ℕ → Plan
onto op wide (Reg r) s regs =
    into_register (writes op) r (computed op wide s (cut_value wide (reg regs r)) (flags regs)) regs
onto op wide (Indexed r x) s regs = on_memory op wide (onward (reg regs r) x) s regs
onto op wide (Symbolic x) s regs = on_memory op wide (onward (reg regs 0) (65534 + x)) s regs
onto op wide (Absolute x) s regs = on_memory op wide x s regs
onto op wide _ s regs = Stop bad.Illegal

-- an instruction with two operands; `next` is the address after it
abbrev pub two : Op2 → Bool → Operand → Operand → List ℕ → ℕ → Plan
two op wide src dst regs next = from_source wide src regs (λ s r. onto op wide dst s (at_pc r next))

-- SP falls by 2
abbrev pub lowered : List ℕ → List ℕ
lowered regs = slice_set regs 1 (onward (slice_index regs 1) 65534)

-- a value is pushed, and PC moved
abbrev pub pushed : Bool → ℕ → ℕ → List ℕ → Plan
pushed wide v pc regs = Store wide (slice_index (lowered regs) 1) v (Done (at_pc (lowered regs) pc))

-- an operation that writes its result where its operand was read
abbrev pub in_memory : Calc → Bool → ℕ → List ℕ → Plan
in_memory kind wide at regs =
    Load wide at (λ v. into_memory wide true at (alu.row kind wide v 0 (flags regs)) regs)

-- a calculation on one operand, whose result replaces the operand
abbrev pub in_place : Calc → Bool → Operand → List ℕ → ℕ → Plan
in_place kind wide (Reg r) regs next = into_register true r
    (alu.row kind wide (cut_value wide (reg regs r)) 0 (flags regs)) (at_pc regs next)
in_place kind wide (Indexed r x) regs next =
    in_memory kind wide (onward (reg regs r) x) (at_pc regs next)
in_place kind wide (Symbolic x) regs next =
    in_memory kind wide (onward (reg regs 0) x) (at_pc regs next)
in_place kind wide (Absolute x) regs next = in_memory kind wide x (at_pc regs next)
in_place kind wide (Indirect r) regs next = in_memory kind wide (reg regs r) (at_pc regs next)
in_place kind wide (Increment r) regs next =
    in_memory kind wide (reg regs r) (at_pc (incremented wide regs r) next)
in_place kind wide _ regs next = Stop bad.Illegal

-- PUSH stores its operand. CALL stores the address after it, and goes to its operand.
abbrev pub one : Op1 → Bool → Operand → List ℕ → ℕ → Plan
one op1.Rrc wide arg regs next = in_place calc.Rrc wide arg regs next
one op1.Swpb wide arg regs next = in_place calc.Swap true arg regs next
one op1.Rra wide arg regs next = in_place calc.Rra wide arg regs next
one op1.Sxt wide arg regs next = in_place calc.Extend true arg regs next
one op1.Push wide arg regs next = from_source wide arg regs (λ v r. pushed wide v next r)
one op1.Call wide arg regs next = from_source true arg regs (λ v r. pushed true next (v - v % 2) r)

-- RETI takes SR and then PC from the stack
abbrev pub reti : List ℕ → Plan
reti regs =
    let sp = slice_index regs 1 in
    Load true sp (λ sr. Load true (onward sp 2) (λ pc.
    Done (set_reg (slice_set (set_reg regs 2 sr) 1 (onward sp 4)) 0 pc)))

-- whether a jump is taken: JNE, JEQ, JNC, JC, JN, JGE, JL, JMP
abbrev pub jump_taken : ℕ → Flags → Bool
jump_taken cond f =
    if cond == 0 then not f.z else if cond == 1 then f.z
    else if cond == 2 then not f.c else if cond == 3 then f.c
    else if cond == 4 then f.n
    else if cond == 5 then not (differ f.n f.v) else if cond == 6 then differ f.n f.v
    else true

-- an offset in words, as a distance in bytes modulo 65,536
abbrev pub distance : ℤ → ℕ
distance (pos n) = 2 * n
distance (negsuc n) = 65536 - 2 * (n + 1)

-- a jump: PC goes to the target where the condition holds
abbrev pub jump : ℕ → ℤ → List ℕ → ℕ → Plan
jump cond offset regs next =
    Done (at_pc regs (if jump_taken cond (flags regs) then onward next (distance offset) else next))

-- the plan of an instruction; PC is after its first word, and `next` is the address after the whole
abbrev pub row : Instr → List ℕ → ℕ → Plan
row (Two op byte src dst) regs next = two op (not byte) src dst regs next
row (One op byte arg) regs next = one op (not byte) arg regs next
row Reti regs next = reti regs
row (Jump cond offset) regs next = jump cond offset regs next
row (Sancus code) regs next = Stop bad.Illegal

-- the plan of the instruction that was read, or the violation of an illegal word
abbrev pub row_of : Option (Instr × ℕ) → List ℕ → ℕ → Plan
row_of None regs pc = Stop bad.Illegal
row_of (Some i) regs pc = row i.0 regs (onward pc (2 * i.1))

-- a first word with this many words: the extension words are fetched, and then its row
abbrev pub with_words : Option ℕ → ℕ → List ℕ → ℕ → Plan
with_words None w regs pc = Stop bad.Illegal
with_words (Some n) w regs pc =
    if n == 1 then row_of (instruction_at w 0 0) regs pc
    else if n == 2 then Fetch (onward pc 2) (λ x. row_of (instruction_at w x 0) regs pc)
    else Fetch (onward pc 2) (λ x. Fetch (onward pc 4) (λ y. row_of (instruction_at w x y) regs pc))

-- the plan of the plain instruction whose first word this is
unfoldable pub program : ℕ → List ℕ → Plan
program w regs =
    let pc = slice_index regs 0 in
    with_words (length_of w) w (at_pc regs (onward pc 2)) pc
