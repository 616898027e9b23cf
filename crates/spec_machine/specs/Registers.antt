-- The sixteen registers.
use Rattle.std.specs.Prelude.{ℕ, ◌+◌, ◌-◌, ◌%◌, ◌==◌, Bool, ◌||◌, if◌then◌else◌, List, slice_index}
use Rattle.std.specs.Prelude.{slice_set}
use Rattle.sx_alu.specs.Table.{limit}
use Rattle.sx_alu.specs.declared.flags.Flags.{Flags}
use Rattle.sx_alu.specs.Status.{flags_of, with_flags_in}

-- a value cut to a word, or in byte form to a byte
abbrev pub cut_value : Bool → ℕ → ℕ
cut_value wide v = v % limit wide

-- the address n bytes on
abbrev pub onward : ℕ → ℕ → ℕ
onward at n = (at + n) % 65536

-- the value of a register
abbrev pub reg : List ℕ → ℕ → ℕ
reg regs r = slice_index regs (r % 16)

-- What a register keeps of a value: bit 0 of PC and of SP stays 0, bits 9 to 15 of SR read 0, and
-- the constant generator R3 reads 0 and drops what is written.
abbrev pub kept_in : ℕ → ℕ → ℕ
kept_in r v =
    if (r == 0) || (r == 1) then v - v % 2 else if r == 2 then v % 512 else if r == 3 then 0 else v

-- the registers with one set to what it keeps of a value
abbrev pub set_reg : List ℕ → ℕ → ℕ → List ℕ
set_reg regs r v = slice_set regs (r % 16) (kept_in (r % 16) v)

-- PC moved
abbrev pub at_pc : List ℕ → ℕ → List ℕ
at_pc regs pc = slice_set regs 0 pc

-- the flags in SR
abbrev pub flags : List ℕ → Flags
flags regs = flags_of (slice_index regs 2)

-- the registers with these flags in SR, whose other bits stay
abbrev pub set_flags : List ℕ → Flags → List ℕ
set_flags regs f = slice_set regs 2 (with_flags_in (slice_index regs 2) f)

-- `@Rn+` goes on by 1 for bytes and 2 for words, always by 2 for SP
abbrev pub incremented : Bool → List ℕ → ℕ → List ℕ
incremented wide regs r =
    slice_set regs (r % 16) (onward (reg regs r) (if wide || (r == 1) then 2 else 1))
