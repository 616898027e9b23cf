-- The flags in the status register (TI, MSP430x2xx Family User's Guide, "Status Register"): C is
-- bit 0, Z bit 1, N bit 2, V bit 8.
use Rattle.std.specs.Prelude.{ℕ, ◌+◌, ◌*◌, ◌/◌, ◌%◌, ◌==◌}
use Rattle.sx_alu.specs.declared.flags.Flags.{Flags}
use Rattle.lemmas.specs.Truth.{truth}

-- the flags that a status register holds: C in bit 0, Z in bit 1, N in bit 2, V in bit 8
abbrev pub flags_of : ℕ → Flags
flags_of sr =
    record { c = sr % 2 == 1; z = sr / 2 % 2 == 1; n = sr / 4 % 2 == 1; v = sr / 256 % 2 == 1 }

-- bits 3 to 7 and those above 8 stay
abbrev pub with_flags_in : ℕ → Flags → ℕ
with_flags_in sr f =
    sr / 512 * 512 + truth f.v * 256 + sr / 8 % 32 * 8 + truth f.n * 4 + truth f.z * 2 + truth f.c
