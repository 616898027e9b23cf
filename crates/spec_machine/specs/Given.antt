-- What a module instruction is given beside the memory.
use Rattle.std.specs.Prelude.{ℕ, List, slice_index, slice_set, Option}
use Rattle.sx_bus.specs.declared.devices.Window.{Window}
use Rattle.sx_rules.specs.declared.section.Section.{Section}
use Rattle.sx_rules.specs.Access.{Sections, section_of}
use Rattle.spec_machine.specs.declared.kinds.Exchange.{Exchange}
use Rattle.spec_machine.specs.Registers.{onward}
use Rattle.spec_machine.specs.Run.{Moment, untouched}

-- The registers, devices and sections; the module whose code the instruction is, else 0, and the
-- module that entered it; the node's key in this boot; and the last header and body that were
-- wrapped or unwrapped.
pub record Given : Type 0 where
  pub regs : List ℕ
  pub devices : List Window
  pub sections : Sections
  pub own : ℕ
  pub caller : ℕ
  pub base : List ℕ
  pub exchange : Exchange

-- the module whose code the instruction is; ids are above 0
abbrev pub own_section : Given → Option Section
own_section g = section_of g.sections.live g.own

-- with a memory, before anything is touched
abbrev pub untouched_with : Given → List ℕ → Moment
untouched_with g mem = record { mem = mem; devices = g.devices; touches = untouched }

-- R15 takes the answer, and PC goes on
abbrev pub concluded : List ℕ → ℕ → List ℕ
concluded regs answer = slice_set (slice_set regs 0 (onward (slice_index regs 0) 2)) 15 answer
