-- One step of a node.
use Rattle.std.specs.Prelude.{ℕ, ◌+◌, ◌-◌, ◌==◌, nat_le, Bool, ◌&&◌, ◌||◌, not, if◌then◌else◌, List}
use Rattle.std.specs.Prelude.{slice_index, Option, Some, None, is_some}
use Rattle.sx_rules.specs.declared.access.Violation.TheVariants as bad
use Rattle.sx_rules.specs.declared.section.Section.{Section}
use Rattle.sx_rules.specs.Access.{Sections, holder, outside_private, in_order, section_of}
use Rattle.sx_tag.specs.Mac.{Mac}
use Rattle.sx_tag.specs.Keys.{boot_key}
use Rattle.sx_bus.specs.Devices.{device_at}
use Rattle.spec_machine.specs.declared.kinds.Event.{Event}
use Rattle.spec_machine.specs.declared.kinds.Event.TheVariants.{Quiet, Reset, Left}
use Rattle.spec_machine.specs.declared.kinds.Exchange.{Exchange}
use Rattle.spec_machine.specs.declared.kinds.Seen.{Seen}
use Rattle.spec_machine.specs.Memory.{even, word}
use Rattle.spec_machine.specs.State.{State, reset}
use Rattle.spec_machine.specs.Run.{Moment, untouched, Outcome, Finished, Violated, Module, exec}
use Rattle.spec_machine.specs.Rows.{program}
use Rattle.spec_machine.specs.Given.{Given}
use Rattle.spec_machine.specs.Modules.{is_code, module_instruction}

-- a state, and what was shown on the way to it
pub record Shown (T : Type 0) : Type 0 where
  pub state : State
  pub shown : T

-- PC of a state
abbrev pub pc_of : State → ℕ
pc_of s = slice_index s.regs 0

-- the module whose public section holds PC, else 0: the instruction is an instruction of its code
abbrev pub own_of : State → ℕ
own_of s = holder s.sections.live (pc_of s)

-- memory and devices as an instruction begins
abbrev pub start : State → Moment
start s = record { mem = s.mem; devices = s.devices; touches = untouched }

-- the first words of the module instructions
abbrev pub is_module_word : ℕ → Bool
is_module_word w = nat_le 0x1380 w && is_code (w - 0x1380)

-- a live section has the id
abbrev pub is_live : List Section → ℕ → Bool
is_live live id = is_some (section_of live id)

-- the module that entered `own`: one that begins to run was entered from that of the last
-- instruction, if it is still there
abbrev pub entered_from : State → ℕ → ℕ
entered_from s own =
    if own == s.cur then s.caller else if is_live s.sections.live s.last then s.last else 0

-- what a module instruction at PC is given beside the memory
abbrev pub given_at_pc : Mac → State → Given
given_at_pc mac s = record {
  regs = s.regs;
  devices = s.devices;
  sections = s.sections;
  own = own_of s;
  caller = entered_from s (own_of s);
  base = boot_key mac s.key s.boot;
  exchange = s.exchange;
}

-- the instruction at PC
abbrev pub instruction : Mac → State → Outcome
instruction mac s =
    let w = word s.mem (pc_of s) in
    if is_module_word w then module_instruction mac (w - 0x1380) (given_at_pc mac s) s.mem
    else exec s.sections (own_of s) (program w s.regs) (start s)

-- where PC lies on no device: in no public section but that of the module that runs, or at an entry
abbrev pub ordered : Mac → State → Option ℕ → Outcome
ordered mac s (Some device) = Violated bad.Device
ordered mac s None =
    if in_order s.sections.live s.cur (pc_of s) then instruction mac s else Violated bad.Order

-- the word at an address lies in no private section
abbrev pub word_outside : List Section → ℕ → Bool
word_outside live at = outside_private live (even at) && outside_private live (even at + 1)

-- PC passes the tests, so that the instruction there is let run
abbrev pub is_let_run : State → Bool
is_let_run s =
    word_outside s.sections.live (pc_of s) && (not (is_some (device_at s.devices (pc_of s)))
    && in_order s.sections.live s.cur (pc_of s))

-- what a step does, up to its first violation: the tests of PC, and then the instruction
abbrev pub attempt : Mac → State → Outcome
attempt mac s =
    if word_outside s.sections.live (pc_of s) then ordered mac s (device_at s.devices (pc_of s))
    else Violated bad.Fetch

-- The state after an instruction of `own`. The module still runs where PC is in its public section.
abbrev pub state_after : State → ℕ → List ℕ → Moment → Sections → Exchange → State
state_after s own regs x sections exchange = record s {
  regs = regs;
  mem = x.mem;
  devices = x.devices;
  sections = sections;
  cur = if holder sections.live (slice_index regs 0) == own then own else 0;
  last = own;
  caller = entered_from s own;
  exchange = exchange;
}

-- a plain instruction shows that its module left its public section
abbrev pub left : State → ℕ → List ℕ → Event
left s own regs =
    if (own == 0) || (holder s.sections.live (slice_index regs 0) == own) then Quiet else Left own

-- a violation resets the node, and nothing else of the step is seen
abbrev pub settled_step : State → Outcome → Shown Seen
settled_step s (Violated v) =
    record { state = reset s; shown = record { touch = untouched; event = Reset v } }
settled_step s (Finished regs x) = record {
  state = state_after s (own_of s) regs x s.sections s.exchange;
  shown = record { touch = x.touches; event = left s (own_of s) regs };
}
settled_step s (Module regs x sections event exchange) = record {
  state = state_after s (own_of s) regs x sections exchange;
  shown = record { touch = x.touches; event = event };
}

-- one step of a node: the attempt, settled, so that a violation resets the node
abbrev pub step : Mac → State → Shown Seen
step mac s = settled_step s (attempt mac s)
