-- What may be done to a node from outside: an act is done or refused, and a refused act changes
-- nothing.
use Rattle.std.specs.Prelude.{ℕ, ◌+◌, ◌*◌, ◌==◌, Bool, true, ◌||◌, not, if◌then◌else◌, List, length}
use Rattle.std.specs.Prelude.{slice_index, slice_set, ◌/◌, ◌%◌, Option, Some, None, Result, Ok, Err}
use Rattle.sx_bus.specs.Devices.{with_sample, places_of}
use Rattle.spec_machine.specs.declared.kinds.Refused.{Refused}
use Rattle.spec_machine.specs.declared.kinds.Refused.TheVariants.{Busy, Guarded, Masked}
use Rattle.spec_machine.specs.declared.kinds.Event.TheVariants.{Quiet, Reset}
use Rattle.spec_machine.specs.declared.kinds.Seen.{Seen}
use Rattle.spec_machine.specs.Memory.{bytes_from, put_bytes}
use Rattle.spec_machine.specs.Ranges.{passes_end, meets_private, meets_public, meets_device}
use Rattle.spec_machine.specs.State.{State, reset}
use Rattle.spec_machine.specs.Plan.{Plan, Done, Load, Store}
use Rattle.spec_machine.specs.Run.{untouched, Outcome, Finished, Violated, Module, exec}
use Rattle.spec_machine.specs.Registers.{onward, set_reg}
use Rattle.spec_machine.specs.Step.{Shown, start}

-- why bytes may not be written: a module runs, or a section or a device is in the way
abbrev pub put_refusal : State → ℕ → ℕ → Option Refused
put_refusal s at n =
    if not (s.cur == 0) then Some Busy
    else if passes_end at n || (meets_public s.sections.live at n
    || (meets_private s.sections.live at n || meets_device (places_of s.devices) at n)) then
    Some Guarded
    else None

-- public sections may be read
abbrev pub take_refusal : State → ℕ → ℕ → Option Refused
take_refusal s at n =
    if not (s.cur == 0) then Some Busy
    else if passes_end at n || (meets_private s.sections.live at n
    || meets_device (places_of s.devices) at n) then Some Guarded
    else None

-- an act that nothing but a running module refuses
abbrev pub busy : State → Option Refused
busy s = if s.cur == 0 then None else Some Busy

-- an act that changes the state, unless it is refused
abbrev pub unless : {T : Type 0} → Option Refused → State → Shown T → Shown (Result T Refused)
unless None s done = record { state = done.state; shown = Ok done.shown }
unless (Some refused) s done = record { state = s; shown = Err refused }

-- this state, where nothing is shown
abbrev pub now : State → Shown (Unit {0})
now s = record { state = s; shown = tt }

-- bytes are put into memory from outside
abbrev pub put : State → ℕ → List ℕ → Shown (Result (Unit {0}) Refused)
put s at bytes =
    unless (put_refusal s at (length bytes)) s (now (record s { mem = put_bytes s.mem at bytes }))

-- bytes are taken from memory from outside
abbrev pub take : State → ℕ → ℕ → Shown (Result (List ℕ) Refused)
take s at n = unless (take_refusal s at n) s (record { state = s; shown = bytes_from s.mem at n })

-- a set of PC ends what was known of the last instruction
abbrev pub set : State → ℕ → ℕ → Shown (Result (Unit {0}) Refused)
set s r v =
    unless (busy s) s
    (now (record s { regs = set_reg s.regs r v; last = if r == 0 then 0 else s.last }))

-- a sensor gets a value
abbrev pub sense : State → ℕ → ℕ → Shown (Result (Unit {0}) Refused)
sense s device v =
    unless (busy s) s (now (record s { devices = with_sample s.devices device v }))

-- GIE, bit 3 of SR, enables interrupts
abbrev pub is_enabled : List ℕ → Bool
is_enabled regs = (slice_index regs 2 / 8 % 2) == 1

-- why an interrupt is refused: a module runs, or interrupts are masked
abbrev pub irq_refusal : State → Option Refused
irq_refusal s =
    if not (s.cur == 0) then Some Busy else if is_enabled s.regs then None else Some Masked

-- An interrupt pushes PC and then SR as code outside every module, clears SR, and then loads PC
-- from its vector.
unfoldable pub interrupt : ℕ → List ℕ → Plan
interrupt line regs =
    let first = onward (slice_index regs 1) 65534 in
    let second = onward (slice_index regs 1) 65532 in
    Store true first (slice_index regs 0) (Store true second (slice_index regs 2)
    (Load true (0xFFE0 + 2 * line) (λ pc. Done (set_reg (slice_set (slice_set regs 1 second) 2 0) 0
    pc))))

-- the state after an interrupt, which ends what was known of the last instruction
abbrev pub interrupted : State → Outcome → Shown Seen
interrupted s (Violated v) =
    record { state = reset s; shown = record { touch = untouched; event = Reset v } }
interrupted s (Finished regs x) = record {
  state = record s { regs = regs; mem = x.mem; devices = x.devices; last = 0 };
  shown = record { touch = x.touches; event = Quiet };
}
interrupted s (Module regs x sections event exchange) =
    record { state = s; shown = record { touch = untouched; event = Quiet } }

-- an interrupt on this line
abbrev pub irq : State → ℕ → Shown (Result Seen Refused)
irq s line =
    unless (irq_refusal s) s (interrupted s (exec s.sections 0 (interrupt line s.regs) (start s)))
