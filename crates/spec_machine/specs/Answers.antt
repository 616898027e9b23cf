-- What code answers and leaves for an outcome of the definitions; after a violation nothing is said
-- of registers and memory.
use Rattle.std.specs.Prelude.{◌≡◌, ℕ, List, Result, Ok, Err}
use Rattle.sx_rules.specs.declared.access.Violation.{Violation}
use Rattle.sx_bus.specs.declared.devices.Window.{Window}
use Rattle.spec_machine.specs.declared.kinds.Touch.{Touch}
use Rattle.spec_machine.specs.declared.kinds.Seen.{Seen}
use Rattle.spec_machine.specs.State.{State, reset}
use Rattle.spec_machine.specs.Step.{settled_step}
use Rattle.spec_machine.specs.Acts.{interrupted}
use Rattle.sx_rules.specs.Access.{Sections}
use Rattle.spec_machine.specs.declared.kinds.Event.{Event}
use Rattle.spec_machine.specs.declared.kinds.Exchange.{Exchange}
use Rattle.spec_machine.specs.Run.{Moment, untouched, Outcome, Finished, Violated, Module}

-- memory, devices and touches in mid-instruction
abbrev pub moment : List ℕ → List Window → List Touch → Moment
moment mem devices touches = record { mem = mem; devices = devices; touches = touches }

-- a plain instruction: its answer and the registers and the moment that it leaves
abbrev pub EndsPlain : Outcome → Result (Unit {0}) Violation → List ℕ → Moment → Type 0
EndsPlain (Finished r x) (Ok u) regs y = (regs ≡ r) × (y ≡ x)
EndsPlain (Violated v) (Err w) regs y = w ≡ v
EndsPlain (Finished r x) (Err w) regs y = ⊥
EndsPlain (Violated v) (Ok u) regs y = ⊥
EndsPlain (Module r x t e c) u regs y = ⊥

-- a module instruction: its answer, and the registers, memory, sections and exchange that it
-- leaves; it touches no device
abbrev pub EndsModule : List Window → Outcome → Result Event Violation → List ℕ → List ℕ → Sections
    → Exchange → Type 0
EndsModule devices (Module r x t e c) (Ok event) regs mem sections exchange =
    (event ≡ e) × (regs ≡ r) × (moment mem devices untouched ≡ x) × (sections ≡ t) × (exchange ≡ c)
EndsModule devices (Violated v) (Err w) regs mem sections exchange = w ≡ v
EndsModule devices (Module r x t e c) (Err w) regs mem sections exchange = ⊥
EndsModule devices (Violated v) (Ok event) regs mem sections exchange = ⊥
EndsModule devices (Finished r x) answer regs mem sections exchange = ⊥

-- an attempt at a step: its answer and the node that it leaves; a reset makes the same of that as
-- of the node before
abbrev pub Attempts : State → Outcome → Result Seen Violation → State → Type 0
Attempts s (Finished r x) (Ok seen) t =
    (t ≡ (settled_step s (Finished r x)).state) × (seen ≡ (settled_step s (Finished r x)).shown)
Attempts s (Module r x u e c) (Ok seen) t = (t ≡ (settled_step s (Module r x u e c)).state)
    × (seen ≡ (settled_step s (Module r x u e c)).shown)
Attempts s (Violated v) (Err w) t = (w ≡ v) × (reset t ≡ reset s) × (t.boot ≡ s.boot)
Attempts s (Violated v) (Ok seen) t = ⊥
Attempts s (Finished r x) (Err w) t = ⊥
Attempts s (Module r x u e c) (Err w) t = ⊥

-- the same for an attempt at an interrupt
abbrev pub Interrupts : State → Outcome → Result Seen Violation → State → Type 0
Interrupts s (Finished r x) (Ok seen) t =
    (t ≡ (interrupted s (Finished r x)).state) × (seen ≡ (interrupted s (Finished r x)).shown)
Interrupts s (Violated v) (Err w) t = (w ≡ v) × (reset t ≡ reset s) × (t.boot ≡ s.boot)
Interrupts s (Violated v) (Ok seen) t = ⊥
Interrupts s (Finished r x) (Err w) t = ⊥
Interrupts s (Module r x u e c) a t = ⊥

-- the rest of an instruction after a part's value, or the part's violation
abbrev pub followed : {T : Type 0} → Result T Violation → (T → Outcome) → Outcome
followed (Ok v) rest = rest v
followed (Err w) rest = Violated w
