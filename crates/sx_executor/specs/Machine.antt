-- What instructions run on, and what they leave of it.
--     Machine      what an instruction runs on
--     moment_of, ran      its moment, and the outcome of a plan on it
--     switched_on, cleared_by_reset      as the power is switched on, and after a reset
--     extends_word      an extension word may be there
--     reaches, reaches_each, IsClear      this many bytes may be reached, and are no device's
--     written      bytes were written
--     Keeps      what every part of an instruction keeps
--     Runs, Gives      what a plan, and a part of one, answers and leaves
--     loaded, Loads, stored, Stores      one read and one write, and what each answers and leaves
use Rattle.std.specs.Prelude.{◌≡◌, ◌⊎◌, ℕ, ◌+◌, Bool, false, ◌&&◌, List, replicate, Result}
use Rattle.std.specs.Prelude.{Some, None}
use Rattle.sx_rules.specs.declared.access.Access.{Access}
use Rattle.sx_rules.specs.declared.access.Violation.{Violation}
use Rattle.sx_rules.specs.declared.section.Section.{Section}
use Rattle.sx_rules.specs.declared.section.Layout.{Layout}
use Rattle.sx_rules.specs.Access.{Sections, extends, section_of}
use Rattle.sx_rules.specs.Admission.{refusal}
use Rattle.sx_bus.specs.Memory.{blank}
use Rattle.sx_bus.specs.declared.devices.Window.{Window}
use Rattle.sx_bus.specs.Devices.{all_stale, places_of}
use Rattle.spec_machine.specs.declared.kinds.Touch.{Touch}
use Rattle.spec_machine.specs.Memory.{even, put_bytes}
use Rattle.spec_machine.specs.State.{no_sections}
use Rattle.spec_machine.specs.Plan.{Plan}
use Rattle.spec_machine.specs.Ranges.{meets_device}
use Rattle.spec_machine.specs.Run.{Moment, untouched, Outcome, may_range, may_each, load, store}
use Rattle.spec_machine.specs.Run.{after_read, after_write, exec}
use Rattle.spec_machine.specs.Answers.{EndsPlain, followed}

-- registers, memory, devices and sections, the module whose code runs (else 0), and the touches
-- so far
pub record Machine : Type 0 where
  pub regs : List ℕ
  pub mem : List ℕ
  pub devices : List Window
  pub sections : Sections
  pub own : ℕ
  pub touches : List Touch

-- what the definitions' executor works on: memory, devices and touches
abbrev pub moment_of : Machine → Moment
moment_of m = record { mem = m.mem; devices = m.devices; touches = m.touches }

-- the outcome of a plan, run by the executor of the definitions as code of the module `own`
abbrev pub ran : Plan → Machine → Outcome
ran plan m = exec m.sections m.own plan (moment_of m)

-- the parts of a node whose power is switched on, over this memory and beside these devices
abbrev pub switched_on : List ℕ → List Window → Machine
switched_on mem devices = record {
  regs = replicate 16 0;
  mem = mem;
  devices = devices;
  sections = no_sections;
  own = 0;
  touches = untouched;
}

-- after a reset: the sensors keep their values, and nothing else is left
abbrev pub cleared_by_reset : Machine → Machine
cleared_by_reset m = switched_on (blank 65536) (all_stale m.devices)

-- both bytes of a word may be those of an extension word of the running code
abbrev pub extends_word : Machine → ℕ → Bool
extends_word m at =
    extends m.sections.live m.own (even at) && extends m.sections.live m.own (even at + 1)

-- the running code may reach each of n bytes from an address on
abbrev pub reaches : Machine → Access → ℕ → ℕ → Bool
reaches m access at n = may_range m.sections.live m.own access at n

-- the same of the places of these bytes
abbrev pub reaches_each : Machine → Access → ℕ → List ℕ → Bool
reaches_each m access at bytes = may_each m.sections.live m.own access at bytes

-- the machine with these bytes from an address on
abbrev pub with_bytes : Machine → ℕ → List ℕ → Machine
with_bytes m at bytes = record m { mem = put_bytes m.mem at bytes }

-- it is the layout of a live section, or one that no rule refuses
abbrev pub IsPublic : Machine → Layout → Type 0
IsPublic m l =
    (refusal m.sections l (places_of m.devices) ≡ None)
    ⊎ ((id : ℕ) × (s : Section) × (section_of m.sections.live id ≡ Some s) × (s.layout ≡ l))

-- no device meets n bytes from an address on
abbrev pub IsClear : List Window → ℕ → ℕ → Type 0
IsClear devices at n = meets_device (places_of devices) at n ≡ false

-- the same code runs beside the same sections, and the devices are the same but for fresh marks
pub record KeepsSections (m n : Machine) : Type 0 where
  pub own : n.own ≡ m.own
  pub sections : n.sections ≡ m.sections
  pub devices : all_stale n.devices ≡ all_stale m.devices

-- A machine `m` that ran a plan answered so and is `n`. After a violation nothing is said of
-- registers and memory.
abbrev pub RunsPlan : Plan → Machine → Result (Unit {0}) Violation → Machine → Type 0
RunsPlan plan m answer n = EndsPlain (ran plan m) answer n.regs (moment_of n) × KeepsSections m n

-- A part of a plan gives a value and the registers to whatever follows it, or ends in a violation.
abbrev pub GivesValue : ((ℕ → List ℕ → Plan) → Plan) → Machine → Result ℕ Violation → Machine
    → Type 0
GivesValue part m answer n =
    ((rest : ℕ → List ℕ → Plan) → ran (part rest) m ≡ followed answer (λ v. ran (rest v n.regs) n))
    × KeepsSections m n

-- one read of a machine, and what follows it
abbrev pub loaded : Bool → ℕ → Machine → (ℕ → Moment → Outcome) → Outcome
loaded wide at m rest = after_read (load m.sections.live m.own wide at (moment_of m)) rest

-- it gives a value to whatever follows it, or ends in a violation; the registers stay
abbrev pub Loads : Bool → ℕ → Machine → Result ℕ Violation → Machine → Type 0
Loads wide at m answer n =
    ((rest : ℕ → Moment → Outcome)
    → loaded wide at m rest ≡ followed answer (λ v. rest v (moment_of n)))
    × (n.regs ≡ m.regs) × KeepsSections m n

-- one write to a machine, and what follows it
abbrev pub stored : Bool → ℕ → ℕ → Machine → (Moment → Outcome) → Outcome
stored wide at v m rest = after_write (store m.sections.live m.own wide at v (moment_of m)) rest

-- it is done before whatever follows it, or ends in a violation; the registers stay
abbrev pub Stores : Bool → ℕ → ℕ → Machine → Result (Unit {0}) Violation → Machine → Type 0
Stores wide at v m answer n =
    ((rest : Moment → Outcome)
    → stored wide at v m rest ≡ followed answer (λ done. rest (moment_of n)))
    × (n.regs ≡ m.regs) × KeepsSections m n
