-- What a module instruction is given and answers, from the executor, the arguments and the answer
-- of the call.
use Rattle.std.specs.Prelude.{◌≡◌, ℕ, List, Result, Ok, Err}
use Rattle.sx_rules.specs.declared.access.Violation.{Violation}
use Rattle.spec_machine.specs.declared.kinds.Event.{Event}
use Rattle.spec_machine.specs.declared.kinds.Event.TheVariants as event
use Rattle.spec_machine.specs.declared.kinds.Exchange.{Exchange}
use Rattle.spec_machine.specs.Given.{Given, untouched_with}
use Rattle.spec_machine.specs.Plan.{Plan}
use Rattle.spec_machine.specs.Run.{Outcome, exec}
use Rattle.spec_machine.specs.Answers.{EndsModule}
use Rattle.sx_executor.specs.Machine.{Machine}
use Rattle.sx_sancus.specs.declared.event.SancusEvent.{SancusEvent}
use Rattle.sx_sancus.specs.declared.event.SancusEvent.TheVariants.{Quiet, Protected, Removed}
use Rattle.sx_sancus.specs.declared.event.SancusEvent.TheVariants.{Wrapped, Unwrapped}

-- what an instruction on a machine is given
abbrev pub given_by : Machine → ℕ → List ℕ → Exchange → Given
given_by m caller base exchange = record {
  regs = m.regs;
  devices = m.devices;
  sections = m.sections;
  own = m.own;
  caller = caller;
  base = base;
  exchange = exchange;
}

-- a plan run on it
abbrev pub ran_with : Given → Plan → List ℕ → Outcome
ran_with g plan mem = exec g.sections g.own plan (untouched_with g mem)

-- the outcome of the plan that an instruction makes of what it is given
abbrev pub ran_of : (Given → Plan) → Machine → ℕ → List ℕ → Exchange → Outcome
ran_of row m caller base exchange =
    let g = given_by m caller base exchange in ran_with g (row g) m.mem

-- the event of a node's step, where the module whose code it is is `own`
abbrev pub event_of : ℕ → SancusEvent → Event
event_of own Quiet = event.Quiet
event_of own (Protected id) = event.Protected id
event_of own (Removed id) = event.Removed id
event_of own Wrapped = event.Wrapped own
event_of own Unwrapped = event.Unwrapped own

-- the answer of a module instruction as the node shows it
abbrev pub told : ℕ → Result SancusEvent Violation → Result Event Violation
told own (Ok e) = Ok (event_of own e)
told own (Err v) = Err v

-- A machine `m` that came to this outcome answered so, is `n` and left this exchange. The devices
-- stay as they are.
abbrev pub Concludes : Outcome → Machine
    → Result SancusEvent Violation → Machine → Exchange → Type 0
Concludes outcome m answer n exchange =
    EndsModule m.devices outcome (told m.own answer) n.regs n.mem n.sections exchange
    × (n.devices ≡ m.devices)

-- The same of the plan that an instruction makes of what it is given, from one exchange to the
-- next, whoever the caller is and whatever the node's key.
abbrev pub RunsRow : (Given → Plan) → Machine → Exchange
    → Result SancusEvent Violation → Machine → Exchange → Type 0
RunsRow row m before answer n after =
    (caller : ℕ) (base : List ℕ) → Concludes (ran_of row m caller base before) m answer n after
