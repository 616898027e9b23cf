-- What the event of a step says of the node before and after it.
use Rattle.std.specs.Prelude.{◌≡◌, ◌≢◌, ℕ, ◌-◌, ◌⊎◌, true, List, replicate, Some, None}
use Rattle.sx_rules.specs.declared.section.Section.{Section}
use Rattle.sx_rules.specs.declared.section.Layout.{Layout}
use Rattle.sx_rules.specs.Access.{in_public, holder, Lives, section_of}
use Rattle.sx_rules.specs.Admission.{refusal, admitted, removed}
use Rattle.sx_rules.specs.Placed.{Placed}
use Rattle.sx_bus.specs.Devices.{places_of}
use Rattle.sx_tag.specs.Mac.{Mac}
use Rattle.sx_tag.specs.Keys.{module_key}
use Rattle.spec_machine.specs.declared.kinds.Event.{Event}
use Rattle.spec_machine.specs.declared.kinds.Event.TheVariants.{Quiet, Reset, Protected, Removed}
use Rattle.spec_machine.specs.declared.kinds.Event.TheVariants.{Wrapped, Unwrapped, Left}
use Rattle.spec_machine.specs.Memory.{bytes_from}
use Rattle.spec_machine.specs.Protect.{identity_at, layout_in, provider_in, wiped}
use Rattle.spec_machine.specs.State.{State, reset}
use Rattle.spec_machine.specs.Step.{pc_of, step}
use Rattle.spec_machine.specs.Acting.{Act, Step, Restart, Put, Set, Take, Sense, Interrupt, acted}

-- the bytes of a private section
abbrev pub private_bytes : Layout → List ℕ → List ℕ
private_bytes l mem = bytes_from mem l.priv_from (l.priv_to - l.priv_from)

-- each byte of a layout's private part is 0
abbrev pub IsZeroed : Layout → List ℕ → Type 0
IsZeroed l mem = private_bytes l mem ≡ replicate (l.priv_to - l.priv_from) 0

-- the chain's key for a provider and a layout with its present public bytes
abbrev pub chain_key : Mac → State → ℕ → Layout → List ℕ
chain_key mac a provider l = module_key mac a.key a.boot provider (identity_at a.mem l)

-- the instruction at an address is code of the live module with the id
pub record IsCodeOf (live : List Section) (id at : ℕ) : Type 0 where
  pub section : Section
  pub lives : Lives live section
  pub named : section.id ≡ id
  pub holds : in_public section at ≡ true

-- The section that R9 to R13 name wasn't refused, and is under the next id: with its provider
-- and layout, the key of the bytes as they were, and zeros in its private part. No other byte
-- changed.
pub record IsAdmitted (mac : Mac) (a b : State) (id : ℕ) : Type 0 where
  pub next : id ≡ a.sections.next
  pub admits : refusal a.sections (layout_in a.regs) (places_of a.devices) ≡ None
  pub sections : b.sections ≡ admitted a.sections (layout_in a.regs) (provider_in a.regs)
      (chain_key mac a (provider_in a.regs) (layout_in a.regs))
  pub memory : b.mem ≡ wiped a.mem (layout_in a.regs)
  pub zeros : IsZeroed (layout_in a.regs) b.mem

-- the module whose code the instruction is was removed, with zeros left in its private part; no
-- other byte changed
pub record IsRemoved (a b : State) (id : ℕ) : Type 0 where
  pub code : IsCodeOf a.sections.live id (pc_of a)
  pub sections : b.sections ≡ removed a.sections id
  pub memory : b.mem ≡ wiped a.mem code.section.layout
  pub zeros : IsZeroed code.section.layout b.mem

-- what an event says
abbrev pub Says : Mac → State → State → Event → Type 0
Says mac a b Quiet = b.sections ≡ a.sections
Says mac a b (Reset v) = b ≡ reset a
Says mac a b (Protected id) = IsAdmitted mac a b id
Says mac a b (Removed id) = IsRemoved a b id
Says mac a b (Wrapped id) = IsCodeOf a.sections.live id (pc_of a) × (b.sections ≡ a.sections)
Says mac a b (Unwrapped id) = IsCodeOf a.sections.live id (pc_of a) × (b.sections ≡ a.sections)
Says mac a b (Left id) =
    IsCodeOf a.sections.live id (pc_of a) × (holder a.sections.live (pc_of b) ≢ id)
    × (b.sections ≡ a.sections)

-- each step's event says what it did to the sections, and whose code it was
abbrev pub StepsSay : Type 0
StepsSay = (mac : Mac) (a : State) → Placed a.sections
    → Says mac a (step mac a).state (step mac a).shown.event

-- an act that is no step
abbrev pub IsFromOutside : Act → Type 0
IsFromOutside Step = ⊥
IsFromOutside Restart = Unit {0}
IsFromOutside (Put at bytes) = Unit {0}
IsFromOutside (Set r v) = Unit {0}
IsFromOutside (Take at n) = Unit {0}
IsFromOutside (Sense device v) = Unit {0}
IsFromOutside (Interrupt line) = Unit {0}

-- every other act keeps the sections, unless it resets the node
abbrev pub OthersKeepSections : Type 0
OthersKeepSections = (mac : Mac) (act : Act) (a : State) → IsFromOutside act
    → ((acted mac act a).state.sections ≡ a.sections) ⊎ ((acted mac act a).state ≡ reset a)

-- a section that was just protected has private bytes of 0
abbrev pub FreshSections : Type 0
FreshSections = (mac : Mac) (a : State) (id : ℕ) (s : Section) → Placed a.sections
    → (step mac a).shown.event ≡ Protected id
    → section_of (step mac a).state.sections.live id ≡ Some s
    → IsZeroed s.layout (step mac a).state.mem
