-- The instructions that protect a module and that remove it (Sancus 2.0; the registers are own).
use Rattle.std.specs.Prelude.{ℕ, ◌-◌, List, slice_index, slice_set, Option, Some, None}
use Rattle.sx_tag.specs.Mac.{Mac}
use Rattle.sx_tag.specs.Keys.{section_key, identity}
use Rattle.sx_rules.specs.declared.section.Layout.{Layout}
use Rattle.sx_rules.specs.declared.section.Section.{Section}
use Rattle.sx_rules.specs.declared.admission.Refusal.{Refusal}
use Rattle.sx_rules.specs.declared.admission.Refusal.TheVariants.{Bounds, Overlap, Device, Full}
use Rattle.sx_rules.specs.declared.admission.Refusal.TheVariants.{Ids}
use Rattle.sx_rules.specs.Admission.{refusal, admitted, removed}
use Rattle.sx_bus.specs.Devices.{places_of}
use Rattle.spec_machine.specs.declared.kinds.Event.TheVariants.{Quiet, Protected, Removed}
use Rattle.spec_machine.specs.Memory.{bytes_from, zeroed}
use Rattle.spec_machine.specs.Given.{Given, own_section, untouched_with, concluded}
use Rattle.spec_machine.specs.Run.{Outcome, Module}

-- a module's identity: the bytes of its public section, and its layout
abbrev pub identity_at : List ℕ → Layout → List ℕ
identity_at mem l = identity (bytes_from mem l.pub_from (l.pub_to - l.pub_from)) l.pub_from l.pub_to
    l.priv_from l.priv_to

-- R10 and R11 are the start and the end of the public section, R12 and R13 those of the private
-- section
abbrev pub layout_in : List ℕ → Layout
layout_in regs =
    let at = slice_index regs in
    record { pub_from = at 10; pub_to = at 11; priv_from = at 12; priv_to = at 13 }

-- R9 is the provider
abbrev pub provider_in : List ℕ → ℕ
provider_in regs = slice_index regs 9

-- the number of a refusal, as R14 gives it
abbrev pub number_of : Refusal → ℕ
number_of Bounds = 1
number_of Overlap = 2
number_of Device = 3
number_of Full = 4
number_of Ids = 5

-- R15 is the id or 0, R14 the number of the refusal or 0
abbrev pub answer_registers : List ℕ → ℕ → ℕ → List ℕ
answer_registers regs id number = concluded (slice_set regs 14 number) id

-- the private bytes of a layout made zero
abbrev pub wiped : List ℕ → Layout → List ℕ
wiped mem l = zeroed mem l.priv_from (l.priv_to - l.priv_from)

-- the key of a module with this layout, from the bytes as they are
abbrev pub key_for : Mac → Given → List ℕ → Layout → List ℕ
key_for mac g mem l = section_key mac g.base (provider_in g.regs) (identity_at mem l)

-- the outcome of `protect`: a new section, or why there is none
abbrev pub protected_if : Mac → Given → List ℕ → Layout → Option Refusal → Outcome
protected_if mac g mem l None =
    Module (answer_registers g.regs g.sections.next 0) (untouched_with g (wiped mem l))
    (admitted g.sections l (provider_in g.regs) (key_for mac g mem l)) (Protected g.sections.next)
    g.exchange
protected_if mac g mem l (Some why) =
    Module (answer_registers g.regs 0 (number_of why)) (untouched_with g mem) g.sections Quiet
    g.exchange

-- The module is admitted under the next id, its private section is zeroed and its key derived; or
-- it is refused, and nothing but the registers changes.
unfoldable pub protect : Mac → Given → List ℕ → Outcome
protect mac g mem =
    let l = layout_in g.regs in
    protected_if mac g mem l (refusal g.sections l (places_of g.devices))

-- the outcome of `unprotect`: the module is removed and its private section zeroed, or nothing
-- where the code is of no module
abbrev pub removed_if : Given → List ℕ → Option Section → Outcome
removed_if g mem None =
    Module (concluded g.regs 0) (untouched_with g mem) g.sections Quiet g.exchange
removed_if g mem (Some own) =
    Module (concluded g.regs 1) (untouched_with g (wiped mem own.layout)) (removed g.sections g.own)
    (Removed g.own) g.exchange

-- The module whose code it is is removed, and its private section zeroed. Outside every module only
-- R15 becomes 0.
unfoldable pub unprotect : Given → List ℕ → Outcome
unprotect g mem = removed_if g mem (own_section g)
