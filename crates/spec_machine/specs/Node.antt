-- What holds of every node, whatever happened to it.
use Rattle.std.specs.Prelude.{◌≡◌, ℕ, ◌<◌, ◌⊎◌, true, List, length, slice_index}
use Rattle.sx_rules.specs.declared.section.Section.{Section}
use Rattle.sx_rules.specs.Access.{Lives}
use Rattle.sx_rules.specs.Admission.{no_device}
use Rattle.sx_rules.specs.Placed.{Placed}
pub use Rattle.sx_bus.specs.Memory.{AreMemoryBytes}
use Rattle.sx_bus.specs.Devices.{ArePlaces, HaveSamples, places_of}
use Rattle.spec_machine.specs.Registers.{kept_in}
use Rattle.spec_machine.specs.State.{State}
use Rattle.spec_machine.specs.Step.{own_of}

-- sixteen registers, each with a word that it keeps: PC and SP are even, SR is below 512, and R3 is
-- 0
pub record AreRegisters (regs : List ℕ) : Type 0 where
  pub sixteen : length regs ≡ 16
  pub words : (r : ℕ) → slice_index regs r < 65536
  pub kept : (r : ℕ) → kept_in r (slice_index regs r) ≡ slice_index regs r

-- no device's word meets the public part of a live section
abbrev pub AreApartDevices : List ℕ → List Section → Type 0
AreApartDevices places live = (s : Section) → Lives live s → no_device places s.layout ≡ true

-- Registers, memory and the ids that it remembers are in range; devices are at places of their
-- own, in no public section, with values that a sensor can give; the sections are placed; and a
-- module runs only where its public section holds PC.
pub record IsNode (n : State) : Type 0 where
  pub registers : AreRegisters n.regs
  pub memory : AreMemoryBytes n.mem
  pub places : ArePlaces (places_of n.devices)
  pub samples : HaveSamples n.devices
  pub placed : Placed n.sections
  pub apart : AreApartDevices (places_of n.devices) n.sections.live
  pub last : n.last < 65536
  pub caller : n.caller < 65536
  pub runner : (n.cur ≡ 0) ⊎ (n.cur ≡ own_of n)
