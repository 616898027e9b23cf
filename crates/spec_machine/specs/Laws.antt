-- What holds of every node and every run of one, in the words of the definitions.
use Rattle.std.specs.Prelude.{◌≡◌, ℕ, ◌+◌, ◌<◌, ◌≤◌, ◌⊎◌, List}
use Rattle.sx_rules.specs.declared.section.Section.{Section}
use Rattle.sx_rules.specs.Access.{Lives}
use Rattle.sx_rules.specs.Placed.{Placed}
use Rattle.sx_bus.specs.declared.devices.Window.{Window}
use Rattle.sx_tag.specs.Mac.{Mac}
use Rattle.spec_machine.specs.State.{State, power_on}
use Rattle.spec_machine.specs.Guard.{PrivateKept}
use Rattle.spec_machine.specs.Guarding.{Guarded, FromOutside, AllFromOutside, GuardedRun}
use Rattle.spec_machine.specs.Acting.{Act, Sight, acted, acted_all}
use Rattle.spec_machine.specs.Guard.{Same}

-- the sections of a node that is switched on are placed
abbrev pub PowerOnPlaced : Type 0
PowerOnPlaced = (key : List ℕ) (devices : List Window) → Placed (power_on key devices).sections

-- whatever acts come, sections that are placed stay placed
abbrev pub StaysPlaced : Type 0
StaysPlaced = (mac : Mac) (acts : List Act) (a : State) → Placed a.sections
    → Placed (acted_all mac acts a).state.sections

-- each thing that can happen to a node, but a step of s's own code that is let run, is guarded
abbrev pub ActsGuarded : Type 0
ActsGuarded = (mac : Mac) (s : Section) (act : Act) (a : State) → Placed a.sections
    → Lives a.sections.live s → FromOutside s act a → Guarded Sight (acted mac act) s a

-- Every run reads nothing of the private bytes of s: nodes that differ in them alone show the same
-- all along, and at the end still differ in them alone, or not at all.
abbrev pub RunsBlind : Type 0
RunsBlind = (mac : Mac) (s : Section) (acts : List Act) (a b : State) → Placed a.sections
    → AllFromOutside mac s acts a → Same s a b
    → ((acted_all mac acts a).shown ≡ (acted_all mac acts b).shown)
    × Same s (acted_all mac acts a).state (acted_all mac acts b).state

-- every run keeps the private bytes of s and s itself, or the node was reset in it
abbrev pub RunsKeep : Type 0
RunsKeep = (mac : Mac) (s : Section) (acts : List Act) (a : State) → Placed a.sections
    → Lives a.sections.live s → AllFromOutside mac s acts a
    → (PrivateKept s a.mem (acted_all mac acts a).state.mem
    × Lives (acted_all mac acts a).state.sections.live s)
    ⊎ (a.boot < (acted_all mac acts a).state.boot)

-- an act raises the boot count by at most one
abbrev pub BootsCount : Type 0
BootsCount = (mac : Mac) (act : Act) (a : State) → (a.boot ≤ (acted mac act a).state.boot)
    × ((acted mac act a).state.boot ≤ a.boot + 1)

-- whatever happened to a node since it was switched on, every list of acts from there on is guarded
abbrev pub RunsGuarded : Type 0
RunsGuarded = (mac : Mac) (key : List ℕ) (devices : List Window) (before acts : List Act)
    → GuardedRun mac acts (acted_all mac before (power_on key devices)).state
