-- What it means that what happens to a node is guarded.
use Rattle.std.specs.Prelude.{◌≡◌, ◌<◌, ◌⊎◌, List, [], ◌∷◌}
use Rattle.sx_rules.specs.declared.section.Section.{Section}
use Rattle.sx_rules.specs.Access.{Lives}
use Rattle.sx_tag.specs.Mac.{Mac}
use Rattle.spec_machine.specs.State.{State}
use Rattle.spec_machine.specs.Step.{Shown}
use Rattle.spec_machine.specs.Guard.{Twins, PrivateKept, Untouched, Foreign, Same}
use Rattle.spec_machine.specs.Acting.{Act, Step, Restart, Put, Set, Take, Sense, Interrupt, Sight}
use Rattle.spec_machine.specs.Acting.{acted, acted_all}

-- What happens to a node doesn't read, change or show the private bytes of s.
pub record Guarded (T : Type 0) (act : State → Shown T) (s : Section) (a : State) : Type 0 where
  -- it changes none of them
  pub kept : Untouched s a (act a).state
  -- it reads none of them: nodes that differ in them alone show the same and differ in them alone
  -- afterwards
  pub blind : (b : State) → Twins s a b → ((act a).shown ≡ (act b).shown)
      × Twins s (act a).state (act b).state

-- an act that isn't a step of code of s that is let run
abbrev pub FromOutside : Section → Act → State → Type 0
FromOutside s Step a = Foreign s a
FromOutside s Restart a = Unit {0}
FromOutside s (Put at bytes) a = Unit {0}
FromOutside s (Set r v) a = Unit {0}
FromOutside s (Take at n) a = Unit {0}
FromOutside s (Sense device v) a = Unit {0}
FromOutside s (Interrupt line) a = Unit {0}

-- none of the acts is a step of code of s that is let run, while s is there
abbrev pub AllFromOutside : Mac → Section → List Act → State → Type 0
AllFromOutside mac s [] a = Unit {0}
AllFromOutside mac s (act ∷ acts) a =
    (Lives a.sections.live s → FromOutside s act a)
    × AllFromOutside mac s acts (acted mac act a).state

-- each act of a list is guarded, for each section that is before it, unless it is a step of the
-- section's own code
abbrev pub AreGuarded : Mac → List Act → State → Type 0
AreGuarded mac [] a = Unit {0}
AreGuarded mac (act ∷ acts) a =
    ((s : Section) → Lives a.sections.live s → FromOutside s act a
    → Guarded Sight (acted mac act) s a)
    × AreGuarded mac acts (acted mac act a).state

-- a list of acts from a state on is guarded
pub record GuardedRun (mac : Mac) (acts : List Act) (a : State) : Type 0 where
  -- each of its acts is
  pub each : AreGuarded mac acts a
  -- where none is a step of s's own code, nodes that differ in the private bytes of s alone show
  -- the same all along, and at the end still differ in them alone, or not at all
  pub blind : (s : Section) (b : State) → AllFromOutside mac s acts a → Same s a b
      → ((acted_all mac acts a).shown ≡ (acted_all mac acts b).shown)
      × Same s (acted_all mac acts a).state (acted_all mac acts b).state
  -- and s is there with its private bytes as before, or the node was reset
  pub kept : (s : Section) → Lives a.sections.live s → AllFromOutside mac s acts a
      → (PrivateKept s a.mem (acted_all mac acts a).state.mem
      × Lives (acted_all mac acts a).state.sections.live s)
      ⊎ (a.boot < (acted_all mac acts a).state.boot)
