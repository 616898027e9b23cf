-- Sections that were recognized as deployed modules, so that their texts aren't compared again.
use Rattle.std.specs.Prelude.{◌≡◌, ◌<◌, ◌≤◌, ℕ, List, Some, replicate, slice_get}
use Rattle.sx_rules.specs.declared.section.Section.{Section}
use Rattle.sx_rules.specs.Access.{Lives}
use Rattle.spec_machine.specs.State.{State}
use Rattle.spec_run.specs.Setting.{Site, deployed}
use Rattle.sx_observe.specs.declared.recognized.Recognized.{Recognized}

-- It is true of its node: at the boot at which it was recognized, a live section with the id is the
-- module. It says nothing of a later boot, nor of a section that was removed, whose id isn't given
-- again.
pub record IsRecognized (sites : List Site) (a : State) (r : Recognized) : Type 0 where
  pub boot : r.boot ≤ a.boot
  pub given : r.boot ≡ a.boot → r.id < a.sections.next
  pub is : r.boot ≡ a.boot → (x : Section) → Lives a.sections.live x → x.id ≡ r.id
      → deployed sites r.node a.mem x ≡ Some r.part

-- each is true of its node
abbrev pub AreRecognized : List Site → List State → List Recognized → Type 0
AreRecognized sites nodes those = (i : ℕ) (r : Recognized) → slice_get those i ≡ Some r
    → (a : State) → slice_get nodes r.node ≡ Some a → IsRecognized sites a r

-- nothing was recognized yet: no section has the id 0
abbrev pub none_recognized : List Recognized
none_recognized = replicate 64 (record { node = 0; boot = 0; id = 0; part = 0 })
