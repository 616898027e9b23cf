-- Turns of deployed modules, in every run.
use Rattle.std.specs.Prelude.{◌≡◌, ℕ, true, List, slice_get, Some}
use Rattle.sx_mean.specs.Application.{PartTree}
use Rattle.sx_mean.specs.Ends.{ends_of}
use Rattle.sx_rules.specs.declared.access.Violation.{Violation}
use Rattle.sx_rules.specs.declared.section.Section.{Section}
use Rattle.sx_rules.specs.Access.{Lives}
use Rattle.spec_machine.specs.declared.kinds.Event.{Event}
use Rattle.spec_machine.specs.State.{State}
use Rattle.spec_machine.specs.Node.{IsNode}
use Rattle.spec_machine.specs.NodeLaws.{shapes}
use Rattle.spec_machine.specs.Frame.{HaveKeys}
use Rattle.sx_image.specs.Reach.{Comes}
use Rattle.spec_invocation.specs.Setup.{Setup}
use Rattle.spec_invocation.specs.Marks.{Mark}
use Rattle.spec_invocation.specs.Progress.{Invoked}
use Rattle.spec_invocation.specs.Invocation.{invoke}
use Rattle.sx_image.specs.Watched.{Watched, watch}
use Rattle.sx_image.specs.Image.{Enters, setup_at, call_at, progress_at}
use Rattle.sx_image.specs.Realizes.{Underway, Aborted, Exited}
use Rattle.spec_run.specs.Setting.{Setting, Site, is_at_site, windows_at}
use Rattle.spec_run.specs.Deployer.{list_at}
use Rattle.spec_run.specs.Law.{image_at}
use Rattle.spec_run.specs.State.{World}

-- the m-th module as it is set up where it was entered, and what its invocation comes to
abbrev pub setup_of : Setting → ℕ → PartTree → Section → State → Setup
setup_of set m q sec before = setup_at set.mac q.tree (ends_of set.app m) sec before

abbrev pub turn_of : Setting → ℕ → PartTree → Section → State → Invoked
turn_of set m q sec before =
    invoke (setup_of set m q sec before) (call_at before)
    (progress_at (setup_of set m q sec before) before)

-- The module is in a turn: it was entered in the state `before`, showed these marks since, and from
-- here its node comes to what the invocation comes to.
pub record InTurn (set : Setting) (m : ℕ) (q : PartTree) (site : Site) (sec : Section)
    (s : State) : Type 0 where
  pub before : State
  pub enters : Enters q.tree (image_at site) sec before
  pub boot : before.boot ≡ s.boot
  pub bound : ℕ
  pub seen : List Mark
  pub last : Event
  pub comes : Comes Watched Violation (watch set.mac) (λ w. 1)
      (Underway (setup_of set m q sec before) (turn_of set m q sec before) before)
      (Aborted (turn_of set m q sec before))
      (Exited (setup_of set m q sec before) (turn_of set m q sec before) before) bound
      (record { node = s; marks = seen; event = last })

-- the n-th node is as it should be, with its key and its sections' keys, and a deployed module that
-- runs on it is in a turn
pub record NodeTurns (set : Setting) (n : ℕ) (s : State) : Type 0 where
  pub windows : shapes s.devices ≡ windows_at n set.app.devices set.places
  pub node : IsNode s
  pub key : s.key ≡ list_at set.keys n
  pub keys : HaveKeys set.mac s
  pub turns : (m : ℕ) (q : PartTree) (site : Site) (sec : Section)
      → slice_get set.app.parts m ≡ Some q → slice_get set.sites m ≡ Some site
      → Lives s.sections.live sec → is_at_site n s.mem sec site ≡ true → s.cur ≡ sec.id
      → InTurn set m q site sec s

abbrev pub AllTurn : Setting → World → Type 0
AllTurn set w = (n : ℕ) (s : State) → slice_get w.nodes n ≡ Some s → NodeTurns set n s
