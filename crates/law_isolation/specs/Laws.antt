-- What holds of every run.
use Rattle.std.specs.Prelude.{◌≡◌, ℕ, ◌<◌, ◌⊎◌, List, slice_get, Some}
use Rattle.sx_rules.specs.declared.section.Section.{Section}
use Rattle.sx_rules.specs.Access.{Lives}
use Rattle.spec_machine.specs.State.{State}
use Rattle.spec_machine.specs.Guard.{PrivateKept}
use Rattle.sx_sched.specs.Lines.{Line}
use Rattle.spec_run.specs.Setting.{Setting}
use Rattle.spec_run.specs.State.{World}
use Rattle.spec_run.specs.Run.{run}
use Rattle.law_isolation.specs.Happening.{done}
use Rattle.law_isolation.specs.Script.{Script, End, Do, looks, performed, after}
use Rattle.law_isolation.specs.Lines.{script_of}
use Rattle.law_isolation.specs.Guarded.{SameBut, IsForeign, AllGuarded, GuardedRun}

-- the run of a schedule is its script, performed, whatever was done before
abbrev pub RunsArePerformed : Type 0
RunsArePerformed = (set : Setting) (lines : List Line) (before : Script)
    → run set (after set before) lines ≡ performed set (script_of set lines) (after set before)

-- whatever a script does, and whatever was done before, it is guarded
abbrev pub ScriptsGuarded : Type 0
ScriptsGuarded =
    (set : Setting) (before script : Script) → AllGuarded set script (after set before)

-- both, of every schedule
abbrev pub RunsGuarded : Type 0
RunsGuarded = (set : Setting) (lines : List Line) → GuardedRun set lines

-- nothing that a script does is an instruction of s's own code, while s is live on the n-th node
abbrev pub AllForeign : Setting → ℕ → Section → Script → World → Type 0
AllForeign set n s End w = Unit {0}
AllForeign set n s (Do x rest) w =
    ((a : State) → slice_get w.nodes n ≡ Some a → Lives a.sections.live s → IsForeign x n s a)
    × AllForeign set n s (rest (looks (done set x w).world)) (done set x w).world

-- Whatever was done since power-on: from there on, as long as none of s's own instructions comes,
-- worlds that differ in its private bytes alone show the same items, and differ in them alone, or
-- not at all.
abbrev pub RunsBlind : Type 0
RunsBlind =
    (set : Setting) (before script : Script) (n : ℕ) (s : Section) (v : World)
    → AllForeign set n s script (after set before) → SameBut n s (after set before) v
    → ((performed set script (after set before)).items ≡ (performed set script v).items)
    × SameBut n s (performed set script (after set before)).world (performed set script v).world

-- the n-th node, which was in the state a, has kept s and its private bytes, or was reset
pub record HasKept (n : ℕ) (s : Section) (a : State) (w : World) : Type 0 where
  pub node : State
  pub there : slice_get w.nodes n ≡ Some node
  pub kept : (PrivateKept s a.mem node.mem × Lives node.sections.live s) ⊎ (a.boot < node.boot)

-- and s keeps its private bytes, unless its node is reset
abbrev pub RunsKeep : Type 0
RunsKeep =
    (set : Setting) (before script : Script) (n : ℕ) (s : Section) (a : State)
    → slice_get (after set before).nodes n ≡ Some a → Lives a.sections.live s
    → AllForeign set n s script (after set before)
    → HasKept n s a (performed set script (after set before)).world
