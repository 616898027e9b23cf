-- What it means that a run is guarded.
use Rattle.std.specs.Prelude.{◌≡◌, ℕ, List, slice_get, Some}
use Rattle.sx_rules.specs.declared.section.Section.{Section}
use Rattle.sx_rules.specs.Access.{Lives}
use Rattle.spec_machine.specs.State.{State}
use Rattle.spec_machine.specs.Guard.{Untouched, Foreign, Same}
use Rattle.sx_sched.specs.Lines.{Line}
use Rattle.spec_run.specs.Setting.{Setting}
use Rattle.spec_run.specs.State.{World}
use Rattle.spec_run.specs.Acts.{with_node}
use Rattle.spec_run.specs.Run.{run}
use Rattle.law_isolation.specs.Happening.{Happening, Step, done}
use Rattle.law_isolation.specs.Script.{Script, End, Do, looks, performed, after}

-- Two worlds are the same but for their n-th nodes: these differ at most in the private bytes of s,
-- which is there, or not at all.
pub record SameBut (n : ℕ) (s : Section) (w v : World) : Type 0 where
  pub node : State
  pub twin : State
  pub there : slice_get w.nodes n ≡ Some node
  pub same : Same s node twin
  pub rest : v ≡ with_node w n twin w.ledger w.steps

-- if it is a step of the n-th node, it is no instruction of s's own code that is let run
abbrev pub IsForeign : Happening → ℕ → Section → State → Type 0
IsForeign x n s a = x ≡ Step n → Foreign s a

-- What happens changes no private byte of s, a live section of the n-th node, and reads none.
pub record LeavesAlone (set : Setting) (x : Happening) (w : World) (n : ℕ) (s : Section)
    (a : State) : Type 0 where
  -- the node afterwards: s is live with its private bytes as before, or the node was reset
  pub left : State
  pub there : slice_get (done set x w).world.nodes n ≡ Some left
  pub kept : Untouched s a left
  -- from each world that differs in these bytes alone it shows the same items, and leaves a world
  -- that differs in them alone, or not at all
  pub blind : (v : World) → SameBut n s w v → ((done set x w).items ≡ (done set x v).items)
      × SameBut n s (done set x w).world (done set x v).world

-- Each thing that a script does leaves alone each section that is live before it, unless it is an
-- instruction of that section's own code.
abbrev pub AllGuarded : Setting → Script → World → Type 0
AllGuarded set End w = Unit {0}
AllGuarded set (Do x rest) w =
    ((n : ℕ) (s : Section) (a : State) → slice_get w.nodes n ≡ Some a → Lives a.sections.live s
    → IsForeign x n s a → LeavesAlone set x w n s a)
    × AllGuarded set (rest (looks (done set x w).world)) (done set x w).world

-- The run of a schedule is what comes of a script, whatever was done since power-on, and each thing
-- that the script does leaves private sections alone.
pub record GuardedRun (set : Setting) (lines : List Line) : Type 0 where
  pub script : Script
  pub is : (before : Script)
      → run set (after set before) lines ≡ performed set script (after set before)
  pub each : (before : Script) → AllGuarded set script (after set before)
