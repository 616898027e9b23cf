-- Scripts: what happens in a run, one thing after the other, without a look at any memory.
use Rattle.std.specs.Prelude.{ℕ, List, [], map}
use Rattle.spec_machine.specs.State.{State}
use Rattle.spec_run.specs.Setting.{Setting}
use Rattle.spec_run.specs.State.{World, Acted, switched_on}
use Rattle.spec_run.specs.Acts.{only, then_}
use Rattle.law_isolation.specs.Happening.{Happening, done}

-- all of a node that tells how a script goes on: the module that runs, 0 if none does, and how
-- often the node was reset
pub record Look : Type 0 where
  pub cur : ℕ
  pub boot : ℕ

-- the look at a node
abbrev pub look : State → Look
look s = record { cur = s.cur; boot = s.boot }

-- the looks at all nodes
abbrev pub looks : World → List Look
looks w = map look w.nodes

-- One thing happens after the other. Which is next may depend on the looks at the nodes; a script
-- never sees a memory.
pub data Script : Type 0 where
  End : Script
  Do : Happening → (List Look → Script) → Script

-- what comes of a script
abbrev pub performed : Setting → Script → World → Acted
performed set End w = only w []
performed set (Do x rest) w = then_ (done set x w) (λ v. performed set (rest (looks v)) v)

-- the world after a script that was performed from power-on
abbrev pub after : Setting → Script → World
after set script = (performed set script (switched_on set)).world
