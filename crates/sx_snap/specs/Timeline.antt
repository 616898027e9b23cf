-- Where a run is after any of its lines, and which items lines show.
use Rattle.std.specs.Prelude.{ℕ, ◌-◌, List, [], take, slice_get, Option, Some, None}
use Rattle.sx_trace.specs.declared.items.Item.{Item}
use Rattle.sx_sched.specs.Lines.{Line}
use Rattle.spec_run.specs.Setting.{Setting}
use Rattle.spec_run.specs.State.{World}
use Rattle.sx_world.specs.Whole.{next, whole_run}

-- the world after these lines from power-on
abbrev pub world_after : Setting → List Line → World
world_after set lines = (whole_run set lines).world

-- the world after the first so many of these lines
abbrev pub world_at : Setting → List Line → ℕ → World
world_at set lines at = world_after set (take at lines)

-- the items of a line, if there is one, in this world
abbrev pub items_in : Setting → World → Option Line → List Item
items_in set w None = []
items_in set w (Some line) = (next set w line).items

-- the items of the line with this number, counted from 1
abbrev pub items_at : Setting → List Line → ℕ → List Item
items_at set lines at = items_in set (world_at set lines (at - 1)) (slice_get lines (at - 1))
