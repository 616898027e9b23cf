-- What the items of single lines are of a run's.
use Rattle.std.specs.Prelude.{◌≡◌, ℕ, ◌+◌, ◌<◌, List, ◌++◌, length, take}
use Rattle.sx_sched.specs.Lines.{Line}
use Rattle.spec_run.specs.Setting.{Setting}
use Rattle.sx_world.specs.Whole.{whole_run}
use Rattle.sx_snap.specs.Timeline.{items_at}

-- the items of one line more are those of the lines before it, and its own
abbrev pub ItemsAdd : Type 0
ItemsAdd = (set : Setting) (lines : List Line) (k : ℕ) → k < length lines
    → (whole_run set (take (k + 1) lines)).items
    ≡ (whole_run set (take k lines)).items ++ items_at set lines (k + 1)
