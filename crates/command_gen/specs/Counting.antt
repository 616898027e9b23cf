-- What the parts of the command `gen` do.
use Rattle.std.specs.Prelude.{ℕ, ◌≡◌, List, Result, Ok, Err, ◌+◌}
use Rattle.command_promise.specs.declared.status.Status.TheVariants.{Done}
use Rattle.sx_asm.specs.Assembled.{assembled}
use Rattle.sx_trace.specs.declared.items.Item.{Item}
use Rattle.sx_trace.specs.Names.{NameLists}
use Rattle.sx_sched.specs.Lines.{Line}
use Rattle.sx_world.specs.Held.{Held}
use Rattle.spec_run.specs.Setting.{Setting}
use Rattle.sx_world.specs.Standing.{Stands}
use Rattle.spec_run.specs.State.{World}
use Rattle.sx_bulk.specs.Bulk as bulk
use Rattle.command_gen.specs.declared.counts.Counts.{Counts}
use Rattle.command_gen.specs.declared.counting.Stopped.{Stopped}
use Rattle.command_gen.specs.declared.counting.Stopped.TheVariants.{Broken, OutOfMemory}
use Rattle.command_gen.specs.Counts.{summary}
use Rattle.command_world.specs.Turning.{after_next}
use Rattle.command_world.specs.Broken.{broken_output}
use Rattle.command_world.specs.Schedule.{judged_line}
use Rattle.command_gen.specs.Promise.{gen_run}

-- the sums of two counts
abbrev pub plus : Counts → Counts → Counts
plus a b =
    record { items = a.items + b.items; outputs = a.outputs + b.outputs; lit = a.lit + b.lit }

-- The line with this number keeps the rules, and was performed in the world w: the program's world
-- shows the next one, and these are the line's items.
pub record ActsIn (names : NameLists) (set : Setting) (left : Held) (number : ℕ) (text : List ℕ)
    (items : List Item) (w : World) : Type 0 where
  pub line : Line
  pub keeps : judged_line assembled names number text ≡ Ok line
  pub stands : Stands set left (after_next set w line).world
  pub made : items ≡ (after_next set w line).items

-- whichever world it showed
abbrev pub ActsFrom : NameLists → Setting → Held → Held → ℕ → List ℕ → List Item → Type 0
ActsFrom names set held left number text items =
    (w : World) → Stands set held w → ActsIn names set left number text items w

-- the line with this number breaks this rule, or memory ran out
abbrev pub LineStopsAt : NameLists → ℕ → List ℕ → Stopped → Type 0
LineStopsAt names number text (Broken rule at) =
    (judged_line assembled names number text ≡ Err rule) × (at ≡ number)
LineStopsAt names number text OutOfMemory = Unit {0}

-- the end of a run of the workload, after this many steps, is reported; or memory ran out
abbrev pub EndsAs : ℕ → NameLists → Setting → ℕ → Result Counts Stopped → Type 0
EndsAs n names set steps (Ok c) =
    gen_run n names set ≡ record { text = summary (bulk.lines n) c steps; status = Done }
EndsAs n names set steps (Err (Broken rule number)) =
    gen_run n names set ≡ broken_output rule number
EndsAs n names set steps (Err OutOfMemory) = Unit {0}
