-- The run of some lines from power-on, and what one line more does.
use Rattle.std.specs.Prelude.{List}
use Rattle.sx_sched.specs.Lines.{Line}
use Rattle.spec_run.specs.Setting.{Setting}
use Rattle.spec_run.specs.State.{World, Acted, switched_on}
use Rattle.spec_run.specs.Run.{after_line, line_counted, run}

-- the next line, counted, in a world
abbrev pub next : Setting → World → Line → Acted
next set w line = after_line set (line_counted w) line

-- the run of a schedule, from power-on
abbrev pub whole_run : Setting → List Line → Acted
whole_run set lines = run set (switched_on set) lines
