-- What the next line of a schedule does, and what is written if it breaks a rule.
use Rattle.std.specs.Prelude.{ℕ, Result, Ok, Err, ◌≡◌}
use Rattle.spec_run.specs.Setting.{Setting}
use Rattle.sx_sched.specs.Lines.{Line}
use Rattle.spec_run.specs.State.{World, Acted}
use Rattle.spec_run.specs.Run.{after_line, line_counted}
use Rattle.command_text.specs.Output.{line}

-- what the next line does
abbrev pub after_next : Setting → World → Line → Acted
after_next set w line = after_line set (line_counted w) line

-- Memory may run out at a line that breaks no rule, or only rule 8: its text is assembled before
-- that is judged. Any other broken rule is found without memory.
abbrev pub MayRunOut : Result Line ℕ → Type 0
MayRunOut (Ok line) = Unit {0}
MayRunOut (Err rule) = rule ≡ 8
