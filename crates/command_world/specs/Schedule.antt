-- From the answers that the lines of an input give to the lines of a schedule. Nothing is said here
-- of what is written.
use Rattle.std.specs.Prelude.{ℕ, ◌+◌, nat_lt, if◌then◌else◌, List, [], ◌∷◌, Result, Ok, Err}
use Rattle.sx_io.specs.Reading.{Answer, End, Long, Fault}
use Rattle.sx_io.specs.Reading as answer
use Rattle.sx_trace.specs.Names.{NameLists}
use Rattle.sx_sched.specs.declared.lines.LineError.{LineError}
use Rattle.sx_sched.specs.declared.lines.LineError.TheVariants as error
use Rattle.sx_sched.specs.Lines.{Line}
use Rattle.sx_sched.specs.Reading.{Assembler, said_line}

-- where a schedule ends: at the end of the input, at a read that failed, or at the first line that
-- breaks a rule
pub data Stop : Type 0 where
  AtEnd : Stop
  Unread : Stop
  Breaks : (rule number : ℕ) → Stop

-- the lines before that place, and the place
pub record Schedule : Type 0 where
  pub lines : List Line
  pub stop : Stop

-- the rule that a text breaks; no text gives the error `OutOfMemory`
abbrev pub rule_of : LineError → ℕ
rule_of (error.Fault rule) = rule
rule_of error.OutOfMemory = 0

-- a line, or the number of the rule that it breaks
abbrev pub or_rule : Result Line LineError → Result Line ℕ
or_rule (Ok line) = Ok line
or_rule (Err e) = Err (rule_of e)

-- The line with this number, counted from 1, or the first rule that it breaks. A schedule has at
-- most 65,536 lines, blank ones counted.
unfoldable pub judged_line : Assembler → NameLists → ℕ → List ℕ → Result Line ℕ
judged_line assemble names number text =
    if nat_lt 65536 number then Err 2 else or_rule (said_line assemble names text)

-- a schedule that stops at once
abbrev pub stops : Stop → Schedule
stops stop = record { lines = []; stop = stop }

-- the schedule that begins with this line, or stops at it
abbrev pub on_line : ℕ → Result Line ℕ → Schedule → Schedule
on_line number (Err rule) rest = stops (Breaks rule number)
on_line number (Ok line) rest = record { lines = line ∷ rest.lines; stop = rest.stop }

-- the schedule from the line with this number on
abbrev pub schedule : Assembler → NameLists → ℕ → List Answer → Schedule
schedule assemble names number [] = stops AtEnd
schedule assemble names number (End ∷ more) = stops AtEnd
schedule assemble names number (Long ∷ more) = stops (Breaks 1 number)
schedule assemble names number (Fault ∷ more) = stops Unread
schedule assemble names number (answer.Line text ∷ more) =
    on_line number (judged_line assemble names number text)
    (schedule assemble names (number + 1) more)
