-- A line in memory as plain data.
use Rattle.std.specs.Prelude.{Result, Ok, Err}
use Rattle.sx_sched.specs.declared.lines.Line.{Line as Read}
use Rattle.sx_sched.specs.declared.lines.Line.TheVariants as read
use Rattle.sx_sched.specs.Lines.{Line, Blank, Run, Finish, Put, Set, Take, Give, Forge, Sense, Irq}
use Rattle.sx_sched.specs.Lines.{Reset, Ask, Answer, Load, Call}
use Rattle.sx_sched.specs.declared.lines.LineError.{LineError}

-- the line that a value of the code is
abbrev pub line_of : Read → Line
line_of read.Blank = Blank
line_of (read.Run node steps) = Run node steps
line_of (read.Finish node) = Finish node
line_of (read.Put node at bytes) = Put node at bytes.items
line_of (read.Set node reg value) = Set node reg value
line_of (read.Take node at len) = Take node at len
line_of (read.Give packet node at) = Give packet node at
line_of (read.Forge bytes) = Forge bytes.items
line_of (read.Sense device value) = Sense device value
line_of (read.Irq node line) = Irq node line
line_of (read.Reset node) = Reset node
line_of (read.Ask m) = Ask m
line_of (read.Answer m boot packet) = Answer m boot packet
line_of (read.Load m) = Load m
line_of (read.Call m entry input output) = Call m entry input output

-- an answer of the code, its line seen as such
abbrev pub seen_line : Result Read LineError → Result Line LineError
seen_line (Ok line) = Ok (line_of line)
seen_line (Err e) = Err e
