-- What is said is in form, and the text of a line says it.
use Rattle.std.specs.Prelude.{◌≡◌, ℕ, List, Ok, IsTrue}
use Rattle.sx_asm.specs.Assembled.{assembled}
use Rattle.sx_trace.specs.Names.{NameLists}
use Rattle.sx_trace.specs.ValidNames.{are_valid}
use Rattle.sx_sched.specs.Lines.{Line}
use Rattle.sx_sched.specs.InForm.{IsLine, IsWritten}
use Rattle.sx_sched.specs.Reading.{said_line}
use Rattle.sx_sched.specs.Written.{line_text}

-- what is said is in form
abbrev pub SaidInForm : Type 0
SaidInForm = (n : NameLists) (text : List ℕ) (line : Line) → said_line assembled n text ≡ Ok line
    → IsLine n line

-- the text of a line says the line
abbrev pub TextIsSaid : Type 0
TextIsSaid = (n : NameLists) (line : Line) → IsTrue (are_valid n) → IsWritten line → IsLine n line
    → said_line assembled n (line_text n line) ≡ Ok line
