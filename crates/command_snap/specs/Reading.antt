-- From the answers that the lines of an input give to a schedule and to what comes after its mark.
use Rattle.std.specs.Prelude.{ℕ, ◌+◌, if◌then◌else◌, List, [], ◌∷◌, ◌++◌, length, Result, Ok, Err}
use Rattle.sx_asm.specs.Assembled.{assembled}
use Rattle.sx_io.specs.Reading.{Answer, End, Long, Fault}
use Rattle.sx_io.specs.Reading as answer
use Rattle.command_promise.specs.Head.{is_mark}
use Rattle.sx_trace.specs.Names.{NameLists}
use Rattle.sx_sched.specs.Lines.{Line}
use Rattle.command_world.specs.Schedule.{judged_line}

-- What a schedule is: its lines, and the answers after the line `%%` that ends it. Or a line breaks
-- a rule, or a read failed, before it has ended.
pub data Asking : Type 0 where
  Asks : List Line → List Answer → Asking
  Breaks : (rule number : ℕ) → Asking
  Unread : Asking

-- the line with this number after those before it, or the rule that it breaks
abbrev pub on_line : List Line → Result Line ℕ → (List Line → Asking) → Asking
on_line before (Err rule) rest = Breaks rule (length before + 1)
on_line before (Ok line) rest = rest (before ++ line ∷ [])

-- The schedule from the line on that follows these. If the input ends without the mark, no query
-- comes after it.
abbrev pub asking : NameLists → List Line → List Answer → Asking
asking names before [] = Asks before (End ∷ [])
asking names before (End ∷ more) = Asks before (End ∷ [])
asking names before (Long ∷ more) = Breaks 1 (length before + 1)
asking names before (Fault ∷ more) = Unread
asking names before (answer.Line text ∷ more) =
    if is_mark text then Asks before more
    else on_line before (judged_line assembled names (length before + 1) text)
    (λ lines. asking names lines more)
