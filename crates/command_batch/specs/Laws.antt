-- An answer is what `run` writes of the common lines and the schedule after them, less the items
-- of the common lines.
use Rattle.std.specs.Prelude.{◌≡◌, ℕ, ◌+◌, ◌≤◌, ◌==◌, if◌then◌else◌, false, List, [], ◌∷◌, ◌++◌}
use Rattle.std.specs.Prelude.{All, codes, length, map}
use Rattle.sx_io.specs.Reading.{Answer, End, Line}
use Rattle.command_promise.specs.Head.{is_mark}
use Rattle.command_promise.specs.Told.{behind}
use Rattle.sx_trace.specs.Names.{NameLists}
use Rattle.sx_sched.specs.Lines as lines
use Rattle.sx_sched.specs.Reading.{Assembler}
use Rattle.spec_run.specs.Setting.{Setting}
use Rattle.spec_run.specs.State.{World}
use Rattle.spec_run.specs.Run.{run}
use Rattle.command_world.specs.Items.{items_text}
use Rattle.command_world.specs.Schedule.{AtEnd, schedule}
use Rattle.command_run.specs.Output.{run_from}
use Rattle.command_batch.specs.Output.{Runs, common_from, last_number, long_output, most_schedules}
use Rattle.command_batch.specs.Output.{schedules_from}

-- the answers of lines with these texts, before others
abbrev pub given : List (List ℕ) → List Answer → List Answer
given texts more = map Line texts ++ more

-- the line `%%`
abbrev pub mark : Answer
mark = Line (codes "%%")

-- a text that is no mark
abbrev pub IsUnmarked : List ℕ → Type 0
IsUnmarked text = is_mark text ≡ false

-- none of them is
abbrev pub AreUnmarked : List (List ℕ) → Type 0
AreUnmarked texts = All IsUnmarked texts

-- From a world w, with a first number: these texts are lines that break no rule (`performed`).
pub record AreCommon (assemble : Assembler) (names : NameLists) (number : ℕ)
    (texts : List (List ℕ)) (ls : List lines.Line) : Type 0 where
  pub unmarked : AreUnmarked texts
  pub performed : schedule assemble names number (given texts (End ∷ []))
      ≡ record { lines = ls; stop = AtEnd }

-- `run` writes the items of common lines, and then what it writes of the others from the world that
-- they lead to (`in_run`). `batch` writes nothing of common lines, and its schedules begin in that
-- world (`in_batch`).
pub record CommonLinesLead (assemble : Assembler) (names : NameLists) (set : Setting) (w : World)
    (number : ℕ) (texts : List (List ℕ)) (ls : List lines.Line) : Type 0 where
  pub in_run : (more : List Answer) → run_from assemble names set w number (given texts more)
      ≡ behind (items_text names (run set w ls).items)
      (run_from assemble names set (run set w ls).world (number + length texts) more)
  pub in_batch : (more : List Answer)
      → common_from assemble names set w number (given texts (mark ∷ more))
      ≡ schedules_from assemble names set (run set w ls).world (number + length texts) 1
      (Runs (run set w ls).world) (number + length texts) more

-- A schedule is answered by what `run` writes of it from the world at which it begins, and then the
-- next one is, which begins where this one began.
abbrev pub SchedulesAreRuns : Assembler → NameLists → Setting → World → ℕ → Type 0
SchedulesAreRuns assemble names set start first =
    (count : ℕ) (texts : List (List ℕ)) (more : List Answer) → AreUnmarked texts
    → first + length texts ≤ last_number
    → schedules_from assemble names set start first count (Runs start) first
    (given texts (mark ∷ more))
    ≡ behind (run_from assemble names set start first (given texts (End ∷ []))).text
    (if count == most_schedules then long_output
    else schedules_from assemble names set start first (count + 1) (Runs start) first more)

-- both
pub record AnswersAreRuns : Type 0 where
  pub common : (assemble : Assembler) (names : NameLists) (set : Setting) (w : World) (number : ℕ)
      (texts : List (List ℕ)) (ls : List lines.Line) → AreCommon assemble names number texts ls
      → CommonLinesLead assemble names set w number texts ls
  pub schedules : (assemble : Assembler) (names : NameLists) (set : Setting) (start : World)
      (first : ℕ) → SchedulesAreRuns assemble names set start first
