-- What is kept of answers that were made before they are asked for. Nobody has to believe this file.
use Rattle.std.specs.Prelude.{◌≡◌, List}
use Rattle.std.specs.List.{All}
use Rattle.sx_trace.specs.Names.{NameLists}
use Rattle.sx_sched.specs.Lines.{Line}
use Rattle.spec_run.specs.Setting.{Setting}
use Rattle.command_snap.specs.declared.answering.Answered.{Answered}
use Rattle.command_snap.specs.Answers.{answer_text}

-- each text answers its query
abbrev pub AreAnswers : NameLists → Setting → List Line → List Answered → Type 0
AreAnswers names set lines answers =
    All (λ a. a.text.items ≡ answer_text names set lines a.query) answers
