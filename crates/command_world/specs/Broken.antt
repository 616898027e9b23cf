-- What is written if a line of a schedule breaks a rule.
use Rattle.std.specs.Prelude.{ℕ, List, ◌++◌, codes, decimal}
use Rattle.command_promise.specs.declared.status.Status.TheVariants.{Broken}
use Rattle.command_promise.specs.Told.{Output}
use Rattle.command_text.specs.Output.{line}

-- the line of a schedule's rule that a line breaks
unfoldable pub broken_line : ℕ → ℕ → List ℕ
broken_line rule number =
    line (codes "fault schedule S" ++ decimal rule ++ codes " " ++ decimal number)

-- status 3: this line is the first that breaks a rule, and this is the first rule that it breaks
abbrev pub broken_output : ℕ → ℕ → Output
broken_output rule number = record { text = broken_line rule number; status = Broken }
