-- What is written of words that are no command, and of a rule that is broken.
use Rattle.std.specs.Prelude.{ℕ, List, ◌++◌, codes, decimal}
use Rattle.command_promise.specs.declared.status.Status.{Status}
use Rattle.command_promise.specs.declared.status.Status.TheVariants.{Misused}
use Rattle.command_promise.specs.Told.{Output}
use Rattle.command_text.specs.Output.{line}

-- the line of a command line that names no command
unfoldable pub usage_line : List ℕ
usage_line = line (codes "fault usage")

-- the words are no command
abbrev pub misuse_output : Output
misuse_output = record { text = usage_line; status = Misused }

-- a fault: its words, the number of the rule that is broken, and the number of the first line that
-- breaks it
abbrev pub fault_output : List ℕ → ℕ → ℕ → Status → Output
fault_output words rule number status =
    record { text = line (words ++ decimal rule ++ codes " " ++ decimal number); status = status }
