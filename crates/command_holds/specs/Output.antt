-- What the command `holds` writes: a function of the two heads of the input, of what texts of
-- deployments and properties mean, and of what was decided.
use Rattle.std.specs.Prelude.{ℕ, List, ◌++◌, codes}
use Rattle.sx_io.specs.Reading.{Answer}
use Rattle.command_promise.specs.declared.status.Status.TheVariants as exit
use Rattle.command_promise.specs.Told.{Output}
use Rattle.command_text.specs.Output.{line, end_line}
use Rattle.command_head.specs.Meanings.{Meaning, IsMeaning}
use Rattle.command_property.specs.Input.{of_input}
use Rattle.command_property.specs.Meant.{PropertyMeaning, IsPropertyMeaning}

-- what texts of deployments and of properties mean
pub record Meanings : Type 0 where
  pub deployment : Meaning
  pub property : PropertyMeaning

pub record AreMeanings (means : Meanings) : Type 0 where
  pub deployment : IsMeaning means.deployment
  pub property : IsPropertyMeaning means.property

-- what was decided: that the property holds, or, in some words, that nothing was shown
pub data Decision : Type 0 where
  Holds : Decision
  Unknown : (words : List ℕ) → Decision

-- the line if nothing was shown
unfoldable pub unknown_line : List ℕ → List ℕ
unknown_line words = line (codes "unknown " ++ words)

-- the line that says that the property holds
unfoldable pub holds_line : List ℕ
holds_line = line (codes "holds")

-- what is written of it
abbrev pub decided_output : Decision → Output
decided_output Holds = record { text = holds_line ++ end_line; status = exit.Done }
decided_output (Unknown words) = record { text = unknown_line words; status = exit.Unknown }

-- the command `holds`
abbrev pub holds_all : Meanings → Decision → List Answer → Output
holds_all means decision answers =
    of_input means.deployment means.property (λ d p more. decided_output decision) answers
