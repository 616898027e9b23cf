-- How a command ends whose property breaks a rule.
use Rattle.std.specs.Prelude.{ℕ, List, ◌++◌, codes, decimal}
use Rattle.sx_lex.specs.declared.tokens.Place.{Place}
use Rattle.command_promise.specs.declared.status.Status.TheVariants.{NoProperty}
use Rattle.command_promise.specs.Told.{Output}
use Rattle.sx_deploy.specs.Checks.{number}
use Rattle.sx_watch.specs.declared.reading.PropertyFault.{PropertyFault}
use Rattle.sx_watch.specs.declared.reading.PropertyFault.TheVariants.{Syntax, Unknown, Twice}
use Rattle.sx_watch.specs.declared.reading.PropertyFault.TheVariants.{Language}
use Rattle.command_text.specs.Output.{line}

-- the line and the column
abbrev pub place_words : Place → List ℕ
place_words at = decimal at.line ++ codes " " ++ decimal at.column

-- the number of the rule that is broken, and where
abbrev pub fault_words : PropertyFault → List ℕ
fault_words (Syntax at) = codes "2 " ++ place_words at
fault_words (Unknown at) = codes "3 " ++ place_words at
fault_words (Twice at) = codes "4 " ++ place_words at
fault_words (Language rule) = codes "5 " ++ decimal (number rule)

-- the line of a property's fault
unfoldable pub property_line : List ℕ → List ℕ
property_line words = line (codes "fault property P" ++ words)

-- status 7: a rule is broken
abbrev pub refused_output : List ℕ → Output
refused_output words = record { text = property_line words; status = NoProperty }

-- the property has no line `%%` after it, or is too long
abbrev pub no_property_output : Output
no_property_output = refused_output (codes "1 -")
