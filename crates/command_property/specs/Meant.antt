-- What texts of properties mean to a command.
use Rattle.std.specs.Prelude.{ℕ, List, Result}
use Rattle.sx_trace.specs.Names.{NameLists}
use Rattle.sx_mean.specs.Application.{AppTree}
use Rattle.sx_watch.specs.declared.reading.PropertyFault.{PropertyFault}
use Rattle.sx_watch.specs.Watched.{PropertyTree}
use Rattle.sx_watch.specs.Text.{IsProperty}

-- what a property's text means for a deployment with these names and this application
abbrev pub PropertyMeaning : Type 0
PropertyMeaning = NameLists → AppTree → List ℕ → Result PropertyTree PropertyFault

-- it is the property of the text, or the first rule that the text breaks; no text has two such
-- meanings
abbrev pub IsPropertyMeaning : PropertyMeaning → Type 0
IsPropertyMeaning meaning =
    (n : NameLists) (app : AppTree) (text : List ℕ) → IsProperty n app text (meaning n app text)
