-- What holds of every text of a property.
use Rattle.std.specs.Prelude.{◌≡◌, ℕ, List, Result}
use Rattle.sx_trace.specs.Names.{NameLists}
use Rattle.sx_mean.specs.Application.{AppTree}
use Rattle.sx_watch.specs.declared.reading.PropertyFault.{PropertyFault}
use Rattle.sx_watch.specs.Watched.{PropertyTree}
use Rattle.sx_watch.specs.Text.{IsProperty}

-- no text has two meanings for a deployment
abbrev pub OneProperty : Type 0
OneProperty = (n : NameLists) (app : AppTree) (text : List ℕ)
    (a b : Result PropertyTree PropertyFault) → IsProperty n app text a → IsProperty n app text b
    → a ≡ b

-- each text has a meaning for each deployment
abbrev pub SomeProperty : Type 0
SomeProperty = (n : NameLists) (app : AppTree) (text : List ℕ)
    → (outcome : Result PropertyTree PropertyFault) × IsProperty n app text outcome
