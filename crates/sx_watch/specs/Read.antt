-- What the call that reads a property answers. Nobody has to believe this file: it is for contracts
-- of functions.
use Rattle.std.specs.Prelude.{◌≡◌, List, [], Option, Result, Ok, Err}
use Rattle.std.specs.Option.{option_map_or}
use Rattle.sx_watch.specs.declared.property.Property.{Property}
use Rattle.sx_watch.specs.declared.reading.PropertyError.{PropertyError}
use Rattle.sx_watch.specs.declared.reading.PropertyError.TheVariants.{Fault, OutOfMemory}
use Rattle.sx_watch.specs.declared.reading.PropertyFault.{PropertyFault}
use Rattle.sx_watch.specs.declared.reading.PropertyFault.TheVariants.{Syntax, Twice, Language}
use Rattle.sx_parse.specs.declared.error.ParseError.{ParseError}
use Rattle.sx_parse.specs.declared.error.ParseError.TheVariants as parse
use Rattle.sx_parse.specs.Parsed.{at}
use Rattle.sx_lang.specs.Tree.{ModuleTree}
use Rattle.sx_trace.specs.Names.{NameLists}
use Rattle.sx_mean.specs.Application.{AppTree}
use Rattle.sx_check.specs.Rules.{first_broken}
use Rattle.sx_watch.specs.declared.rewriting.Head.{Head}
use Rattle.sx_watch.specs.declared.topics.Topic.{Topic}
use Rattle.sx_watch.specs.Parts.{topics_of}
use Rattle.sx_watch.specs.Text.{second_from}
use Rattle.sx_watch.specs.Watched.{PropertyTree}
use Rattle.sx_watch.specs.Watching.{property_as}

-- the answer is one that is meant, unless memory ran out
abbrev pub GivesOne : Result Property PropertyError
    → (Result PropertyTree PropertyFault → Type 0) → Type 0
GivesOne (Ok p) IsMeant = IsMeant (Ok (property_as p))
GivesOne (Err OutOfMemory) IsMeant = Unit {0}
GivesOne (Err (Fault f)) IsMeant = IsMeant (Err f)

-- the answer is the one that is meant, unless memory ran out
abbrev pub Gives : Result Property PropertyError → Result PropertyTree PropertyFault → Type 0
Gives (Ok p) meant = meant ≡ Ok (property_as p)
Gives (Err OutOfMemory) meant = Unit {0}
Gives (Err (Fault f)) meant = meant ≡ Err f

-- the error of tokens that are no module's
abbrev pub no_module : ParseError → PropertyError
no_module (parse.Fault f) = Fault (Syntax (at f))
no_module parse.OutOfMemory = OutOfMemory

-- what follows, unless there is a fault
abbrev pub unless : {A : Type 0} → (A → PropertyFault) → Option A
    → Result PropertyTree PropertyFault → Result PropertyTree PropertyFault
unless fault found rest = option_map_or (λ x. Err (fault x)) found rest

-- the property with this module and these topics, or the rule of the language that it breaks
abbrev pub made : ModuleTree → List Topic → Result PropertyTree PropertyFault
made tree topics =
    unless Language (first_broken tree) (Ok (record { tree = tree; topics = topics }))

-- that of a module with these heads, if each names a topic
abbrev pub apart : NameLists → AppTree → List Head → ModuleTree → Result PropertyTree PropertyFault
apart n app hs tree = unless (λ h. Twice h.place) (second_from n app [] hs)
    (made tree (topics_of n app hs))
