-- What the statuses of `watch` say of a trace.
use Rattle.std.specs.Prelude.{◌≡◌, ℕ, List, Some, None, Option, Result, Ok, Err}
use Rattle.sx_io.specs.Reading.{Answer}
use Rattle.sx_entries.specs.declared.fault.DeployFault.{DeployFault}
use Rattle.command_promise.specs.declared.status.Status.TheVariants.{Done, PropertyBroken}
use Rattle.command_promise.specs.Head.{Head, Found, head}
use Rattle.sx_trace.specs.declared.items.Item.{Item}
use Rattle.sx_model.specs.Legal.{before}
use Rattle.sx_deploy.specs.Deployment.{Deployed}
use Rattle.command_explain.specs.Trace.{Start, Behind, Missing, Whole, start, trace}
use Rattle.sx_watch.specs.declared.reading.PropertyFault.{PropertyFault}
use Rattle.sx_watch.specs.Watched.{PropertyTree, broken_at}
use Rattle.command_watch.specs.Meant.{Meanings}
use Rattle.command_watch.specs.Output.{watch_all}

-- a whole trace, none of whose items before the first that is forged breaks the property
abbrev pub IsKeptTrace : PropertyTree → (List ℕ → Option Item) → Start → Type 0
IsKeptTrace p item (Behind more) = ((trace item 1 more).stop ≡ Whole)
    × (broken_at p (before (trace item 1 more).items) ≡ None)
IsKeptTrace p item (Missing stop) = ⊥

-- a trace whose item of this number is the first that breaks it
abbrev pub IsBrokenTrace : ℕ → PropertyTree → (List ℕ → Option Item) → Start → Type 0
IsBrokenTrace n p item (Behind more) = broken_at p (before (trace item 1 more).items) ≡ Some n
IsBrokenTrace n p item (Missing stop) = ⊥

-- the same of an input, after its deployment and its property, which keep their rules
abbrev pub OfProperty : (PropertyTree → (List ℕ → Option Item) → Start → Type 0)
    → (List ℕ → Option Item) → Result PropertyTree PropertyFault → List Answer → Type 0
OfProperty Is item (Ok p) more = Is p item (start 1 more)
OfProperty Is item (Err f) more = ⊥

abbrev pub OfRest : Meanings → (PropertyTree → (List ℕ → Option Item) → Start → Type 0) → Deployed
    → Head → Type 0
OfRest means Is d (Found text more) =
    OfProperty Is (means.trace.item d.names) (means.property d.names d.app text) more
OfRest means Is d _ = ⊥

abbrev pub OfDeployment : Meanings → (PropertyTree → (List ℕ → Option Item) → Start → Type 0)
    → Result Deployed DeployFault → List Answer → Type 0
OfDeployment means Is (Ok d) more = OfRest means Is d (head more)
OfDeployment means Is (Err f) more = ⊥

abbrev pub OfInput : Meanings → (PropertyTree → (List ℕ → Option Item) → Start → Type 0) → Head
    → Type 0
OfInput means Is (Found text more) = OfDeployment means Is (means.trace.deployment text) more
OfInput means Is _ = ⊥

-- What is defined with status 0 is that of a whole trace, none of whose items before the first that
-- is forged breaks the property; and with status 12 an item does.
pub record StatusesSay (means : Meanings) (answers : List Answer) : Type 0 where
  pub kept : (watch_all means answers).status ≡ Done → OfInput means IsKeptTrace (head answers)
  pub broken : (watch_all means answers).status ≡ PropertyBroken
      → (n : ℕ) × OfInput means (IsBrokenTrace n) (head answers)

abbrev pub StatusesSaySo : Type 0
StatusesSaySo = (means : Meanings) (answers : List Answer) → StatusesSay means answers
