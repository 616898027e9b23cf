-- What closed tables show.
use Rattle.std.specs.Prelude.{◌≡◌, ℕ, ◌<◌, ◌≤◌, ◌⊎◌, ◌&&◌, true, List, length, Some, None}
use Rattle.std.specs.Prelude.{slice_get}
use Rattle.sx_mean.specs.declared.apps.AppDevice.{AppDevice}
use Rattle.sx_mean.specs.Application.{AppTree, PartTree, is_sensor}
use Rattle.sx_trace.specs.declared.items.Item.{Item}
use Rattle.sx_model.specs.Legal.{Legal}
use Rattle.spec_run.specs.Law.{OfRuns}
use Rattle.spec_run.specs.AcceptedLaw.{OfAcceptedRuns}
use Rattle.law_never.specs.Rules.{Each}
use Rattle.law_never.specs.Intervals.{Reactions, IsSoundFor}
use Rattle.law_never.specs.Tables.{Table, IsAmong, IsGiven, at}
use Rattle.law_never.specs.Closed.{IsClosed}
use Rattle.law_never.specs.Check.{is_open}
use Rattle.law_never.specs.Demands.{is_shut}
use Rattle.law_never.specs.Never.{IsNeverBroken}
use Rattle.sx_watch.specs.declared.topics.TopicKind.TheVariants as kind
use Rattle.sx_watch.specs.Watching.{about}
use Rattle.sx_watch.specs.Watched.{PropertyTree, broken_at, input_of}
use Rattle.law_never.specs.Kept.{Keeps}

-- the ways are those of the property and of each module
pub record AreSound (reacts : Reactions) (app : AppTree) (o : PropertyTree) : Type 0 where
  pub property : IsSoundFor reacts o.tree
  pub parts : (m : ℕ) (q : PartTree) → slice_get app.parts m ≡ Some q → IsSoundFor reacts q.tree

-- With a closed table the property emits in no legal run whose devices are given the table's
-- values.
abbrev pub ClosedKeeps : Type 0
ClosedKeeps = (reacts : Reactions) (app : AppTree) (o : PropertyTree) (t : Table)
    → length app.links ≤ 256 → AreSound reacts app o → IsClosed reacts app o t
    → (items : List Item) → Each (IsGiven o t) items → Legal app items → Keeps o items

-- The table has each value that a line can give a sensor, and each that other code can write to an
-- actuator of which the property hears that.
pub record IsOpen (app : AppTree) (o : PropertyTree) (t : Table) : Type 0 where
  pub sensed : (d : ℕ) (x : AppDevice) → slice_get app.devices d ≡ Some x
      → is_sensor x.kind ≡ true → (v : ℕ) → v < 32768 → IsAmong (at t.given d) v
  pub raw : (d : ℕ) → (input_of o (about kind.Raw d) ≡ None)
      ⊎ ((v : ℕ) → v < 65536 → IsAmong (at t.given d) v)

-- And in no run of a sound setting, whatever its schedule, before the first forged item.
abbrev pub ClosedKeepsInRuns : Type 0
ClosedKeepsInRuns = (reacts : Reactions) (o : PropertyTree) (t : Table)
    → OfRuns (λ app items. AreSound reacts app o → IsClosed reacts app o t → IsOpen app o t
    → Keeps o items)

-- a table that passes the check is closed, and open
pub record Decides (reacts : Reactions) (app : AppTree) (o : PropertyTree)
    (t : Table) : Type 0 where
  pub shut : is_shut reacts app o t ≡ true → IsClosed reacts app o t
  pub opens : is_open app o t ≡ true → IsOpen app o t

abbrev pub CheckDecides : Type 0
CheckDecides = (reacts : Reactions) (app : AppTree) (o : PropertyTree) (t : Table)
    → Decides reacts app o t

-- So a property whose table passes emits in no run of the setting, whatever its schedule, before
-- the first forged item.
abbrev pub CheckedKeeps : Type 0
CheckedKeeps = (reacts : Reactions) (o : PropertyTree) (t : Table)
    → OfRuns (λ app items. AreSound reacts app o
    → (is_shut reacts app o t && is_open app o t) ≡ true → Keeps o items)

-- From the text on: what no run breaks, no run of a deployment breaks that is accepted and has this
-- application, whatever images realize its modules.
abbrev pub NeverAccepted : Type 0
NeverAccepted = (app : AppTree) (p : PropertyTree) → IsNeverBroken app p
    → OfAcceptedRuns (λ own items. own ≡ app → broken_at p items ≡ None)
