-- Tables: where the source may be, for the places at which the property may be.
use Rattle.std.specs.Prelude.{◌≡◌, ℕ, ◌%◌, ◌⊎◌, Bool, true, false, List, [], Option, Some, None}
use Rattle.std.specs.Prelude.{slice_get, unwrap_or}
use Rattle.sx_trace.specs.declared.items.Item.{Item}
use Rattle.sx_trace.specs.declared.items.Item.TheVariants.{Sense, Raw}
use Rattle.sx_model.specs.State.{Model, Pending, Present, Reading, Standing}
use Rattle.law_never.specs.Rules.{Each}
use Rattle.law_never.specs.Intervals.{Interval, IsInside, AreInside, OneOf}
use Rattle.sx_watch.specs.declared.topics.TopicKind.TheVariants as kind
use Rattle.sx_watch.specs.Watching.{about}
use Rattle.sx_watch.specs.Watched.{PropertyTree, input_of}

-- where a present module may be: its cells, and the emits that it owes
pub record Place : Type 0 where
  pub cells : List Interval
  pub owed : List Interval

-- where the source may be while the property's cells are in the box: which modules may be
-- absent,
-- the places of each module if it is present, the values of each sensor that are fresh, and the
-- words that were ever sent over
-- each connection
pub record Row : Type 0 where
  pub watch : List Interval
  pub absent : List Bool
  pub places : List (List Place)
  pub readings : List (List Interval)
  pub words : List (List Interval)

-- the rows, and the values that each device may be given from outside
pub record Table : Type 0 where
  pub rows : List Row
  pub given : List (List Interval)

-- the list of this index
abbrev pub at : {A : Type 0} → List (List A) → ℕ → List A
at xss n = unwrap_or (slice_get xss n) []

-- the number is in one of the intervals
abbrev pub IsAmong : List Interval → ℕ → Type 0
IsAmong is v = OneOf (λ i. IsInside i v) is

-- the emits that are owed, if anything is
abbrev pub owed_of : Option Pending → List ℕ
owed_of None = []
owed_of (Some owed) = owed.emits

-- the module is at the place
pub record IsAtPlace (place : Place) (p : Present) : Type 0 where
  pub cells : AreInside place.cells p.cells
  pub owed : AreInside place.owed (owed_of p.pending)

-- the module may be absent in the row
abbrev pub MayBeAbsent : Row → ℕ → Type 0
MayBeAbsent r m = unwrap_or (slice_get r.absent m) false ≡ true

-- the row has a place for the module, a sensor's value, and a word of a connection

abbrev pub HasPlace : Row → ℕ → Present → Type 0
HasPlace r m p = OneOf (λ place. IsAtPlace place p) (at r.places m)

abbrev pub HasReading : Row → ℕ → ℕ → Type 0
HasReading r d v = IsAmong (at r.readings d) v

abbrev pub HasWord : Row → ℕ → ℕ → Type 0
HasWord r c v = IsAmong (at r.words c) v

-- the module is as the row has it
abbrev pub IsShown : Row → ℕ → Option Present → Type 0
IsShown r m None = MayBeAbsent r m
IsShown r m (Some p) = HasPlace r m p

-- for each module, each fresh value, and each word that was sent

abbrev pub HasPlaces : Row → List Standing → Type 0
HasPlaces r xs = (m : ℕ) (x : Standing) → slice_get xs m ≡ Some x → IsShown r m x.present

abbrev pub HasReadings : Row → List Reading → Type 0
HasReadings r ys = (d : ℕ) (y : Reading) → slice_get ys d ≡ Some y → y.fresh ≡ true
    → HasReading r d y.value

abbrev pub HasWords : Row → List (List ℕ) → Type 0
HasWords r wss = (field : ℕ) (words : List ℕ) → slice_get wss field ≡ Some words
    → Each (λ v. HasWord r (field % 256) v) words

-- the row shows where the source and the property are
pub record Shows (r : Row) (s : Model) (cells : List ℕ) : Type 0 where
  pub watch : AreInside r.watch cells
  pub places : HasPlaces r s.modules
  pub readings : HasReadings r s.devices
  pub words : HasWords r s.sent

-- what the item gives a sensor from outside is one of the table's values, and so is what it gives
-- an
-- actuator if the property hears of it
abbrev pub IsGiven : PropertyTree → Table → Item → Type 0
IsGiven o t (Sense d v) = IsAmong (at t.given d) v
IsGiven o t (Raw d v) = (input_of o (about kind.Raw d) ≡ None) ⊎ IsAmong (at t.given d) (v % 65536)
IsGiven o t _ = Unit {0}
