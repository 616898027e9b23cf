-- The cause of an item, and where causes lead.
use Rattle.std.specs.Prelude.{◌≡◌, ℕ, ◌+◌, ◌*◌, ◌/◌, ◌%◌, ◌==◌, Bool, true, false, List, [], ◌∷◌}
use Rattle.std.specs.Prelude.{◌++◌, length, slice_get, if◌then◌else◌, Option, Some, None, is_some}
use Rattle.sx_mean.specs.declared.apps.Link.{Link}
use Rattle.sx_mean.specs.declared.events.Act.{Act}
use Rattle.sx_mean.specs.declared.events.Act.TheVariants.{Send, Emit}
use Rattle.sx_mean.specs.declared.events.SourceEvent.{SourceEvent}
use Rattle.sx_mean.specs.declared.events.SourceEvent.TheVariants as event
use Rattle.sx_mean.specs.Application.{AppTree, PartTree}
use Rattle.sx_mean.specs.React.{react}
use Rattle.sx_trace.specs.declared.items.Item.{Item}
use Rattle.sx_trace.specs.declared.items.Item.TheVariants.{Sense, Read, Take, Out}
use Rattle.sx_model.specs.State.{Model, Present, Standing, power_on}
use Rattle.sx_model.specs.Step.{device_of, ◌>>?◌, step}
use Rattle.sx_model.specs.Legal.{after}
use Rattle.sx_model.specs.Consequences.{begins_event, senses}

-- the first of two that is there
abbrev pub or_else : {A : Type 0} → Option A → Option A → Option A
or_else None o = o
or_else (Some x) o = Some x

-- the number of the latest item that passes a test, where they are numbered from n on
abbrev pub latest : (Item → Bool) → ℕ → List Item → Option ℕ
latest test n [] = None
latest test n (i ∷ is) = or_else (latest test (n + 1) is) (if test i then Some n else None)

-- the device gets a value
abbrev pub gives : ℕ → Item → Bool
gives d (Sense e v) = e == d
gives d _ = false

-- the word at a place of what was sent at a connection field
abbrev pub word_of : List (List ℕ) → ℕ → ℕ → Option ℕ
word_of sent field place = slice_get sent field >>? (λ words. slice_get words place)

-- the number of the first item after which a place at a field has a word, where they are numbered
-- from n on
abbrev pub appended : AppTree → ℕ → ℕ → ℕ → Model → List Item → Option ℕ
appended app field place n s [] = None
appended app field place n s (i ∷ is) = step app s i >>? (λ t.
    if is_some (word_of t.sent field place) then Some n else appended app field place (n + 1) t is)

-- The number of an item's cause among the items before it, which are numbered from 1. A reading's
-- is the latest item that gave its sensor a value; that of a word that is taken is the item at
-- which its place was appended; an output's is the latest event of its module.
abbrev pub cause : AppTree → List Item → Item → Option ℕ
cause app earlier (Read m v) = device_of app m >>? (λ d. latest (gives d) 1 earlier)
cause app earlier (Take m c i v) =
    appended app (c + 256 * (i / 65536)) (i % 65536) 1 (power_on app) earlier
cause app earlier (Out m v) = latest (begins_event m) 1 earlier
cause app earlier _ = None

-- the cause is this item, and comes right after those
pub record IsCause (app : AppTree) (earlier : List Item) (item : Item) (front : List Item)
    (by : Item) : Type 0 where
  pub rest : List Item
  pub place : earlier ≡ front ++ by ∷ rest
  pub number : cause app earlier item ≡ Some (length front + 1)

-- an item is caused by one of a kind
pub record CausedBy (app : AppTree) (earlier : List Item) (item : Item) (is_kind : Item → Bool)
    : Type 0 where
  pub front : List Item
  pub by : Item
  pub is : IsCause app earlier item front by
  pub kind : is_kind by ≡ true

-- what module an item is an event of, and the event
abbrev pub event_of : AppTree → Item → Option SourceEvent
event_of app (Read m v) = Some (event.Sample v)
event_of app (Take m c i v) = slice_get app.links c >>? (λ (l : Link). Some (event.Input l.input v))
event_of app _ = None

-- an act is one of these
pub record Among (a : Act) (acts : List Act) : Type 0 where
  pub place : ℕ
  pub there : slice_get acts place ≡ Some a

-- Before the item this module was present, and the item is an event of it, to which its handler
-- reacts by acts of which this holds.
pub record Reacts (app : AppTree) (front : List Item) (by : Item) (m : ℕ) (Holds : List Act
    → Type 0) : Type 0 where
  pub begins : begins_event m by ≡ true
  pub before : Model
  pub ran : after app (power_on app) front ≡ Some before
  pub part : PartTree
  pub part_is : slice_get app.parts m ≡ Some part
  pub standing : Standing
  pub standing_is : slice_get before.modules m ≡ Some standing
  pub present : Present
  pub present_is : standing.present ≡ Some present
  pub event : SourceEvent
  pub event_is : event_of app by ≡ Some event
  pub acts : Holds (react part.tree event present.cells).acts

-- a word that is taken was sent by an event of the connection's sender
pub record TakeCaused (app : AppTree) (earlier : List Item) (m c i v : ℕ) : Type 0 where
  pub link : Link
  pub link_is : slice_get app.links c ≡ Some link
  pub front : List Item
  pub by : Item
  pub is : IsCause app earlier (Take m c i v) front by
  pub sent : Reacts app front by link.from (Among (Send link.output v))

-- the values that acts emit, in order
abbrev pub emits_of : List Act → List ℕ
emits_of [] = []
emits_of (Emit v ∷ acts) = v ∷ emits_of acts
emits_of (Send output v ∷ acts) = emits_of acts

-- the value that a module puts out by an item
abbrev pub out_of : ℕ → Item → List ℕ
out_of m (Out k v) = if k == m then v ∷ [] else []
out_of m _ = []

-- and by items, in order
abbrev pub outs_of : ℕ → List Item → List ℕ
outs_of m [] = []
outs_of m (i ∷ is) = out_of m i ++ outs_of m is

-- A value that is put out is the one that the module's latest event emits next, after those that
-- were put out since that event.
pub record OutCaused (app : AppTree) (earlier : List Item) (m v : ℕ) : Type 0 where
  pub front : List Item
  pub by : Item
  pub is : IsCause app earlier (Out m v) front by
  pub later : List ℕ
  pub emits : Reacts app front by m (λ acts. emits_of acts ≡ outs_of m is.rest ++ v ∷ later)

-- From the item, causes lead to a value that a sensor got.
pub data LeadsToSense (app : AppTree) : List Item → Item → Type 0 where
  begins : (earlier : List Item) (d v : ℕ) → LeadsToSense app earlier (Sense d v)
  through : (earlier : List Item) (item : Item) (front : List Item) (by : Item)
      → IsCause app earlier item front by → LeadsToSense app front by
      → LeadsToSense app earlier item

-- In a legal trace each reading, each taking and each output has its cause before it: of a reading
-- that its sensor got this value, and of the others the event whose handler sends or emits it. And
-- from each output causes lead to a sensor's value.
pub record HasCauses (app : AppTree) (items : List Item) : Type 0 where
  pub reads : (before behind : List Item) (m v : ℕ) → items ≡ before ++ Read m v ∷ behind
      → (d : ℕ) × (device_of app m ≡ Some d) × CausedBy app before (Read m v) (senses d v)
  pub takes : (before behind : List Item) (m c i v : ℕ) → items ≡ before ++ Take m c i v ∷ behind
      → TakeCaused app before m c i v
  pub outs : (before behind : List Item) (m v : ℕ) → items ≡ before ++ Out m v ∷ behind
      → OutCaused app before m v
  pub leads : (before behind : List Item) (m v : ℕ) → items ≡ before ++ Out m v ∷ behind
      → LeadsToSense app before (Out m v)
