-- What a legal trace tells: which numbers rise along it, and what comes before a reading and an
-- output.
use Rattle.std.specs.Prelude.{◌≡◌, ℕ, ◌<◌, ◌==◌, ◌&&◌, Bool, true, false, List, ◌∷◌, ◌++◌, Option}
use Rattle.std.specs.Prelude.{Some, None, slice_get}
use Rattle.std.specs.List.{list_any}
use Rattle.sx_lang.specs.declared.sides.Side.{Side}
use Rattle.sx_trace.specs.declared.items.Item.{Item}
use Rattle.sx_trace.specs.declared.items.Item.TheVariants.{Reset, Protect, Sense, Read, Drain}
use Rattle.sx_trace.specs.declared.items.Item.TheVariants.{Vouch, Open, Take, Out, Done}
use Rattle.sx_mean.specs.declared.apps.AppDevice.{AppDevice}
use Rattle.sx_mean.specs.Application.{PartTree, AppTree}
use Rattle.sx_model.specs.Step.{device_of}
use Rattle.sx_model.specs.State.{contains}

-- The numbers that are taken over a connection rise, so none is taken twice.
abbrev pub TakesRise : List Item → Type 0
TakesRise items =
    (before between behind : List Item) (m k c i j v w : ℕ)
    → items ≡ before ++ Take m c i v ∷ between ++ Take k c j w ∷ behind → i < j

-- The epochs with which a module opens an end rise, so it opens it at most once in each.
abbrev pub OpensRise : List Item → Type 0
OpensRise items =
    (before between behind : List Item) (m c : ℕ) (side : Side) (d e : ℕ)
    → items ≡ before ++ Open m c side d ∷ between ++ Open m c side e ∷ behind → d < e

-- an item of the first kind is there, and none of the second after it
pub record Since (begins ends : Item → Bool) (items : List Item) : Type 0 where
  pub before : List Item
  pub item : Item
  pub behind : List Item
  pub place : items ≡ before ++ item ∷ behind
  pub begun : begins item ≡ true
  pub unended : list_any ends behind ≡ false

-- the module is of this node
abbrev pub is_part_at : ℕ → Option PartTree → Bool
is_part_at n None = false
is_part_at n (Some q) = q.node == n

-- the device is at this node
abbrev pub is_device_at : ℕ → Option AppDevice → Bool
is_device_at n None = false
is_device_at n (Some d) = d.node == n

-- the device gets this value
abbrev pub senses : ℕ → ℕ → Item → Bool
senses d v (Sense e w) = (e == d) && (w == v)
senses d v _ = false

-- the device gets a value, a driver or other code takes the one that it has, or its node is reset
abbrev pub ends_reading : AppTree → ℕ → Item → Bool
ends_reading app d (Sense e v) = e == d
ends_reading app d (Read m v) = contains (device_of app m) d
ends_reading app d (Drain e) = e == d
ends_reading app d (Reset n cause) = is_device_at n (slice_get app.devices d)
ends_reading app d _ = false

-- A module reads the value that its sensor got last, and no one took it in between.
abbrev pub ReadsAreSensed : AppTree → List Item → Type 0
ReadsAreSensed app items =
    (before behind : List Item) (m v : ℕ) → items ≡ before ++ Read m v ∷ behind
    → (d : ℕ) × (device_of app m ≡ Some d) × Since (senses d v) (ends_reading app d) before

-- an event of the module begins
abbrev pub begins_event : ℕ → Item → Bool
begins_event m (Read k v) = k == m
begins_event m (Take k c i v) = k == m
begins_event m _ = false

-- the module does anything but an output, or its node is reset
abbrev pub ends_event : AppTree → ℕ → Item → Bool
ends_event app m (Reset n cause) = is_part_at n (slice_get app.parts m)
ends_event app m (Protect n (Some k)) = k == m
ends_event app m (Read k v) = k == m
ends_event app m (Vouch k a) = k == m
ends_event app m (Open k c side epoch) = k == m
ends_event app m (Take k c i v) = k == m
ends_event app m (Done k status n) = k == m
ends_event app m _ = false

-- Before an output an event of its module began, and since then the module did nothing but outputs.
abbrev pub OutsAreCaused : AppTree → List Item → Type 0
OutsAreCaused app items =
    (before behind : List Item) (m v : ℕ) → items ≡ before ++ Out m v ∷ behind
    → Since (begins_event m) (ends_event app m) before

-- What a reader may take from a trace: each of these.
pub record TellsReader (app : AppTree) (items : List Item) : Type 0 where
  pub takes_rise : TakesRise items
  pub opens_rise : OpensRise items
  pub reads_are_sensed : ReadsAreSensed app items
  pub outs_are_caused : OutsAreCaused app items
