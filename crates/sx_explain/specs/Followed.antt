-- What a judge keeps, and how it stands for the items so far.
use Rattle.std.specs.Prelude.{◌≡◌, ℕ, ◌+◌, ◌*◌, ◌/◌, ◌%◌, ◌<◌, ◌≤◌, Bool, true, false, List, length}
use Rattle.std.specs.Prelude.{if◌then◌else◌, is_some, slice_get, slice_set, Option, Some, None, ⊤}
use Rattle.std.specs.Prelude.{◌⊎◌, [], ◌∷◌, ◌++◌}
use Rattle.std.specs.List.{list_any}
use Rattle.sx_mean.specs.declared.apps.Link.{Link}
use Rattle.sx_mean.specs.declared.events.End.{End}
use Rattle.sx_mean.specs.Application.{AppTree}
use Rattle.sx_mean.specs.Ends.{ends_of}
use Rattle.sx_trace.specs.declared.items.Item.{Item}
use Rattle.sx_trace.specs.declared.items.Item.TheVariants.{Sense, Read, Take, Out, Forged}
use Rattle.sx_model.specs.State.{FIELDS, Model, power_on}
use Rattle.sx_model.specs.Step.{device_of, ◌>>?◌}
use Rattle.sx_model.specs.Epochs.{open_epoch}
use Rattle.sx_model.specs.Legal.{after, before, is_forged}
use Rattle.sx_model.specs.Consequences.{begins_event}
use Rattle.sx_model.specs.Changes.{is_from}
use Rattle.sx_explain.specs.declared.numbers.Latest.{Latest}
use Rattle.sx_explain.specs.Causes.{appended, gives, latest, word_of}
use Rattle.sx_explain.specs.declared.judge.Judged.{Judged}
use Rattle.sx_explain.specs.declared.judge.Judged.TheVariants.{Illegal}
use Rattle.sx_explain.specs.Judging.{said}
use Rattle.sx_explain.specs.Filling.{Fills, IsFull, at_field, full}
use Rattle.sx_explain.specs.Wants.{IsBehindEvent}

-- Where the source is and how many items there were, the latest item that gave each device a
-- value, the latest event of each module, the numbers of the items at which words were sent, the
-- event whose words may have none yet, and whether an item was forged.
pub record Seen : Type 0 where
  pub model : Model
  pub taken : ℕ
  pub senses : List (Option ℕ)
  pub events : List (Option ℕ)
  pub causes : List (List ℕ)
  pub behind : Option Latest
  pub has_forged : Bool

-- the cause that is found of an item
abbrev pub found : AppTree → Seen → Item → Option ℕ
found app j (Read m v) = device_of app m >>? (λ d. slice_get j.senses d >>? (λ o. o))
found app j (Take m c i v) = word_of j.causes (c + 256 * (i / 65536)) (i % 65536)
found app j (Out m v) = slice_get j.events m >>? (λ o. o)
found app j _ = None

-- what is kept after an item of this number
abbrev pub noted : ℕ → Item → Seen → Seen
noted n (Sense d v) j = record j { senses = slice_set j.senses d (Some n) }
noted n (Read m v) j = record j {
  events = slice_set j.events m (Some n);
  behind = Some (record { part = m; number = n });
}
noted n (Take m c i v) j = record j {
  events = slice_set j.events m (Some n);
  behind = Some (record { part = m; number = n });
}
noted n (Forged m) j = record j { has_forged = true }
noted n _ j = j

-- numbers of the words of the latest event are written
abbrev pub FillsFor : Option Latest → List (List ℕ) → List (List ℕ) → List (List ℕ) → Type 0
FillsFor None sent old new = new ≡ old
FillsFor (Some l) sent old new = Fills l.number sent old new

-- all of them
abbrev pub IsFullFor : Option Latest → List Link → Model → List (List ℕ) → Type 0
IsFullFor None links s causes = ⊤
IsFullFor (Some l) links s causes = IsFull links s l.part causes

-- all the numbers at a field, those too that aren't written yet
abbrev pub numbers_of : Option Latest → ℕ → List ℕ → List ℕ
numbers_of None count xs = xs
numbers_of (Some l) count xs = full l.number count xs

-- the field is that of an end over which a module sends, by the epoch with which it is open
pub record IsOf (app : AppTree) (s : Model) (m field : ℕ) : Type 0 where
  pub place : ℕ
  pub end : End
  pub there : slice_get (ends_of app m) place ≡ Some end
  pub sends : is_from end.side ≡ true
  pub epoch : ℕ
  pub opened : open_epoch s m place ≡ Some epoch
  pub at : field ≡ end.link + 256 * epoch
  pub low : field < FIELDS

-- there are as many numbers as words at a field, unless the latest event sends there
abbrev pub HasAll : AppTree → Model → Option Latest → ℕ → ℕ → ℕ → Type 0
HasAll app s None field count n = n ≡ count
HasAll app s (Some l) field count n = (n ≡ count) ⊎ IsOf app s l.part field

-- What is kept stands for the items so far, none of which was forged.
pub record Stands (app : AppTree) (items : List Item) (j : Seen) : Type 0 where
  pub ran : after app (power_on app) items ≡ Some j.model
  pub taken : j.taken ≡ length items
  pub devices : length j.senses ≡ length app.devices
  pub senses : (d : ℕ) → (slice_get j.senses d >>? (λ o. o)) ≡ latest (gives d) 1 items
  pub parts : length j.events ≡ length app.parts
  pub events : (m : ℕ) → (slice_get j.events m >>? (λ o. o)) ≡ latest (begins_event m) 1 items
  pub wide : length j.model.sent ≡ FIELDS
  pub width : length j.causes ≡ FIELDS
  pub sent : (field place : ℕ)
      → slice_get (numbers_of j.behind (length (at_field j.model.sent field))
      (at_field j.causes field)) place
      ≡ appended app field place 1 (power_on app) items
  pub few : (field : ℕ) → length (at_field j.causes field) ≤ length (at_field j.model.sent field)
  pub all : (field : ℕ) → HasAll app j.model j.behind field
      (length (at_field j.model.sent field)) (length (at_field j.causes field))
  pub late : is_some j.behind ≡ true → IsBehindEvent items

-- how many of these items a judge takes: those before the first that is forged, and that one
abbrev pub taken_of : List Item → ℕ
taken_of items = length (before items) + (if list_any is_forged items then 1 else 0)

-- A judge follows these items.
pub record Follows (app : AppTree) (items : List Item) (j : Seen) : Type 0 where
  pub forged : j.has_forged ≡ list_any is_forged items
  pub taken : j.taken ≡ taken_of items
  pub stands : j.has_forged ≡ false → Stands app items j

-- what is said of an item that isn't after one that is forged, by what the source makes of it
abbrev pub answered : AppTree → Item → Seen → Option Model → Judged
answered app item j None = Illegal
answered app item j (Some t) = said (found app j item) item

-- and what is kept after it
abbrev pub taken_in : Item → Seen → Option Model → Seen
taken_in item j None = j
taken_in item j (Some t) = noted (j.taken + 1) item (record j { model = t; taken = j.taken + 1 })

-- the items so far, after what was said of this one: one that is illegal isn't taken
abbrev pub items_after : List Item → Item → Judged → List Item
items_after items item Illegal = items
items_after items item _ = items ++ item ∷ []
