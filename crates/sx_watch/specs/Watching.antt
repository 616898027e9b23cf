-- A property that followed the items of a trace so far. Nobody has to believe this file: it is for
-- contracts of functions.
use Rattle.std.specs.Prelude.{◌≡◌, ℕ, ◌+◌, Bool, true, false, List, [], ◌∷◌, ◌++◌, length, Some}
use Rattle.std.specs.Prelude.{Option, option_map, unwrap_or}
use Rattle.std.specs.List.{list_any, position_from, scan}
use Rattle.sx_lang.specs.Tree.{ModuleTree}
use Rattle.sx_check.specs.Source.{source_tree}
use Rattle.sx_mean.specs.declared.events.SourceEvent.TheVariants as event
use Rattle.sx_mean.specs.Meaning.{HandlerState}
use Rattle.sx_mean.specs.React.{react}
use Rattle.sx_trace.specs.declared.items.Item.{Item}
use Rattle.sx_watch.specs.declared.topics.Topic.{Topic}
use Rattle.sx_watch.specs.declared.topics.TopicKind.{TopicKind}
use Rattle.sx_watch.specs.declared.property.Property.{Property}
use Rattle.sx_watch.specs.declared.watcher.Heard.{Heard}
use Rattle.sx_watch.specs.declared.watcher.Watcher.{Watcher}
use Rattle.sx_watch.specs.Watched.{PropertyTree, broken_at, is_emit, watched}

-- the topic of items of a kind, at this index
abbrev pub about : TopicKind → ℕ → Topic
about kind n = record { kind = kind; index = n }

-- the code's property as plain data
abbrev pub property_as : Property → PropertyTree
property_as p = record { tree = source_tree p.code; topics = p.topics.items }

-- what the code heard as plain data
abbrev pub noticed_as : Heard → Topic × ℕ
noticed_as h = (h.topic, h.value)

-- what a module with these cells makes of a value for the input, if there is one
abbrev pub hears : ModuleTree → List ℕ → Option ℕ → ℕ → HandlerState
hears tree cells input v = unwrap_or (option_map (λ j. react tree (event.Input j v) cells) input)
    (record { locals = []; cells = cells; acts = [] })

-- the number of the first of these items, counted from a number, at which a property with these
-- cells is broken
abbrev pub broken_from : PropertyTree → ℕ → List ℕ → List Item → Option ℕ
broken_from p n cells items = position_from (λ broken. broken) n (scan
    (λ cells item. (watched p cells item).cells)
    (λ cells item. list_any is_emit (watched p cells item).acts) cells items)

-- These items didn't break the property: whether others after them do is found from the cells.
pub record Follows (p : PropertyTree) (items : List Item) (w : Watcher) : Type 0 where
  pub property : property_as w.property ≡ p
  pub unbroken : (more : List Item) → broken_at p (items ++ more)
      ≡ broken_from p (length items + 1) w.store.cells.items more

-- An item came after them. It is the first that breaks the property, or none does yet.
abbrev pub Heeds : PropertyTree → List Item → Item → Watcher → Bool → Type 0
Heeds p items item new true =
    (more : List Item) → broken_at p (items ++ item ∷ more) ≡ Some (length items + 1)
Heeds p items item new false = Follows p (items ++ item ∷ []) new
