-- What a property makes of the items of a trace, and when it is broken.
use Rattle.std.specs.Prelude.{ℕ, Bool, true, false, List, [], Option, option_and_then, option_map}
use Rattle.std.specs.Prelude.{unwrap_or}
use Rattle.std.specs.List.{list_any, position_from, scan}
use Rattle.sx_lang.specs.Tree.{ModuleTree}
use Rattle.sx_mean.specs.declared.events.Act.{Act}
use Rattle.sx_mean.specs.declared.events.Act.TheVariants.{Send, Emit}
use Rattle.sx_mean.specs.declared.events.SourceEvent.TheVariants as event
use Rattle.sx_mean.specs.Meaning.{HandlerState}
use Rattle.sx_mean.specs.Places.{initial_cells}
use Rattle.sx_mean.specs.React.{react}
use Rattle.sx_trace.specs.declared.items.Item.{Item}
use Rattle.sx_watch.specs.declared.topics.Topic.{Topic}
use Rattle.sx_watch.specs.Topics.{heard_of, same_topic}

-- a property: a module, and the topic that each of its inputs hears of
pub record PropertyTree : Type 0 where
  pub tree : ModuleTree
  pub topics : List Topic

-- the input that hears of the topic, if there is one
abbrev pub input_of : PropertyTree → Topic → Option ℕ
input_of p t = position_from (same_topic t) 0 p.topics

-- what the property with these cells makes of an item: nothing, unless an input hears of it
abbrev pub watched : PropertyTree → List ℕ → Item → HandlerState
watched p cells item = unwrap_or (option_and_then (λ n. option_map
    (λ j. react p.tree (event.Input j n.1) cells) (input_of p n.0)) (heard_of item))
    (record { locals = []; cells = cells; acts = [] })

-- the act breaks the property
abbrev pub is_emit : Act → Bool
is_emit (Send output v) = false
is_emit (Emit v) = true

-- the number, from 1, of the first item at which the property is broken
abbrev pub broken_at : PropertyTree → List Item → Option ℕ
broken_at p items = position_from (λ broken. broken) 1 (scan
    (λ cells item. (watched p cells item).cells)
    (λ cells item. list_any is_emit (watched p cells item).acts) (initial_cells p.tree.decls) items)
