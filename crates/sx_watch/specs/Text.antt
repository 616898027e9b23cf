-- What a property's text means for a deployment: a property, or the first rule that it breaks.
use Rattle.std.specs.Prelude.{◌≡◌, ◌⊎◌, ℕ, Bool, false, if◌then◌else◌, List, [], ◌∷◌, ◌++◌}
use Rattle.std.specs.Prelude.{Option, Some, None, is_some, option_map, option_and_then, Result, Ok}
use Rattle.std.specs.Prelude.{Err, slice_get}
use Rattle.std.specs.Option.{is_none, option_eq, option_map_or}
use Rattle.std.specs.List.{filter_map, find, list_any}
use Rattle.sx_lang.specs.Tree.{ModuleTree}
use Rattle.sx_lang.specs.declared.tree.DeviceKind.{DeviceKind}
use Rattle.sx_lang.specs.declared.tree.DeviceKind.TheVariants.{Sensor, Actuator}
use Rattle.sx_lex.specs.declared.tokens.Place.{Place}
use Rattle.sx_lex.specs.declared.tokens.Placed.{Placed}
use Rattle.sx_lex.specs.Lexed.{Lexed, start}
use Rattle.spec_grammar.specs.Tokens.{given_tokens}
use Rattle.spec_grammar.specs.Grammar.{IsModule, IsFaultAt}
use Rattle.spec_grammar.specs.Text.{place_of}
use Rattle.sx_check.specs.Rules.{first_broken}
use Rattle.sx_index.specs.Places as names
use Rattle.sx_trace.specs.Names.{NameLists, sensor_place}
use Rattle.sx_mean.specs.Application.{AppTree, PartTree, declared_kind, same_kind}
use Rattle.sx_watch.specs.declared.topics.TopicKind.{TopicKind}
use Rattle.sx_watch.specs.declared.topics.TopicKind.TheVariants.{Sense, Read, Take, Out, Raw}
use Rattle.sx_watch.specs.declared.topics.TopicKind.TheVariants.{Drain, Reset}
use Rattle.sx_watch.specs.declared.rewriting.Head.{Head}
use Rattle.sx_watch.specs.declared.rewriting.Mode.TheVariants.{Plain}
use Rattle.sx_watch.specs.declared.topics.Topic.{Topic}
use Rattle.sx_watch.specs.declared.reading.PropertyFault.{PropertyFault}
use Rattle.sx_watch.specs.declared.reading.PropertyFault.TheVariants.{Syntax, Unknown, Twice}
use Rattle.sx_watch.specs.declared.reading.PropertyFault.TheVariants.{Language}
use Rattle.sx_watch.specs.Topics.{same_topic}
use Rattle.sx_watch.specs.Watched.{PropertyTree}
use Rattle.sx_watch.specs.Rewriting.{module_tokens, read}

-- a module's part has a device of this kind
abbrev pub drives : DeviceKind → PartTree → Bool
drives kind p = option_map_or (same_kind kind) (declared_kind p.tree.decls) false

-- the index of the name of a module with such a device
abbrev pub driver_place : NameLists → AppTree → DeviceKind → List ℕ → Option ℕ
driver_place n app kind w = option_and_then (λ m. if option_map_or (drives kind)
    (slice_get app.parts m) false then Some m else None) (names.place_of n.modules w)

-- the index of what a name names for items of a kind, if it names any
abbrev pub index_of : NameLists → AppTree → TopicKind → List ℕ → Option ℕ
index_of n app Sense w = sensor_place n w
index_of n app Drain w = sensor_place n w
index_of n app Raw w = if is_some (sensor_place n w) then None else names.place_of n.devices w
index_of n app Read w = driver_place n app Sensor w
index_of n app Out w = driver_place n app Actuator w
index_of n app Take w = names.place_of n.links w
index_of n app Reset w = names.place_of n.nodes w
index_of n app _ w = names.place_of n.modules w

-- the topic that the words of a head name, if there is one
abbrev pub topic_of : NameLists → AppTree → Head → Option Topic
topic_of n app h =
    option_map (λ i. record { kind = h.kind; index = i }) (index_of n app h.kind h.name)

-- the first head whose topic is among those that are seen, or that of a head before it
abbrev pub second_from : NameLists → AppTree → List (Option Topic) → List Head → Option Head
second_from n app seen [] = None
second_from n app seen (h ∷ hs) = let t = topic_of n app h in
    if list_any (option_eq same_topic t) seen then Some h else second_from n app (seen ++ t ∷ []) hs

-- What a module with these heads is: a property, or the first rule that it breaks. Each head names
-- a topic, no two the same, and the module keeps the rules of the language.
abbrev pub judged : NameLists → AppTree → List Head → ModuleTree → Result PropertyTree PropertyFault
judged n app hs tree =
    option_map_or (λ h. Err (Unknown h.place)) (find (λ h. is_none (topic_of n app h)) hs)
    (option_map_or (λ h. Err (Twice h.place)) (second_from n app [] hs)
    (option_map_or (λ rule. Err (Language rule)) (first_broken tree)
    (Ok (record { tree = tree; topics = filter_map (topic_of n app) hs }))))

-- What a text means for a deployment with these names and this application: what the module is that
-- its tokens stand for, or their first fault.
pub record IsProperty (n : NameLists) (app : AppTree) (text : List ℕ)
    (outcome : Result PropertyTree PropertyFault) : Type 0 where
  pub tokens : List Placed
  pub end : Place
  pub lexed : Lexed start text tokens end
  pub meant : ((tree : ModuleTree) × IsModule (given_tokens (module_tokens tokens)) tree
      × (outcome ≡ judged n app (read Plain 0 tokens).0 tree))
      ⊎ ((fault : Option Placed) × IsFaultAt (module_tokens tokens) fault
      × (outcome ≡ Err (Syntax (place_of end fault))))
