-- What the parts of the call that reads a property give. Nobody has to believe this file: it is for
-- contracts of functions that aren't public.
use Rattle.std.specs.Prelude.{◌≡◌, ◌⊎◌, ℕ, Bool, false, if◌then◌else◌, List, [], ◌∷◌, ◌++◌, codes}
use Rattle.std.specs.Prelude.{Option, Some, None, option_map, slice_get, Result, Err}
use Rattle.std.specs.Option.{is_none, option_map_or}
use Rattle.std.specs.List.{enumerate_from, filter_map, find, flat_map, list_any}
use Rattle.std.specs.Str.{bytes_eq}
use denote.Enum.Bare.{sameb}
use Rattle.sx_lang.specs.Tree.{ModuleTree}
use Rattle.sx_lang.specs.declared.tree.DeviceKind.{DeviceKind}
use Rattle.sx_lex.specs.contracts.tokens.Kind.{the_type as token_kind}
use Rattle.sx_lex.specs.declared.tokens.Kind.{Kind}
use Rattle.sx_lex.specs.declared.tokens.Kind.TheVariants.{Actuator, Bad, Close, Input, Name, Open}
use Rattle.sx_lex.specs.declared.tokens.Kind.TheVariants.{Semicolon, Var}
use Rattle.sx_lex.specs.declared.tokens.Place.{Place}
use Rattle.sx_lex.specs.declared.tokens.Placed.{Placed}
use Rattle.sx_lex.specs.Lexed.{start}
use Rattle.spec_grammar.specs.Tokens.{given_tokens}
use Rattle.spec_grammar.specs.Grammar.{IsModule, IsFaultAt}
use Rattle.spec_grammar.specs.Text.{place_of}
use Rattle.sx_trace.specs.Names.{NameLists}
use Rattle.sx_mean.specs.Application.{AppTree}
use Rattle.sx_watch.specs.contracts.topics.TopicKind.{the_type as topic_kind}
use Rattle.sx_watch.specs.declared.topics.Topic.{Topic}
use Rattle.sx_watch.specs.declared.topics.TopicKind.{TopicKind}
use Rattle.sx_watch.specs.declared.topics.TopicKind.TheVariants.{Drain, Reset, Protect, Attested}
use Rattle.sx_watch.specs.declared.reading.PropertyFault.{PropertyFault}
use Rattle.sx_watch.specs.declared.reading.PropertyFault.TheVariants.{Syntax}
use Rattle.sx_watch.specs.declared.rewriting.Mode.{Mode}
use Rattle.sx_watch.specs.declared.rewriting.Mode.TheVariants.{Plain, Head, Failing, Assuming}
use Rattle.sx_watch.specs.declared.rewriting.Head as heads
use Rattle.sx_watch.specs.Words.{ended, input_name, left_out, topic_words}
use Rattle.sx_watch.specs.Watched.{PropertyTree}
use Rattle.sx_watch.specs.Rewriting.{module_tokens, placed, read, read_as}
use Rattle.sx_watch.specs.Text.{drives, judged, topic_of}

-- the kind of items that a handler hears of whose head has this word
abbrev pub kind_of : List ℕ → Option TopicKind
kind_of w = option_map (λ found. found.1) (find (λ entry. bytes_eq w entry.0) topic_words)

-- items of this kind have no value
abbrev pub has_no_value : TopicKind → Bool
has_no_value kind = list_any (sameb topic_kind kind) (Drain ∷ Reset ∷ Protect ∷ Attested ∷ [])

-- properties lack this word of the language
abbrev pub is_left_out : Kind → Bool
is_left_out k = list_any (sameb token_kind k) left_out

-- the statements that properties have beside the language's own
abbrev pub is_fail : List ℕ → Bool
is_fail w = bytes_eq w (codes "fail")

abbrev pub is_assume : List ℕ → Bool
is_assume w = bytes_eq w (codes "assume")

abbrev pub is_reserved : List ℕ → Bool
is_reserved w = list_any (bytes_eq w) (codes "fail" ∷ codes "assume" ∷ [])

-- a token that is no name, where the language's own are
abbrev pub other : Kind → List Kind
other k = if is_left_out k then Bad ∷ [] else k ∷ []

-- what a token becomes, and how the next one is read, as the first word of a head
abbrev pub head_word : Kind → List Kind × Mode
head_word k = read_as Head [] k

-- after `fail`
abbrev pub fail_end : Kind → List Kind × Mode
fail_end k = read_as Failing [] k

-- after `assume`, up to its end
abbrev pub assumed : Kind → List Kind × Mode
assumed k = read_as Assuming [] k

-- the parameter of a handler that has none
abbrev pub unnamed : List ℕ
unnamed = codes "_"

-- an input, where its items have a value and where they have none
abbrev pub named : Bool → List ℕ → List Kind
named bare input =
    if bare then Name input ∷ Open ∷ Name unnamed ∷ Close ∷ [] else Name input ∷ []

-- inputs for heads, of which the first has this number
abbrev pub inputs_from : ℕ → List heads.Head → List Placed
inputs_from n hs =
    flat_map (λ h. placed h.1.place (Input ∷ Name (input_name h.0) ∷ Semicolon ∷ []))
    (enumerate_from n hs)

-- what is declared before the property's own tokens
abbrev pub front : List heads.Head → List Placed
front hs = placed start (Actuator ∷ Semicolon ∷ Var ∷ Name ended ∷ Semicolon ∷ [])
    ++ inputs_from 0 hs

-- the heads of a property
abbrev pub heads_of : List Placed → List heads.Head
heads_of ts = (read Plain 0 ts).0

-- the module of this index, where it has a device of this kind
abbrev pub if_drives : AppTree → DeviceKind → ℕ → Option ℕ
if_drives app kind m =
    if option_map_or (drives kind) (slice_get app.parts m) false then Some m else None

-- the topics of heads that name one
abbrev pub topics_of : NameLists → AppTree → List heads.Head → List Topic
topics_of n app hs = filter_map (topic_of n app) hs

-- the first head whose words name no topic
abbrev pub is_unknown : NameLists → AppTree → heads.Head → Bool
is_unknown n app h = is_none (topic_of n app h)

abbrev pub first_unknown : NameLists → AppTree → List heads.Head → Option heads.Head
first_unknown n app hs = find (is_unknown n app) hs

-- what tokens that end here mean
abbrev pub IsMeant : NameLists → AppTree → List Placed → Place → Result PropertyTree PropertyFault
    → Type 0
IsMeant n app tokens end outcome =
    ((tree : ModuleTree) × IsModule (given_tokens (module_tokens tokens)) tree
    × (outcome ≡ judged n app (read Plain 0 tokens).0 tree))
    ⊎ ((fault : Option Placed) × IsFaultAt (module_tokens tokens) fault
    × (outcome ≡ Err (Syntax (place_of end fault))))
