-- The module that a property's tokens stand for: each token becomes others at its own place.
use Rattle.std.specs.Prelude.{ℕ, ◌+◌, if◌then◌else◌, List, [], ◌∷◌, ◌++◌, map, length, codes}
use Rattle.std.specs.List.{enumerate_from, find, flat_map, list_any}
use Rattle.std.specs.Option.{option_map_or}
use Rattle.std.specs.Str.{bytes_eq}
use denote.Enum.Bare.{sameb}
use Rattle.sx_lex.specs.contracts.tokens.Kind.{the_type as token_kind}
use Rattle.sx_lex.specs.declared.tokens.Kind.{Kind}
use Rattle.sx_lex.specs.declared.tokens.Kind.TheVariants.{Number, Name, Actuator, Input, Var, On}
use Rattle.sx_lex.specs.declared.tokens.Kind.TheVariants.{If, Else, Emit, Semicolon, Equals, Open}
use Rattle.sx_lex.specs.declared.tokens.Kind.TheVariants.{Close, OpenBrace, CloseBrace, Bad}
use Rattle.sx_lex.specs.declared.tokens.Place.{Place}
use Rattle.sx_lex.specs.declared.tokens.Placed.{Placed}
use Rattle.sx_lex.specs.Lexed.{start}
use Rattle.sx_watch.specs.contracts.topics.TopicKind.{the_type as topic_kind}
use Rattle.sx_watch.specs.declared.topics.TopicKind.{TopicKind}
use Rattle.sx_watch.specs.declared.topics.TopicKind.TheVariants.{Drain, Reset, Protect, Attested}
use Rattle.sx_watch.specs.declared.rewriting.Mode.{Mode}
use Rattle.sx_watch.specs.declared.rewriting.Mode.TheVariants.{Plain, Head, Item, Failing, Assuming}
use Rattle.sx_watch.specs.declared.rewriting.Head as heads
use Rattle.sx_watch.specs.Words.{ended, input_name, left_out, topic_words}

-- `fail;` is `if !ended { } else { emit 1; }`, and `assume e;` is `if e { } else { !ended = 1; }`
abbrev pub fail_begins : List Kind
fail_begins = If ∷ Name ended ∷ OpenBrace ∷ CloseBrace ∷ Else ∷ OpenBrace ∷ Emit ∷ Number 1 ∷ []

abbrev pub assume_ends : List Kind
assume_ends = OpenBrace ∷ CloseBrace ∷ Else ∷ OpenBrace ∷ Name ended ∷ Equals ∷ Number 1
    ∷ Semicolon ∷ CloseBrace ∷ []

-- What a token of the language or of a property's own statements becomes, and how the next one is
-- read. What may not be there becomes `Bad`, as a token of the same variant (`sameb`) as one that is
-- left out.
abbrev pub plain : Kind → List Kind × Mode
plain On = (On ∷ [], Head)
plain (Name w) = if bytes_eq w (codes "fail") then (fail_begins, Failing)
    else if bytes_eq w (codes "assume") then (If ∷ [], Assuming) else (Name w ∷ [], Plain)
plain k = (if list_any (sameb token_kind k) left_out then Bad ∷ [] else k ∷ [], Plain)

-- what the name in a head becomes: this input, with a parameter that no text spells where its items
-- have no value; the words of statements are no names here
abbrev pub input_for : TopicKind → List ℕ → List ℕ → List Kind
input_for kind input w = if list_any (bytes_eq w) (codes "fail" ∷ codes "assume" ∷ []) then Bad ∷ []
    else if list_any (sameb topic_kind kind) (Drain ∷ Reset ∷ Protect ∷ Attested ∷ [])
    then Name input ∷ Open ∷ Name (codes "_") ∷ Close ∷ [] else Name input ∷ []

-- What a token becomes that is read so, where this is the next head's input, and how the one after
-- it is read. The first word of a head becomes nothing. An assumption ends with `;`.
abbrev pub read_as : Mode → List ℕ → Kind → List Kind × Mode
read_as Plain input k = plain k
read_as Head input (Name w) = option_map_or (λ found. ([], Item found.1))
    (find (λ entry. bytes_eq w entry.0) topic_words) (Bad ∷ [], Plain)
read_as (Item kind) input (Name w) = (input_for kind input w, Plain)
read_as Failing input Semicolon = (Semicolon ∷ CloseBrace ∷ [], Plain)
read_as Assuming input Semicolon = (assume_ends, Plain)
read_as Assuming input OpenBrace = (Bad ∷ [], Plain)
read_as Assuming input k = ((plain k).0, Assuming)
read_as _ input k = (Bad ∷ [], Plain)

-- the head that ends with this token, if one does
abbrev pub head_at : Mode → Kind → Place → List heads.Head
head_at (Item kind) (Name w) at = record { kind = kind; name = w; place = at } ∷ []
head_at _ k at = []

-- tokens at one place
abbrev pub placed : Place → List Kind → List Placed
placed at ks = map (λ k. record { kind = k; place = at }) ks

-- the heads of a property from a token on, where so many are before it, and what its tokens become
abbrev pub read : Mode → ℕ → List Placed → List heads.Head × List Placed
read mode n [] = ([], [])
read mode n (t ∷ ts) = let now = read_as mode (input_name n) t.kind in
    let head = head_at mode t.kind t.place in let rest = read now.1 (n + length head) ts in
    (head ++ rest.0, placed t.place now.0 ++ rest.1)

-- the tokens of a property's module: what is declared for it, an input for each head, and what its
-- own tokens become
abbrev pub module_tokens : List Placed → List Placed
module_tokens ts = placed start (Actuator ∷ Semicolon ∷ Var ∷ Name ended ∷ Semicolon ∷ [])
    ++ flat_map (λ h. placed h.1.place (Input ∷ Name (input_name h.0) ∷ Semicolon ∷ []))
    (enumerate_from 0 (read Plain 0 ts).0) ++ (read Plain 0 ts).1
