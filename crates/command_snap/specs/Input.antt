-- What a text says as a query: a query, or the first rule that it breaks.
use Rattle.std.specs.Prelude.{ℕ, ◌+◌, nat_lt, if◌then◌else◌, List, [], ◌∷◌, codes, Result, Ok, Err}
use Rattle.std.specs.Prelude.{ok_or}
use Rattle.std.specs.Str.{bytes_eq}
use Rattle.sx_io.specs.Numbers.{number_of}
use Rattle.sx_index.specs.Places.{place_of}
use Rattle.sx_trace.specs.Names.{NameLists}
use Rattle.sx_sched.specs.Words.{words_of, one_word, two_words, four_words}
use Rattle.sx_sched.specs.Reading.{at_least, is_comment}
use Rattle.command_snap.specs.declared.queries.Query.{Query}
use Rattle.command_snap.specs.declared.queries.Query.TheVariants.{Blank, Registers, Bytes, Items}
use Rattle.command_snap.specs.declared.queries.QueryRule.{QueryRule}
use Rattle.command_snap.specs.declared.queries.QueryRule.TheVariants.{TooLong, TooMany, NoKind}
use Rattle.command_snap.specs.declared.queries.QueryRule.TheVariants.{WrongCount, NoName, NoNumber}

-- the number of a rule, as it is printed
abbrev pub rule_number : QueryRule → ℕ
rule_number TooLong = 1
rule_number TooMany = 2
rule_number NoKind = 3
rule_number WrongCount = 4
rule_number NoName = 5
rule_number NoNumber = 6

-- the first answer, and what is made of it
infixl 10 ◌>>=◌
abbrev pub ◌>>=◌ : {A B : Type 0} → Result A QueryRule → (A → Result B QueryRule)
    → Result B QueryRule
Ok x >>= f = f x
Err rule >>= f = Err rule

-- the index of a node
abbrev pub node_of : NameLists → List ℕ → Result ℕ QueryRule
node_of names word = ok_or (place_of names.nodes word) NoName

-- a number from low to high
abbrev pub number_in : ℕ → ℕ → List ℕ → Result ℕ QueryRule
number_in low high word = ok_or (at_least low (number_of word high)) NoNumber

-- no byte lies past 0xFFFF
abbrev pub within_memory : ℕ → ℕ → ℕ → ℕ → Result Query QueryRule
within_memory node from len at =
    if nat_lt 65536 (from + len) then Err NoNumber else Ok (Bytes node from len at)

-- a node, and how many lines were performed
abbrev pub registers_query : NameLists → ℕ → List (List ℕ) → Result Query QueryRule
registers_query names last words = do
  word ← ok_or (two_words words) WrongCount
  node ← node_of names word.0
  at ← number_in 0 last word.1
  Ok (Registers node at)

-- a node, an address, 1 to 64 bytes, and how many lines were performed
abbrev pub bytes_query : NameLists → ℕ → List (List ℕ) → Result Query QueryRule
bytes_query names last words = do
  word ← ok_or (four_words words) WrongCount
  node ← node_of names word.0
  from ← number_in 0 65535 word.1
  len ← number_in 1 64 word.2
  at ← number_in 0 last word.3
  within_memory node from len at

-- the number of a line
abbrev pub items_query : ℕ → List (List ℕ) → Result Query QueryRule
items_query last words = do
  word ← ok_or (one_word words) WrongCount
  at ← number_in 1 last word
  Ok (Items at)

-- what the words after this one say
abbrev pub query_of_kind : NameLists → ℕ → List ℕ → List (List ℕ) → Result Query QueryRule
query_of_kind names last first words =
    if bytes_eq first (codes "regs") then registers_query names last words else
    if bytes_eq first (codes "bytes") then bytes_query names last words else
    if bytes_eq first (codes "items") then items_query last words else
    Err NoKind

-- what words say; none say nothing, as a comment does
abbrev pub said_in : NameLists → ℕ → List (List ℕ) → Result Query QueryRule
said_in names last [] = Ok Blank
said_in names last (first ∷ words) =
    if is_comment first then Ok Blank else query_of_kind names last first words

-- The query with this number, counted from 1, of a schedule with so many lines; or the first rule
-- that it breaks. There are at most 64 lines, blank ones counted.
unfoldable pub judged_query : NameLists → ℕ → ℕ → List ℕ → Result Query QueryRule
judged_query names last number text =
    if nat_lt 64 number then Err TooMany else said_in names last (words_of text)
