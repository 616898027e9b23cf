-- What a text says as a line of a schedule: a line, or the first rule that it breaks.
use Rattle.std.specs.Prelude.{ℕ, ◌==◌, nat_le, Bool, false, ◌&&◌, if◌then◌else◌, List, [], ◌∷◌}
use Rattle.std.specs.Prelude.{length, codes, Option, Some, None, Result, Ok, Err, ok_or}
use Rattle.std.specs.Str.{bytes_eq, is_utf8}
use Rattle.hex.specs.Hex.{decode_of}
use Rattle.hex.specs.declared.error.FromHexError.{FromHexError}
use Rattle.sx_asm.specs.declared.error.AsmError.{AsmError}
use Rattle.sx_io.specs.Numbers.{number_of}
use Rattle.sx_index.specs.Places.{place_of}
use Rattle.sx_trace.specs.Names.{NameLists, sensor_place}
use Rattle.sx_sched.specs.declared.lines.LineError.{LineError}
use Rattle.sx_sched.specs.declared.lines.LineError.TheVariants.{Fault}
use Rattle.sx_sched.specs.Lines.{Line, Blank, Run, Finish, Put, Set, Take, Give, Forge, Sense, Irq}
use Rattle.sx_sched.specs.Lines.{Reset, Ask, Answer, Load, Call}
use Rattle.sx_sched.specs.Words.{words_of, text_behind, one_word, two_words, three_words}
use Rattle.sx_sched.specs.Words.{four_words, two_before}

-- rule 3: the first word is none of the kinds of line
abbrev pub no_kind : LineError
no_kind = Fault 3

-- rule 4: a word is no name that is there
abbrev pub no_name : LineError
no_name = Fault 4

-- rule 5: a word is no number in its range
abbrev pub no_number : LineError
no_number = Fault 5

-- rule 6: a word is not the hexadecimal text of as many bytes as are allowed
abbrev pub no_bytes : LineError
no_bytes = Fault 6

-- rule 7: there are too many or too few words
abbrev pub wrong_count : LineError
wrong_count = Fault 7

-- rule 8: the text of an `asm` line gives no code of 1 to 1,024 bytes
abbrev pub no_code : LineError
no_code = Fault 8

-- the first answer, and what is made of it
infixl 10 ◌>>=◌
abbrev pub ◌>>=◌ : {A B : Type 0} → Result A LineError → (A → Result B LineError)
    → Result B LineError
Ok x >>= f = f x
Err e >>= f = Err e

-- What one word says.

-- the index of a node
abbrev pub node_of : NameLists → List ℕ → Result ℕ LineError
node_of n word = ok_or (place_of n.nodes word) no_name

-- the index of a device that is a sensor
abbrev pub sensor_of : NameLists → List ℕ → Result ℕ LineError
sensor_of n word = ok_or (sensor_place n word) no_name

-- the index of a module
abbrev pub module_of : NameLists → List ℕ → Result ℕ LineError
module_of n word = ok_or (place_of n.modules word) no_name

-- the names of the registers; R3, which keeps no value, isn't set
abbrev pub registers : List (List ℕ × ℕ)
registers =
    (codes "pc", 0) ∷ (codes "sp", 1) ∷ (codes "sr", 2) ∷ (codes "r0", 0) ∷ (codes "r1", 1)
    ∷ (codes "r2", 2) ∷ (codes "r4", 4) ∷ (codes "r5", 5)
    ∷ (codes "r6", 6) ∷ (codes "r7", 7) ∷ (codes "r8", 8) ∷ (codes "r9", 9) ∷ (codes "r10", 10)
    ∷ (codes "r11", 11) ∷ (codes "r12", 12)
    ∷ (codes "r13", 13) ∷ (codes "r14", 14) ∷ (codes "r15", 15) ∷ []

-- the number of the first entry with this name
abbrev pub register_in : List (List ℕ × ℕ) → List ℕ → Option ℕ
register_in [] word = None
register_in (entry ∷ more) word =
    if bytes_eq word entry.0 then Some entry.1 else register_in more word

-- the number of a register that can be set
unfoldable pub register_of : List ℕ → Result ℕ LineError
register_of word = ok_or (register_in registers word) no_name

-- a number that is low or more
abbrev pub at_least : ℕ → Option ℕ → Option ℕ
at_least low None = None
at_least low (Some k) = if nat_le low k then Some k else None

-- a number from low to high
abbrev pub number_in : ℕ → ℕ → List ℕ → Result ℕ LineError
number_in low high word = ok_or (at_least low (number_of word high)) no_number

-- a number from 0 to 65,535
abbrev pub number16 : List ℕ → Result ℕ LineError
number16 word = number_in 0 65535 word

-- a number from 0 to 4,294,967,295
abbrev pub number32 : List ℕ → Result ℕ LineError
number32 word = number_in 0 4294967295 word

-- 1 to this many of the bytes that were decoded
abbrev pub decoded_bytes : ℕ → Result (List ℕ) FromHexError → Result (List ℕ) LineError
decoded_bytes most (Err e) = Err no_bytes
decoded_bytes most (Ok bytes) =
    if nat_le 1 (length bytes) && nat_le (length bytes) most then Ok bytes else Err no_bytes

-- 1 to this many bytes as hexadecimal text
abbrev pub bytes_of : ℕ → List ℕ → Result (List ℕ) LineError
bytes_of most word = decoded_bytes most (decode_of word)

-- What a text says.

-- 1 to 1,024 of the bytes that were assembled
abbrev pub code_in : Result (List ℕ) AsmError → Result (List ℕ) LineError
code_in (Err e) = Err no_code
code_in (Ok code) =
    if nat_le 1 (length code) && nat_le (length code) 1024 then Ok code else Err no_code

-- an assembler: the code at an address of a text, or why there is none
abbrev pub Assembler : Type 0
Assembler = ℕ → List ℕ → Result (List ℕ) AsmError

-- the code at an address of a text, which is UTF-8
abbrev pub code_of : Assembler → ℕ → List ℕ → Result (List ℕ) LineError
code_of assemble at text = if is_utf8 text then code_in (assemble at text) else Err no_code

-- What this many words say in order.

-- a line of one field, which is read by the first function
abbrev pub one : {A : Type 0} → (List ℕ → Result A LineError) → (A → Line) → List (List ℕ)
    → Result Line LineError
one f make fields = do
  word ← ok_or (one_word fields) wrong_count
  a ← f word
  Ok (make a)

-- a line of two fields, each read by a function of its own
abbrev pub two : {A B : Type 0} → (List ℕ → Result A LineError) → (List ℕ → Result B LineError)
    → (A → B → Line) → List (List ℕ) → Result Line LineError
two f g make fields = do
  word ← ok_or (two_words fields) wrong_count
  a ← f word.0
  b ← g word.1
  Ok (make a b)

-- a line of three fields, each read by a function of its own
abbrev pub three : {A B C : Type 0} → (List ℕ → Result A LineError) → (List ℕ → Result B LineError)
    → (List ℕ → Result C LineError)
    → (A → B → C → Line) → List (List ℕ) → Result Line LineError
three f g h make fields = do
  word ← ok_or (three_words fields) wrong_count
  a ← f word.0
  b ← g word.1
  c ← h word.2
  Ok (make a b c)

-- a line of four fields, each read by a function of its own
abbrev pub four : {A B C D : Type 0} → (List ℕ → Result A LineError) → (List ℕ → Result B LineError)
    → (List ℕ → Result C LineError)
    → (List ℕ → Result D LineError) → (A → B → C → D → Line) → List (List ℕ) → Result Line LineError
four f g h i make fields = do
  word ← ok_or (four_words fields) wrong_count
  a ← f word.0
  b ← g word.1
  c ← h word.2
  d ← i word.3
  Ok (make a b c d)

-- assembled code is put: a node, its address there, and the text, of a word or more
abbrev pub code_line : Assembler → NameLists → List ℕ → List (List ℕ) → Result Line LineError
code_line assemble n text fields = do
  word ← ok_or (two_before fields) wrong_count
  node ← node_of n word.0
  at ← number16 word.1
  code ← code_of assemble at text
  Ok (Put node at code)

-- The kinds of line: the first word, and what the words after it say. A kind may take the text
-- after the third word as it is.

-- a kind of line: its first word, and the line that the other words give
abbrev pub Kind : Type 0
Kind = List ℕ × (List (List ℕ) → Result Line LineError)

-- the kinds of lines that begin with a module
abbrev pub module_kinds : NameLists → List Kind
module_kinds n =
    (codes "ask", one (module_of n) Ask)
    ∷ (codes "answer", three (module_of n) number32 number32 Answer)
    ∷ (codes "load", one (module_of n) Load)
    ∷ (codes "call", four (module_of n) number16 number16 number16 Call)
    ∷ []

-- the kinds whose lines have no bytes, and those that begin with a module last
abbrev pub plain_kinds : NameLists → List Kind
plain_kinds n =
    (codes "run", two (node_of n) (number_in 1 65535) Run)
    ∷ (codes "finish", one (node_of n) Finish)
    ∷ (codes "set", three (node_of n) register_of number16 Set)
    ∷ (codes "take", three (node_of n) number16 (number_in 1 384) Take)
    ∷ (codes "give", three number32 (node_of n) number16 Give)
    ∷ (codes "sense", two (sensor_of n) (number_in 0 32767) Sense)
    ∷ (codes "irq", two (node_of n) (number_in 0 14) Irq)
    ∷ (codes "reset", one (node_of n) Reset)
    ∷ module_kinds n

-- all kinds of line; `text` is the line's text, which an `asm` line reads as a whole
abbrev pub kinds : Assembler → NameLists → List ℕ → List Kind
kinds assemble n text =
    (codes "put", three (node_of n) number16 (bytes_of 1024) Put)
    ∷ (codes "forge", one (bytes_of 384) Forge)
    ∷ (codes "asm", code_line assemble n text)
    ∷ plain_kinds n

-- what the kind of this first word says of the words after it
abbrev pub said_by : List Kind → List ℕ → List (List ℕ) → Result Line LineError
said_by [] first fields = Err no_kind
said_by (kind ∷ more) first fields =
    if bytes_eq first kind.0 then kind.1 fields else said_by more first fields

-- a word that begins with `#` begins a comment
abbrev pub is_comment : List ℕ → Bool
is_comment [] = false
is_comment (c ∷ cs) = c == 35

-- what words say; none say nothing, as a comment does
abbrev pub said_in : Assembler → NameLists → List ℕ → List (List ℕ) → Result Line LineError
said_in assemble n text [] = Ok Blank
said_in assemble n text (first ∷ fields) =
    if is_comment first then Ok Blank else said_by (kinds assemble n text) first fields

-- what a text says: one line, or one broken rule
unfoldable pub said_line : Assembler → NameLists → List ℕ → Result Line LineError
said_line assemble n text = said_in assemble n (text_behind 3 text) (words_of text)
