-- From a text to its items: what rule 1 is about.
use Rattle.std.specs.Prelude.{ℕ, ◌+◌, ◌-◌, ◌==◌, Bool, ◌&&◌, nat_le, if◌then◌else◌, List, [], ◌∷◌}
use Rattle.std.specs.Prelude.{◌++◌, length, Option, Some, None, ok_or, Result, Ok, Err}
use Rattle.sx_asm.specs.declared.written.Token.{Token}
use Rattle.sx_asm.specs.declared.written.Item.{Item}
use Rattle.sx_asm.specs.declared.written.Entry.{Entry}
use Rattle.sx_asm.specs.declared.error.AsmError.{AsmError}
use Rattle.sx_asm.specs.declared.error.AsmError.TheVariants.{Fault}
use Rattle.sx_asm.specs.Tokens.{tokens_of}
use Rattle.sx_asm.specs.Grammar.{is_semicolon, piece_of}

-- the first answer, and what is made of it
infixl 10 ◌>>=◌
abbrev pub ◌>>=◌ : {A B : Type 0} → Result A AsmError → (A → Result B AsmError) → Result B AsmError
Ok x >>= f = f x
Err e >>= f = Err e

-- an element before the first part
abbrev pub onto_first : {A : Type 0} → A → List (List A) → List (List A)
onto_first x [] = (x ∷ []) ∷ []
onto_first x (part ∷ more) = (x ∷ part) ∷ more

-- the parts between the separators; one more than there are of these
abbrev pub parts : {A : Type 0} → (A → Bool) → List A → List (List A)
parts at [] = [] ∷ []
parts at (x ∷ xs) = if at x then [] ∷ parts at xs else onto_first x (parts at xs)

-- both lists of items, where both are written
abbrev pub append : Option (List Item) → Option (List Item) → Option (List Item)
append (Some is) (Some js) = Some (is ++ js)
append None js = None
append (Some is) None = None

-- the items of a line's pieces, in order
abbrev pub items_in : List (List Token) → Option (List Item)
items_in [] = Some []
items_in (piece ∷ more) = append (piece_of piece) (items_in more)

-- what a line's pieces say
abbrev pub items_of : List ℕ → Option (List Item)
items_of line = items_in (parts is_semicolon (tokens_of line))

-- items with the number of their line
abbrev pub placed_entries : ℕ → List Item → List Entry
placed_entries n [] = []
placed_entries n (i ∷ is) = record { line = n; item = i } ∷ placed_entries n is

-- the bytes of a line, with its newline where a line follows
abbrev pub taken : List ℕ → List (List ℕ) → ℕ
taken line [] = length line
taken line (next ∷ more) = length line + 1

-- the fault of rule 1 at a line
abbrev pub not_written : ℕ → AsmError
not_written n = Fault 1 n

-- a line of at most 4,096 bytes, within the bytes that are left
abbrev pub line_fits : ℕ → List ℕ → List (List ℕ) → Bool
line_fits left line more = nat_le (length line) 4096 && nat_le (taken line more) left

-- the lines from the one with this number on, where this many bytes are left
abbrev pub read_lines : ℕ → ℕ → List (List ℕ) → Result (List Entry) AsmError
read_lines n left [] = Ok []
read_lines n left (line ∷ more) =
    if line_fits left line more then (
    ok_or (items_of line) (not_written n) >>= (λ items.
    read_lines (n + 1) (left - taken line more) more >>= (λ entries.
    Ok (placed_entries n items ++ entries)))
    ) else Err (not_written n)

-- the byte that ends a line
abbrev pub is_newline : ℕ → Bool
is_newline b = b == 10

-- a text of at most 262,144 bytes
unfoldable pub read : List ℕ → Result (List Entry) AsmError
read text = read_lines 1 262144 (parts is_newline text)
