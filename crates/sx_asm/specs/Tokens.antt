-- The tokens of a line.
use Rattle.std.specs.Prelude.{ℕ, ◌==◌, Bool, false, ◌&&◌, ◌||◌, nat_le, if◌then◌else◌, List, []}
use Rattle.std.specs.Prelude.{◌∷◌, Option, Some, None, bytes_eq}
use Rattle.sx_lex.specs.Words.{kind_of}
use Rattle.sx_lex.specs.Lexed.{is_space, begins_comment}
use Rattle.sx_lex.specs.declared.tokens.Kind.{Kind}
use Rattle.sx_lex.specs.declared.tokens.Kind.TheVariants as kind
use Rattle.sx_lang.specs.Form.{is_name_byte}
use Rattle.sx_asm.specs.declared.written.Token.{Token}
use Rattle.sx_asm.specs.declared.written.Token.TheVariants.{Number, Name, Bad}
use Rattle.sx_asm.specs.Words.{Table, signs, registers, instructions}

-- a letter, a digit, `_` or `.`
abbrev pub is_word_byte : ℕ → Bool
is_word_byte b = is_name_byte b || (nat_le 65 b && nat_le b 90) || b == 46

-- neighbouring bytes of one token: those of a word, `##` and `//`
abbrev pub joins : ℕ → ℕ → Bool
joins a b = (is_word_byte a && is_word_byte b) || (a == b && (a == 35 || a == 47))

-- a byte before runs
abbrev pub onto : ℕ → List (List ℕ) → List (List ℕ)
onto a [] = (a ∷ []) ∷ []
onto a ([] ∷ more) = (a ∷ []) ∷ more
onto a ((b ∷ bs) ∷ more) = if joins a b then (a ∷ b ∷ bs) ∷ more else (a ∷ []) ∷ (b ∷ bs) ∷ more

-- the longest runs of bytes that join
abbrev pub runs : List ℕ → List (List ℕ)
runs [] = []
runs (b ∷ bs) = onto b (runs bs)

-- the token of this word in a table
abbrev pub found_in : Table → List ℕ → Option Token
found_in [] word = None
found_in (entry ∷ more) word = if bytes_eq word entry.0 then Some entry.1 else found_in more word

-- numbers and names are those of the handler language, whose own words are no names
abbrev pub value_token : Option Kind → Token
value_token (Some (kind.Number n)) = Number n
value_token (Some (kind.Name s)) = Name s
value_token _ = Bad

-- the first token, or the second where there is none
abbrev pub or_else : Option Token → Token → Token
or_else None t = t
or_else (Some t) u = t

-- the token that a run is
abbrev pub token_of : List ℕ → Token
token_of run =
    or_else (found_in signs run)
    (or_else (found_in registers run) (or_else (found_in instructions run)
    (value_token (kind_of run))))

-- spaces and tabs separate tokens
abbrev pub is_gap : List ℕ → Bool
is_gap [] = false
is_gap (b ∷ bs) = is_space b

-- the tokens of runs up to a comment
abbrev pub tokens_in : List (List ℕ) → List Token
tokens_in [] = []
tokens_in (run ∷ more) =
    if begins_comment run then [] else
    if is_gap run then tokens_in more else token_of run ∷ tokens_in more

-- the tokens of a line
unfoldable pub tokens_of : List ℕ → List Token
tokens_of line = tokens_in (runs line)
