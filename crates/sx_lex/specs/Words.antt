-- What whole words are tokens.
use Rattle.std.specs.Prelude.{◌≡◌, ℕ, suc, ◌+◌, ◌-◌, ◌*◌, ◌<◌, ◌≤◌, Bool, false, ◌&&◌, List, []}
use Rattle.std.specs.Prelude.{◌∷◌, ◌++◌, length, take, drop, Option, Some, None, nat_eq, nat_le}
use Rattle.std.specs.Prelude.{if◌then◌else◌, codes, ◌==◌}
use Rattle.std.specs.Cmp.Lexicographic.{pointwise}
use Rattle.std.specs.List.{list_all}
pub use Rattle.sx_lang.specs.Form.{is_lower, is_decimal_digit, is_name_byte, is_name}
use Rattle.sx_lex.specs.declared.tokens.Kind.{Kind}
use Rattle.sx_lex.specs.declared.tokens.Kind.TheVariants.{Number, Name, Sensor, Actuator, Input}
use Rattle.sx_lex.specs.declared.tokens.Kind.TheVariants.{Output, Var, Array, On, Sample, Let, If}
use Rattle.sx_lex.specs.declared.tokens.Kind.TheVariants.{Else, Repeat, Send, Emit, Semicolon}
use Rattle.sx_lex.specs.declared.tokens.Kind.TheVariants.{Equals, Open, Close, OpenSquare}
use Rattle.sx_lex.specs.declared.tokens.Kind.TheVariants.{CloseSquare, OpenBrace, CloseBrace}
use Rattle.sx_lex.specs.declared.tokens.Kind.TheVariants.{EqualsEquals, NotEquals, Less, LessEquals}
use Rattle.sx_lex.specs.declared.tokens.Kind.TheVariants.{Greater, GreaterEquals, Plus, Minus, Bar}
use Rattle.sx_lex.specs.declared.tokens.Kind.TheVariants.{Caret, Star, Ampersand, Tilde, Bang}

-- the words that a declaration or a handler begins with
abbrev pub beginning_words : List (List ℕ × Kind)
beginning_words =
    (codes "sensor", Sensor) ∷ (codes "actuator", Actuator) ∷ (codes "input", Input)
    ∷ (codes "output", Output) ∷ (codes "var", Var) ∷ (codes "array", Array)
    ∷ (codes "on", On) ∷ (codes "sample", Sample) ∷ []

-- the words of statements
abbrev pub statement_words : List (List ℕ × Kind)
statement_words =
    (codes "let", Let) ∷ (codes "if", If) ∷ (codes "else", Else) ∷ (codes "repeat", Repeat)
    ∷ (codes "send", Send) ∷ (codes "emit", Emit) ∷ []

-- the language's own words
abbrev pub keywords : List (List ℕ × Kind)
keywords = beginning_words ++ statement_words

-- its signs
abbrev pub signs : List (List ℕ × Kind)
signs =
    (codes ";", Semicolon) ∷ (codes "=", Equals) ∷ (codes "(", Open) ∷ (codes ")", Close)
    ∷ (codes "[", OpenSquare) ∷ (codes "]", CloseSquare) ∷ (codes "{", OpenBrace)
    ∷ (codes "}", CloseBrace)
    ∷ (codes "==", EqualsEquals) ∷ (codes "!=", NotEquals) ∷ (codes "<", Less)
    ∷ (codes "<=", LessEquals) ∷ (codes ">", Greater) ∷ (codes ">=", GreaterEquals)
    ∷ (codes "+", Plus) ∷ (codes "-", Minus) ∷ (codes "|", Bar) ∷ (codes "^", Caret)
    ∷ (codes "*", Star) ∷ (codes "&", Ampersand) ∷ (codes "~", Tilde) ∷ (codes "!", Bang) ∷ []

-- the token of a word in a table of words
abbrev pub found_in : List (List ℕ × Kind) → List ℕ → Option Kind
found_in [] w = None
found_in (q ∷ qs) w = if pointwise nat_eq w q.0 then Some q.1 else found_in qs w

-- what a byte counts as a digit; 16 where it is none in any base up to 16
abbrev pub digit_value : ℕ → ℕ
digit_value b =
    if is_decimal_digit b then b - 48 else
    (if nat_le 97 b && nat_le b 102 then b - 87 else
    (if nat_le 65 b && nat_le b 70 then b - 55 else 16))

-- whether a byte is a digit in this base
abbrev pub is_digit : ℕ → ℕ → Bool
is_digit base b = nat_le (suc (digit_value b)) base

-- the number that digits stand for after a number
abbrev pub value : ℕ → ℕ → List ℕ → ℕ
value base v [] = v
value base v (b ∷ bs) = value base (v * base + digit_value b) bs

-- one digit or more, of a value that a word holds
abbrev pub is_number : ℕ → List ℕ → Bool
is_number base [] = false
is_number base (b ∷ bs) = list_all (is_digit base) (b ∷ bs) && nat_le (value base 0 (b ∷ bs)) 65535

-- `0x` before a number in base 16
abbrev pub is_hexadecimal : List ℕ → Bool
is_hexadecimal (a ∷ b ∷ bs) = (a == 48 && b == 120) && is_number 16 bs
is_hexadecimal _ = false

-- the first kind, or the second where there is none
abbrev pub or_else : Option Kind → Kind → Kind
or_else None k = k
or_else (Some j) k = j

-- the token that a whole word is
abbrev pub kind_of : List ℕ → Option Kind
kind_of w =
    if is_name w then Some (or_else (found_in keywords w) (Name w)) else
    (if is_number 10 w then Some (Number (value 10 0 w)) else
    (if is_hexadecimal w then Some (Number (value 16 0 (drop 2 w))) else
    found_in signs w))

-- the first n bytes are a token, and no longer prefix is one
pub record IsLongest (text : List ℕ) (n : ℕ) (k : Kind) : Type 0 where
  pub here : kind_of (take n text) ≡ Some k
  pub inside : n ≤ length text
  pub longest : (m : ℕ) → n < m → m ≤ length text → kind_of (take m text) ≡ None

-- no prefix is a token
pub record NoToken (text : List ℕ) : Type 0 where
  pub none : (m : ℕ) → m ≤ length text → kind_of (take m text) ≡ None

-- how many bytes are before the first newline
abbrev pub line_length : List ℕ → ℕ
line_length [] = 0
line_length (b ∷ bs) = if b == 10 then 0 else suc (line_length bs)
