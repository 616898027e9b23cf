-- How far a text was read, and how many bytes of a token are at its front.
use Rattle.std.specs.Prelude.{ℕ, ◌+◌, List, ◌++◌, ◌≡◌, zero, suc, ◌*◌, ◌≤◌, Bool, false, ◌&&◌, []}
use Rattle.std.specs.Prelude.{◌∷◌, length, take, None, nat_le, if◌then◌else◌}
use Rattle.sx_lex.specs.declared.tokens.Place.{Place}
use Rattle.sx_lex.specs.declared.tokens.Placed.{Placed}
use Rattle.sx_lex.specs.Lexed.{start, Lexed}
use Rattle.sx_lang.specs.Form.{is_name_byte}
use Rattle.sx_lex.specs.Words.{signs, found_in, digit_value, is_digit, value, is_hexadecimal}

-- in any way that the rest is read, the whole is these tokens and then the rest's
pub record LexedSoFar (text : List ℕ) (out : List Placed) (at : Place) (rest : List ℕ) : Type
    0 where
  pub begun : (ts : List Placed) → (end : Place) → Lexed at rest ts end
      → Lexed start text (out ++ ts) end

-- the first byte is of this sort
abbrev pub first_is : (ℕ → Bool) → List ℕ → Bool
first_is sort [] = false
first_is sort (b ∷ bs) = sort b

-- no prefix is a number in base 16
pub record NoHexadecimal (text : List ℕ) : Type 0 where
  pub none : (m : ℕ) → m ≤ length text → is_hexadecimal (take m text) ≡ false

-- the start is no sign of two bytes
pub record NoPair (text : List ℕ) : Type 0 where
  pub none : 2 ≤ length text → found_in signs (take 2 text) ≡ None

-- how many bytes at the start are name bytes, at most this many
abbrev pub name_front : ℕ → List ℕ → ℕ
name_front zero bs = 0
name_front (suc k) [] = 0
name_front (suc k) (b ∷ bs) = if is_name_byte b then suc (name_front k bs) else 0

-- how many digits at the start can go on a number
abbrev pub number_front : ℕ → ℕ → List ℕ → ℕ
number_front base v [] = 0
number_front base v (b ∷ bs) = if is_digit base b && nat_le (v * base + digit_value b) 65535 then
    suc (number_front base (v * base + digit_value b) bs) else 0

-- this many digits were read, of this value, and the rest is still to be read
pub record Counted (text : List ℕ) (base count v : ℕ) (rest : List ℕ) : Type 0 where
  pub fronts : number_front base 0 text ≡ count + number_front base v rest
  pub values : value base 0 (take (number_front base 0 text) text)
      ≡ value base v (take (number_front base v rest) rest)
  pub inside : count + length rest ≡ length text
