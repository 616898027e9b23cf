-- Forms of the tokens' definitions that code computes with. Nobody has to believe this file.
use Rattle.std.specs.Prelude.{ℕ, suc, ◌+◌, ◌*◌, ◌==◌, ◌&&◌, nat_le, Bool, if◌then◌else◌, List, []}
use Rattle.std.specs.Prelude.{◌∷◌, ◌++◌, take, drop, Option, Some, None, option_map}
use Rattle.std.specs.Prelude.{option_and_then}
use Rattle.sx_lex.specs.Words.{is_digit, digit_value, is_number, value}
use Rattle.sx_asm.specs.Tokens.{joins}
use Rattle.sx_asm.specs.Reading.{parts}

-- how many bytes at the start continue the run of the byte before them
abbrev pub run_front : ℕ → List ℕ → ℕ
run_front a [] = 0
run_front a (b ∷ bs) = if joins a b then suc (run_front b bs) else 0

-- the value of a byte that is a digit in this base
abbrev pub digit_of : ℕ → ℕ → Option ℕ
digit_of base b = if is_digit base b then Some (digit_value b) else None

-- a number that is a word
abbrev pub up_to : ℕ → Option ℕ
up_to n = if nat_le n 65535 then Some n else None

-- a number with one more digit, at most 65,535
abbrev pub with_digit : ℕ → ℕ → ℕ → Option ℕ
with_digit base n b = option_and_then (λ d. up_to (n * base + d)) (digit_of base b)

-- the number that digits write after a number, at most 65,535
abbrev pub digits_from : ℕ → ℕ → List ℕ → Option ℕ
digits_from base n [] = Some n
digits_from base n (b ∷ bs) = option_and_then (λ m. digits_from base m bs) (with_digit base n b)

-- the number that a text of digits writes in this base, if it is a word
abbrev pub numeral_of : ℕ → List ℕ → Option ℕ
numeral_of base text = if is_number base text then Some (value base 0 text) else None

-- the number that is a token: hexadecimal after `0x`, and else decimal
abbrev pub number_of : List ℕ → Option ℕ
number_of [] = numeral_of 10 []
number_of (a ∷ []) = numeral_of 10 (a ∷ [])
number_of (a ∷ b ∷ bs) =
    if a == 48 && b == 120 then numeral_of 16 bs else numeral_of 10 (a ∷ b ∷ bs)

-- the parts after the first, where there are some
abbrev pub behind : {A : Type 0} → (A → Bool) → Option (List A) → List (List A)
behind at None = []
behind at (Some xs) = parts at xs

-- elements before the first part
abbrev pub in_front : {A : Type 0} → List A → List (List A) → List (List A)
in_front xs [] = xs ∷ []
in_front xs (part ∷ more) = (xs ++ part) ∷ more

-- all but the first
abbrev pub tail_of : {A : Type 0} → List A → Option (List A)
tail_of [] = None
tail_of (x ∷ xs) = Some xs

-- the lists before and after the element at this place, where there is one
abbrev pub cut : {A : Type 0} → ℕ → List A → Option (List A × List A)
cut n xs = option_map (λ rest. (take n xs, rest)) (tail_of (drop n xs))
