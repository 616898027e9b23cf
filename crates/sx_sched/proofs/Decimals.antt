-- A decimal number is a word, and is read back as that number.
use Rattle.std.proofs.Common.{◌≡◌, ℕ, ◌^◌, ◌<◌, ◌≤◌, Bool, true, false, ◌&&◌, ◌==◌, nat_le, List, [], ◌∷◌, length, decimal, Some, refl, sym, ◌∙◌, arith, if◌then◌else◌}
use Rattle.std.specs.Prelude.{Ok}
use Rattle.std.specs.List.{list_all}
use Rattle.std.specs.Char.{digit_value}
use Rattle.std.specs.Str.Parse.{AllDigits, digits_value}
use Rattle.std.proofs.lemmas.Bool.Decides.{nat_tests}
use Rattle.std.proofs.lemmas.Fmt.{decimal_is_IsNumeral, length-decimal-le}
use Rattle.sx_io.specs.Numbers.{are_digits, place_value, is_numeral, numeral, written_number, number_of}
use Rattle.sx_io.proofs.Digits.{digits_value-place, are_digits-true}
use Rattle.sx_sched.specs.Reading.{number_in}
use Rattle.sx_sched.proofs.Spaced.{is_plain, is_word}

-- '0' to '9'
is_decimal : (c : ℕ) → digit_value c < 10 → (48 ≤ c) × (c ≤ 57)
is_decimal c h = (low, high)
  where
    low : 48 ≤ c
    low = grind (arith, nat_tests, h)

    high : c ≤ 57
    high = grind (arith, nat_tests, h)

plain_digits : (ds : List ℕ) → AllDigits 10 ds → list_all is_plain ds ≡ true
plain_digits [] h = refl
plain_digits (c ∷ cs) h =
    let d = is_decimal c h.0 in
    let no_space : (c == 32) ≡ false = grind (arith, nat_tests, d.0) in
    let no_tab : (c == 9) ≡ false = grind (arith, nat_tests, d.0) in
    rw (no_space, no_tab) (plain_digits cs h.1)

plain_word : (ds : List ℕ) → 0 < length ds → AllDigits 10 ds → is_word ds ≡ true
plain_word [] some h = absurd (omega (arith, some))
plain_word (c ∷ cs) some h = plain_digits (c ∷ cs) h

pub decimal_word : (n : ℕ) → n < 2 ^ 64 → is_word (decimal n) ≡ true
decimal_word n h = let d = decimal_is_IsNumeral n h in plain_word (decimal n) d.0.0 d.0.1

-- no digit is the `x` of a hexadecimal number
no_prefix : (ds : List ℕ) → AllDigits 10 ds → written_number ds ≡ numeral 10 ds
no_prefix [] h = refl
no_prefix (a ∷ []) h = refl
no_prefix (a ∷ b ∷ cs) h =
    let d = is_decimal b h.1.0 in
    let other : (b == 120) ≡ false = grind (arith, nat_tests, d.1) in
    go (a == 48) (b == 120) other
  where
    go : (s t : Bool) → t ≡ false → (if s && t then numeral 16 cs else numeral 10 (a ∷ b ∷ cs)) ≡ numeral 10 (a ∷ b ∷ cs)
    go true true e = absurd (cc)
    go true false e = refl
    go false t e = refl

numeral_is : (n : ℕ) (ds : List ℕ) → 0 < length ds → length ds ≤ 20 → AllDigits 10 ds → digits_value 10 ds ≡ n → numeral 10 ds ≡ Some n
numeral_is n ds some few digits value =
    let all : are_digits 10 ds ≡ true = are_digits-true 10 ds digits in
    let is : is_numeral 10 ds ≡ true = grind (arith, nat_tests, some, few, all) in
    let same : place_value 10 ds ≡ n = sym (digits_value-place 10 ds) ∙ value in
    rw (is, same) refl

pub number_read : (most n : ℕ) → n ≤ most → n < 2 ^ 64 → number_of (decimal n) most ≡ Some n
unfolding number_of
number_read most n within small =
    let d = decimal_is_IsNumeral n small in
    let written : written_number (decimal n) ≡ Some n =
    no_prefix (decimal n) d.0.1 ∙ numeral_is n (decimal n) d.0.0 (length-decimal-le 20 n (omega arith) (omega arith) small) d.0.1 d.1 in
    let fits : nat_le n most ≡ true = grind (arith, nat_tests, within) in
    rw (written, fits) refl

pub number_said : (most n : ℕ) → n ≤ most → n < 2 ^ 64 → number_in 0 most (decimal n) ≡ Ok n
number_said most n within small =
    let low : nat_le 0 n ≡ true = grind (arith, nat_tests) in
    rw (number_read most n within small, low) refl

pub number_between : (low most n : ℕ) → low ≤ n → n ≤ most → n < 2 ^ 64 → number_in low most (decimal n) ≡ Ok n
number_between low most n enough within small =
    let least : nat_le low n ≡ true = grind (arith, nat_tests, enough) in
    rw (number_read most n within small, least) refl
