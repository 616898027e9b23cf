-- A hexadecimal number is a word, and is read back as that number.
use Rattle.std.proofs.Common.{◌≡◌, ℕ, ◌+◌, ◌*◌, ◌/◌, ◌%◌, ◌<◌, true, nat_le, List, [], ◌∷◌, Some, refl, ap, ◌∙◌, arith}
use Rattle.std.specs.Prelude.{Ok, Option, ok_or}
use Rattle.std.specs.List.{list_all}
use Rattle.std.specs.Char.{digit_value, is_digit}
use Rattle.std.proofs.lemmas.Bool.Decides.{nat_tests}
use Rattle.sx_asm.specs.Shown.{hex_digit, hex_digits, hex}
use Rattle.sx_asm.proofs.Parts.{each}
use Rattle.sx_asm.proofs.ShownTokens.{by_digits}
use Rattle.sx_io.specs.Numbers.{numeral, written_number, number_of, up_to}
use Rattle.sx_sched.specs.Reading.{at_least, no_number, number16}
use Rattle.sx_sched.proofs.Spaced.{is_plain, is_word}

-- a byte is the hexadecimal digit of this value
abbrev IsDigit : ℕ → ℕ → Type 0
IsDigit x d = (is_digit x 16 ≡ true) × (digit_value x ≡ d) × (is_plain x ≡ true)

abbrev DigitFact : ℕ → Type 0
DigitFact d = IsDigit (hex_digit d) d

digit_fact : (d : ℕ) → d < 16 → DigitFact d
digit_fact = each 16 DigitFact (
  (refl, refl, refl),
  (
    (refl, refl, refl),
    (
      (refl, refl, refl),
      (
        (refl, refl, refl),
        (
          (refl, refl, refl),
          (
            (refl, refl, refl),
            (
              (refl, refl, refl),
              (
                (refl, refl, refl),
                ((refl, refl, refl), ((refl, refl, refl), ((refl, refl, refl), ((refl, refl, refl), ((refl, refl, refl), ((refl, refl, refl), ((refl, refl, refl), ((refl, refl, refl), tt)))))))),
              ),
            ),
          ),
        ),
      ),
    ),
  ),
)

-- the digits of a place
at_place : (n : ℕ) → IsDigit (hex_digit (n % 16)) (n % 16)
at_place n = digit_fact (n % 16) (omega arith)

abbrev IsHex : ℕ → List ℕ → Type 0
IsHex n ds = (numeral 16 ds ≡ Some n) × (list_all is_plain ds ≡ true)

one_digit : (n x d : ℕ) → IsDigit x d → d ≡ n → IsHex n (x ∷ [])
one_digit n x d f e = (rw (f.0, f.1) (ap Some (omega (arith, e))), rw f.2 refl)

two_digits : (n x y c d : ℕ) → IsDigit x c → IsDigit y d → c * 16 + d ≡ n → IsHex n (x ∷ y ∷ [])
two_digits n x y c d j f e = (rw (j.0, j.1, f.0, f.1) (ap Some (omega (arith, e))), rw (j.2, f.2) refl)

three_digits : (n x y z b c d : ℕ) → IsDigit x b → IsDigit y c → IsDigit z d → (b * 16 + c) * 16 + d ≡ n → IsHex n (x ∷ y ∷ z ∷ [])
three_digits n x y z b c d i j f e = (rw (i.0, i.1, j.0, j.1, f.0, f.1) (ap Some (omega (arith, e))), rw (i.2, j.2, f.2) refl)

four_digits : (n x y z w a b c d : ℕ) → IsDigit x a → IsDigit y b → IsDigit z c → IsDigit w d → ((a * 16 + b) * 16 + c) * 16 + d ≡ n
    → IsHex n (x ∷ y ∷ z ∷ w ∷ [])
four_digits n x y z w a b c d m i j f e =
    (rw (m.0, m.1, i.0, i.1, j.0, j.1, f.0, f.1) (ap Some (omega (arith, e))), rw (m.2, i.2, j.2, f.2) refl)

digits : (n : ℕ) → n < 65536 → IsHex n (hex_digits n)
digits n h =
    by_digits (IsHex n) n
    (λ k. one_digit n (hex_digit (n / 1 % 16)) (n / 1 % 16) (at_place (n / 1)) (omega (arith, k)))
    (λ k. two_digits n (hex_digit (n / 16 % 16)) (hex_digit (n / 1 % 16)) (n / 16 % 16) (n / 1 % 16) (at_place (n / 16)) (at_place (n / 1))
    (omega (arith, k)))
    (λ k. three_digits n (hex_digit (n / 256 % 16)) (hex_digit (n / 16 % 16)) (hex_digit (n / 1 % 16)) (n / 256 % 16) (n / 16 % 16) (n / 1 % 16)
    (at_place (n / 256)) (at_place (n / 16)) (at_place (n / 1)) (omega (arith, k)))
    (four_digits n (hex_digit (n / 4096 % 16)) (hex_digit (n / 256 % 16)) (hex_digit (n / 16 % 16)) (hex_digit (n / 1 % 16))
    (n / 4096 % 16) (n / 256 % 16) (n / 16 % 16) (n / 1 % 16)
    (at_place (n / 4096)) (at_place (n / 256)) (at_place (n / 16)) (at_place (n / 1)) (omega (arith, h)))

pub hex_word : (n : ℕ) → n < 65536 → is_word (hex n) ≡ true
hex_word n h = (digits n h).1

hex_read : (n : ℕ) → n < 65536 → number_of (hex n) 65535 ≡ Some n
unfolding number_of
hex_read n h =
    let written : written_number (hex n) ≡ Some n = (digits n h).0 in
    let fits : nat_le n 65535 ≡ true = grind (arith, nat_tests, h) in
    ap (up_to 65535) written ∙ (rw fits refl)

pub hex_said : (n : ℕ) → n < 65536 → number16 (hex n) ≡ Ok n
hex_said n h =
    let least : nat_le 0 n ≡ true = grind (arith, nat_tests) in
    ap (λ (o : Option ℕ). ok_or (at_least 0 o) no_number) (hex_read n h) ∙ (rw least refl)
