-- The tokens of what is shown.
use Rattle.std.proofs.Common.{◌≡◌, ◌≢◌, ℕ, ◌+◌, ◌*◌, ◌/◌, ◌%◌, ◌<◌, ◌≤◌, Bool, true, false, List, [], ◌∷◌, length, refl, sym, ap, ◌∙◌, arith, Some}
use Rattle.std.specs.Prelude.{nat_lt, nat_le}
use Rattle.std.specs.List.{list_all}
use Rattle.std.proofs.lemmas.Bool.Decides.{nat_tests}
use Rattle.sx_isa.specs.declared.instruction.Op2.{Op2}
use Rattle.sx_isa.specs.declared.instruction.Op2.TheVariants.{Mov, Add, Addc, Subc, Sub, Cmp, Bit, Bic, Bis, Xor, And}
use Rattle.sx_isa.specs.declared.instruction.Op1.{Op1}
use Rattle.sx_isa.specs.declared.instruction.Op1.TheVariants.{Rrc, Swpb, Rra, Sxt, Push, Call}
use Rattle.sx_asm.specs.declared.written.Token.{Token}
use Rattle.sx_asm.specs.declared.written.Token.TheVariants.{Two, One, Jump, Sancus, Reg, Number}
use Rattle.sx_asm.specs.Words.{op2_name, op1_name, sized, jump_name, sancus_name, register_name}
use Rattle.sx_asm.specs.Tokens.{is_word_byte, token_of}
use Rattle.sx_asm.specs.Shown.{hex_digit, hex_digits, hex}
use Rattle.sx_asm.specs.Fronts.{digit_of, with_digit, digits_from}
use Rattle.sx_asm.proofs.Numbers.{numeral_number}
use Rattle.sx_asm.proofs.WordKinds.{number_token, hexadecimal}
use Rattle.sx_asm.proofs.Parts.{is_whole, each}

-- Numbers.

abbrev DigitFact : ℕ → Type 0
DigitFact d = (is_word_byte (hex_digit d) ≡ true) × (digit_of 16 (hex_digit d) ≡ Some d)

digit_fact : (d : ℕ) → d < 16 → DigitFact d
digit_fact = each 16 DigitFact (
  (refl, refl),
  (
    (refl, refl),
    (
      (refl, refl),
      (
        (refl, refl),
        (
          (refl, refl),
          ((refl, refl), ((refl, refl), ((refl, refl), ((refl, refl), ((refl, refl), ((refl, refl), ((refl, refl), ((refl, refl), ((refl, refl), ((refl, refl), ((refl, refl), tt))))))))))),
        ),
      ),
    ),
  ),
)

with_hex : (m d : ℕ) → d < 16 → m * 16 + d ≤ 65535 → with_digit 16 m (hex_digit d) ≡ Some (m * 16 + d)
with_hex m d h k =
    let e : nat_le (m * 16 + d) 65535 ≡ true = grind (arith, nat_tests, k) in
    rw ((digit_fact d h).1, e) refl

step : (m d : ℕ) (rest : List ℕ) → d < 16 → m * 16 + d ≤ 65535 → digits_from 16 m (hex_digit d ∷ rest) ≡ digits_from 16 (m * 16 + d) rest
step m d rest h k = rw (with_hex m d h k) refl

abbrev IsHex : ℕ → List ℕ → Type 0
IsHex n ds = (list_all is_word_byte ds ≡ true) × (digits_from 16 0 ds ≡ Some n) × (0 < length ds) × (length ds ≤ 4)

-- digits before others are of words
word_in_front : (d : ℕ) (ds : List ℕ) → d < 16 → list_all is_word_byte ds ≡ true → list_all is_word_byte (hex_digit d ∷ ds) ≡ true
word_in_front d ds h k = rw ((digit_fact d h).0, k) refl

low : (n : ℕ) → n % 16 < 16
low n = omega arith

words_of_one : (d : ℕ) → d < 16 → list_all is_word_byte (hex_digit d ∷ []) ≡ true
words_of_one d h = word_in_front d [] h refl

one_digit : (n d : ℕ) → d < 16 → d ≡ n → IsHex n (hex_digit d ∷ [])
one_digit n d h e = (words_of_one d h, step 0 d [] h (omega (arith, h)) ∙ ap Some (omega (arith, e)), omega arith, omega arith)

two_digits : (n c d : ℕ) → c < 16 → d < 16 → c * 16 + d ≡ n → IsHex n (hex_digit c ∷ hex_digit d ∷ [])
two_digits n c d g h e = (
  word_in_front c (hex_digit d ∷ []) g (words_of_one d h),
  step 0 c (hex_digit d ∷ []) g (omega (arith, g)) ∙ step (0 * 16 + c) d [] h (omega (arith, g, h)) ∙ ap Some (omega (arith, e)),
  omega arith,
  omega arith,
)

three_digits : (n b c d : ℕ) → b < 16 → c < 16 → d < 16 → (b * 16 + c) * 16 + d ≡ n → IsHex n (hex_digit b ∷ hex_digit c ∷ hex_digit d ∷ [])
three_digits n b c d f g h e = (
  word_in_front b (hex_digit c ∷ hex_digit d ∷ []) f (word_in_front c (hex_digit d ∷ []) g (words_of_one d h)),
  step 0 b (hex_digit c ∷ hex_digit d ∷ []) f (omega (arith, f)) ∙ step (0 * 16 + b) c (hex_digit d ∷ []) g (omega (arith, f, g))
      ∙ step ((0 * 16 + b) * 16 + c) d [] h (omega (arith, f, g, h)) ∙ ap Some (omega (arith, e)),
  omega arith,
  omega arith,
)

four_digits : (n a b c d : ℕ) → a < 16 → b < 16 → c < 16 → d < 16 → ((a * 16 + b) * 16 + c) * 16 + d ≡ n
    → IsHex n (hex_digit a ∷ hex_digit b ∷ hex_digit c ∷ hex_digit d ∷ [])
four_digits n a b c d k f g h e = (
  word_in_front a (hex_digit b ∷ hex_digit c ∷ hex_digit d ∷ []) k
      (word_in_front b (hex_digit c ∷ hex_digit d ∷ []) f (word_in_front c (hex_digit d ∷ []) g (words_of_one d h))),
  step 0 a (hex_digit b ∷ hex_digit c ∷ hex_digit d ∷ []) k (omega (arith, k)) ∙ step (0 * 16 + a) b (hex_digit c ∷ hex_digit d ∷ []) f (omega (arith, k, f))
      ∙ step ((0 * 16 + a) * 16 + b) c (hex_digit d ∷ []) g (omega (arith, k, f, g)) ∙ step (((0 * 16 + a) * 16 + b) * 16 + c) d [] h (omega (arith, k, f, g, h))
      ∙ ap Some (omega (arith, e)),
  omega arith,
  omega arith,
)

-- the digits of a number, by their count
pub by_digits : (P : List ℕ → Type 0) (n : ℕ) → (n < 16 → P (hex_digit (n / 1 % 16) ∷ []))
    → (n < 256 → P (hex_digit (n / 16 % 16) ∷ hex_digit (n / 1 % 16) ∷ []))
    → (n < 4096 → P (hex_digit (n / 256 % 16) ∷ hex_digit (n / 16 % 16) ∷ hex_digit (n / 1 % 16) ∷ []))
    → P (hex_digit (n / 4096 % 16) ∷ hex_digit (n / 256 % 16) ∷ hex_digit (n / 16 % 16) ∷ hex_digit (n / 1 % 16) ∷ []) → P (hex_digits n)
by_digits P n one two three four = by_range (nat_lt n 16) (nat_lt n 256) (nat_lt n 4096) refl refl refl
  where
    by_range : (s t u : Bool) → nat_lt n 16 ≡ s → nat_lt n 256 ≡ t → nat_lt n 4096 ≡ u → P (hex_digits n)
    by_range true t u e f g = let k : n < 16 = grind (arith, nat_tests, e) in rw e (one k)
    by_range false true u e f g = let k : n < 256 = grind (arith, nat_tests, f) in rw (e, f) (two k)
    by_range false false true e f g = let k : n < 4096 = grind (arith, nat_tests, g) in rw (e, f, g) (three k)
    by_range false false false e f g = rw (e, f, g) four

pub hex_fact : (n : ℕ) → n < 65536 → IsHex n (hex_digits n)
hex_fact n h =
    by_digits (IsHex n) n
    (λ k. one_digit n (n / 1 % 16) (low (n / 1)) (omega (arith, k)))
    (λ k. two_digits n (n / 16 % 16) (n / 1 % 16) (low (n / 16)) (low (n / 1)) (omega (arith, k)))
    (λ k. three_digits n (n / 256 % 16) (n / 16 % 16) (n / 1 % 16) (low (n / 256)) (low (n / 16)) (low (n / 1)) (omega (arith, k)))
    (four_digits n (n / 4096 % 16) (n / 256 % 16) (n / 16 % 16) (n / 1 % 16) (low (n / 4096)) (low (n / 256)) (low (n / 16)) (low (n / 1))
    (omega (arith, h)))

-- a word and its token
abbrev pub IsToken : Token → List ℕ → Type 0
IsToken t w = (is_whole w ≡ true) × (token_of w ≡ t) × (nat_le (length w) 9 ≡ true)

pub hex_token : (n : ℕ) → n < 65536 → IsToken (Number n) (hex n)
hex_token n h =
    let f = hex_fact n h in (
      f.0,
      hexadecimal (hex_digits n) ∙ ap number_token (sym (numeral_number 16 (hex_digits n) f.2) ∙ f.1),
      (let k : length (hex_digits n) ≤ 4 = f.3 in grind (arith, nat_tests, k)),
    )

-- Names.

abbrev RegisterFact : ℕ → Type 0
RegisterFact r = IsToken (Reg r) (register_name r)

pub register_token : (r : ℕ) → r < 16 → RegisterFact r
register_token = each 16 RegisterFact (
  (refl, refl, refl),
  (
    (refl, refl, refl),
    (
      (refl, refl, refl),
      (
        (refl, refl, refl),
        (
          (refl, refl, refl),
          (
            (refl, refl, refl),
            (
              (refl, refl, refl),
              (
                (refl, refl, refl),
                ((refl, refl, refl), ((refl, refl, refl), ((refl, refl, refl), ((refl, refl, refl), ((refl, refl, refl), ((refl, refl, refl), ((refl, refl, refl), ((refl, refl, refl), tt)))))))),
              ),
            ),
          ),
        ),
      ),
    ),
  ),
)

abbrev JumpFact : ℕ → Type 0
JumpFact c = IsToken (Jump c) (jump_name c)

pub jump_token : (c : ℕ) → c < 8 → JumpFact c
jump_token =
    each 8 JumpFact ((refl, refl, refl), ((refl, refl, refl), ((refl, refl, refl), ((refl, refl, refl), ((refl, refl, refl), ((refl, refl, refl), ((refl, refl, refl), ((refl, refl, refl), tt))))))))

abbrev SancusFact : ℕ → Type 0
SancusFact c = c ≢ 3 → IsToken (Sancus c) (sancus_name c)

pub sancus_token : (c : ℕ) → c < 8 → SancusFact c
sancus_token = each 8 SancusFact (
  λ f. (refl, refl, refl),
  (λ f. (refl, refl, refl), (λ f. (refl, refl, refl), (λ f. (refl, refl, refl), (λ f. absurd (f refl), (λ f. (refl, refl, refl), (λ f. (refl, refl, refl), (λ f. (refl, refl, refl), tt))))))),
)

pub op2_token : (op : Op2) (byte : Bool) → IsToken (Two op byte) (sized (op2_name op) byte)
op2_token Mov true = (refl, refl, refl)
op2_token Mov false = (refl, refl, refl)
op2_token Add true = (refl, refl, refl)
op2_token Add false = (refl, refl, refl)
op2_token Addc true = (refl, refl, refl)
op2_token Addc false = (refl, refl, refl)
op2_token Subc true = (refl, refl, refl)
op2_token Subc false = (refl, refl, refl)
op2_token Sub true = (refl, refl, refl)
op2_token Sub false = (refl, refl, refl)
op2_token Cmp true = (refl, refl, refl)
op2_token Cmp false = (refl, refl, refl)
op2_token Bit true = (refl, refl, refl)
op2_token Bit false = (refl, refl, refl)
op2_token Bic true = (refl, refl, refl)
op2_token Bic false = (refl, refl, refl)
op2_token Bis true = (refl, refl, refl)
op2_token Bis false = (refl, refl, refl)
op2_token Xor true = (refl, refl, refl)
op2_token Xor false = (refl, refl, refl)
op2_token And true = (refl, refl, refl)
op2_token And false = (refl, refl, refl)

pub op1_token : (op : Op1) (byte : Bool) → IsToken (One op byte) (sized (op1_name op) byte)
op1_token Rrc true = (refl, refl, refl)
op1_token Rrc false = (refl, refl, refl)
op1_token Rra true = (refl, refl, refl)
op1_token Rra false = (refl, refl, refl)
op1_token Push true = (refl, refl, refl)
op1_token Push false = (refl, refl, refl)
op1_token Swpb true = (refl, refl, refl)
op1_token Swpb false = (refl, refl, refl)
op1_token Sxt true = (refl, refl, refl)
op1_token Sxt false = (refl, refl, refl)
op1_token Call true = (refl, refl, refl)
op1_token Call false = (refl, refl, refl)
