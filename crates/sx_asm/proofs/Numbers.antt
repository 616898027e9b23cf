-- The number that digits write.
use Rattle.std.proofs.Common.{◌≡◌, ℕ, ◌+◌, ◌*◌, ◌<◌, ◌≤◌, Bool, true, false, ◌&&◌, List, [], ◌∷◌, length, refl, sym, ◌∙◌, arith, mul-le-mul_left, Some, None}
use Rattle.std.specs.Prelude.{nat_le, if◌then◌else◌, Option}
use Rattle.std.specs.List.{list_all}
use Rattle.std.proofs.lemmas.Bool.Decides.{nat_tests}
use Rattle.sx_lex.specs.Words.{is_digit, digit_value, value}
use Rattle.sx_asm.specs.Fronts.{digits_from, numeral_of}

-- digits that follow make no number smaller
grows : (base n : ℕ) (text : List ℕ) → list_all (is_digit base) text ≡ true → n ≤ value base n text
grows base n [] h = omega arith
grows base n (b ∷ bs) h = by_test (is_digit base b) refl (grows base (n * base + digit_value b) bs)
  where
    by_test : (t : Bool) → is_digit base b ≡ t → (list_all (is_digit base) bs ≡ true → n * base + digit_value b ≤ value base (n * base + digit_value b) bs)
        → n ≤ value base n (b ∷ bs)
    by_test false e ih = absurd (let k : list_all (is_digit base) (b ∷ bs) ≡ false = rw e refl in let f : false ≡ true = sym k ∙ h in cc)
    by_test true e ih =
        let one : 1 ≤ base = grind (arith, nat_tests, e) in
        let k : list_all (is_digit base) (b ∷ bs) ≡ list_all (is_digit base) bs = rw e refl in
        let tail : n * base + digit_value b ≤ value base (n * base + digit_value b) bs = ih (sym k ∙ h) in
        let front : n * 1 ≤ n * base = mul-le-mul_left n one in omega arith

-- the number, where all are digits and it is at most 65,535
abbrev told : ℕ → ℕ → List ℕ → Option ℕ
told base n text = if list_all (is_digit base) text && nat_le (value base n text) 65535 then Some (value base n text) else None

told_digits : (base n : ℕ) (text : List ℕ) → n ≤ 65535 → digits_from base n text ≡ told base n text
told_digits base n [] h = let e : nat_le n 65535 ≡ true = grind (arith, nat_tests) in rw e refl
told_digits base n (b ∷ bs) h = by_digit (is_digit base b) refl (told_digits base (n * base + digit_value b) bs)
  where
    by_rest : (t : Bool) → list_all (is_digit base) bs ≡ t → 65535 < n * base + digit_value b → None ≡ told base (n * base + digit_value b) bs
    by_rest false r above = rw r refl
    by_rest true r above =
        let tail : n * base + digit_value b ≤ value base (n * base + digit_value b) bs = grows base (n * base + digit_value b) bs r in
        let k : nat_le (value base (n * base + digit_value b) bs) 65535 ≡ false = grind (arith, nat_tests, tail, above) in
        rw (r, k) refl

    by_size : (t : Bool) → nat_le (n * base + digit_value b) 65535 ≡ t → is_digit base b ≡ true
        → (n * base + digit_value b ≤ 65535 → digits_from base (n * base + digit_value b) bs ≡ told base (n * base + digit_value b) bs)
        → digits_from base n (b ∷ bs) ≡ told base n (b ∷ bs)
    by_size true s e ih =
        let low : n * base + digit_value b ≤ 65535 = grind (arith, nat_tests, s) in
        rw (e, s) (ih low)
    by_size false s e ih =
        let above : 65535 < n * base + digit_value b = grind (arith, nat_tests, s) in
        rw (e, s) (by_rest (list_all (is_digit base) bs) refl above)

    by_digit : (t : Bool) → is_digit base b ≡ t
        → (n * base + digit_value b ≤ 65535 → digits_from base (n * base + digit_value b) bs ≡ told base (n * base + digit_value b) bs)
        → digits_from base n (b ∷ bs) ≡ told base n (b ∷ bs)
    by_digit true e ih = by_size (nat_le (n * base + digit_value b) 65535) refl e ih
    by_digit false e ih = rw e refl

pub numeral_number : (base : ℕ) (text : List ℕ) → 0 < length text → digits_from base 0 text ≡ numeral_of base text
numeral_number base [] h = absurd (omega (arith, h))
numeral_number base (b ∷ bs) h = told_digits base 0 (b ∷ bs) (omega arith)
