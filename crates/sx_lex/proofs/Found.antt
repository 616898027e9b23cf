-- A word of a shape that no word of a list has isn't found in it.
use Rattle.std.proofs.Common.{◌≡◌, ℕ, suc, ◌-◌, ◌<◌, Bool, true, false, ◌&&◌, not, List, [], ◌∷◌, length, nat_le, nat_eq, if◌then◌else◌, Some, None, refl, sym, ap, ◌∙◌, arith, ◌==◌}
use Rattle.std.specs.Cmp.Lexicographic.{pointwise}
use Rattle.std.specs.List.{list_all}
use Rattle.std.proofs.lemmas.Bool.Decides.{nat_tests}
use Rattle.std.proofs.lemmas.Bool.{and_parts, eqb-true}
use Rattle.sx_lex.specs.declared.tokens.Kind.{Kind}
use Rattle.sx_lex.specs.Words.{found_in, signs, is_lower, is_digit, is_decimal_digit, is_hexadecimal}
use Rattle.sx_lex.specs.Progress.{first_is}

same_word : (w q : List ℕ) → pointwise nat_eq w q ≡ true → w ≡ q
same_word [] [] e = refl
same_word [] (y ∷ q) e = absurd (cc)
same_word (x ∷ w) [] e = absurd (cc)
same_word (x ∷ w) (y ∷ q) e = let a = eqb-true x y (and_parts _ _ e).0 in let b = same_word w q (and_parts _ _ e).1 in rw (a, b) refl

pub not_found : (p : List ℕ → Bool) (table : List (List ℕ × Kind)) (w : List ℕ) → list_all (λ q. p q.0) table ≡ true → p w ≡ false → found_in table w ≡ None
not_found p [] w a e = refl
not_found p (q ∷ table) w a e = go (pointwise nat_eq w q.0) refl (not_found p table w (and_parts _ _ a).1 e)
  where
    go : (t : Bool) → pointwise nat_eq w q.0 ≡ t → found_in table w ≡ None → (if t then Some q.1 else found_in table w) ≡ None
    go false f again = again
    go true f again = absurd (let s : w ≡ q.0 = same_word w q.0 f in let x : p q.0 ≡ true = (and_parts _ _ a).0 in let y : false ≡ true = sym e ∙ ap p s ∙ x in cc)

pub lower_no_sign : (b : ℕ) (l : List ℕ) → is_lower b ≡ true → found_in signs (b ∷ l) ≡ None
lower_no_sign b l h = not_found (λ w. not (first_is is_lower w)) signs (b ∷ l) refl (rw h refl)

pub digit_no_sign : (b : ℕ) (l : List ℕ) → is_digit 10 b ≡ true → found_in signs (b ∷ l) ≡ None
digit_no_sign b l h = not_found (λ w. not (first_is (is_digit 10) w)) signs (b ∷ l) refl (rw h refl)

pub long_no_sign : (w : List ℕ) → 2 < length w → found_in signs w ≡ None
long_no_sign w h = not_found (λ w. nat_le (length w) 2) signs w refl (grind (arith, nat_tests, h))

pub lower_no_digit : (b : ℕ) → is_lower b ≡ true → is_digit 10 b ≡ false
lower_no_digit b h = go (is_decimal_digit b) (nat_le 97 b && nat_le b 102) (nat_le 65 b && nat_le b 70) refl refl refl
  where
    go : (s t u : Bool) → is_decimal_digit b ≡ s → (nat_le 97 b && nat_le b 102) ≡ t → (nat_le 65 b && nat_le b 70) ≡ u
        → nat_le (suc (if s then b - 48 else (if t then b - 87 else (if u then b - 55 else 16)))) 10 ≡ false
    go true t u e f g = absurd (let x : false ≡ true = grind (arith, nat_tests, e, h) in cc)
    go false true u e f g = grind (arith, nat_tests, f)
    go false false true e f g = absurd (let x : false ≡ true = grind (arith, nat_tests, g, h) in cc)
    go false false false e f g = refl

pub digit_is_decimal : (b : ℕ) → is_digit 10 b ≡ true → is_decimal_digit b ≡ true
digit_is_decimal b h = go (is_decimal_digit b) (nat_le 97 b && nat_le b 102) (nat_le 65 b && nat_le b 70) refl refl refl h
  where
    go : (s t u : Bool) → is_decimal_digit b ≡ s → (nat_le 97 b && nat_le b 102) ≡ t → (nat_le 65 b && nat_le b 70) ≡ u
        → nat_le (suc (if s then b - 48 else (if t then b - 87 else (if u then b - 55 else 16)))) 10 ≡ true → s ≡ true
    go true t u e f g h = refl
    go false true u e f g h = absurd (let x : false ≡ true = grind (arith, nat_tests, f, h) in cc)
    go false false true e f g h = absurd (let x : false ≡ true = grind (arith, nat_tests, g, h) in cc)
    go false false false e f g h = absurd (cc)

pub digit_no_lower : (b : ℕ) → is_digit 10 b ≡ true → is_lower b ≡ false
digit_no_lower b h = let d = digit_is_decimal b h in grind (arith, nat_tests, d)

pub no_prefix : (b : ℕ) (l : List ℕ) → (b == 48) ≡ false → is_hexadecimal (b ∷ l) ≡ false
no_prefix b [] h = refl
no_prefix b (c ∷ l) h = rw h refl
