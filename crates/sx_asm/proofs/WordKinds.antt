-- What the words of the handler language are as tokens.
use Rattle.std.proofs.Common.{◌≡◌, ℕ, ◌<◌, ◌≤◌, Bool, true, false, ◌&&◌, List, [], ◌∷◌, length, refl, ap, ◌∙◌, arith, Some, None}
use Rattle.std.specs.Prelude.{nat_eq, nat_le, ◌==◌, Option}
use Rattle.std.specs.Cmp.Lexicographic.{pointwise}
use Rattle.std.specs.List.{list_all}
use Rattle.std.proofs.lemmas.Bool.Decides.{nat_tests}
use Rattle.sx_lang.specs.Form.{is_name, is_lower, is_name_byte}
use Rattle.sx_lex.specs.declared.tokens.Kind.{Kind}
use Rattle.sx_lex.specs.Words.{found_in, keywords, signs, kind_of, is_number, is_hexadecimal}
use Rattle.sx_asm.specs.declared.written.Token.{Token}
use Rattle.sx_asm.specs.declared.written.Token.TheVariants.{Number, Name, Bad}
use Rattle.sx_asm.specs.Tokens.{value_token}
use Rattle.sx_asm.specs.Fronts.{numeral_of, number_of}

-- no word of a table is a value
abbrev AreNone : List (List ℕ × Kind) → Type 0
AreNone [] = Unit {0}
AreNone (q ∷ qs) = (value_token (Some q.1) ≡ Bad) × AreNone qs

none_found : (table : List (List ℕ × Kind)) (w : List ℕ) → AreNone table → value_token (found_in table w) ≡ Bad
none_found [] w h = refl
none_found (q ∷ qs) w h = by_test (pointwise nat_eq w q.0) refl (none_found qs w h.1)
  where
    by_test : (t : Bool) → pointwise nat_eq w q.0 ≡ t → value_token (found_in qs w) ≡ Bad → value_token (found_in (q ∷ qs) w) ≡ Bad
    by_test true e ih = rw e h.0
    by_test false e ih = rw e ih

are_keywords : AreNone keywords
are_keywords = (refl, (refl, (refl, (refl, (refl, (refl, (refl, (refl, (refl, (refl, (refl, (refl, (refl, (refl, tt))))))))))))))

are_signs : AreNone signs
are_signs = (refl, (refl, (refl, (refl, (refl, (refl, (refl, (refl, (refl, (refl, (refl, (refl, (refl, (refl, (refl, (refl, (refl, (refl, (refl, (refl, (refl, (refl, tt))))))))))))))))))))))

pub no_keyword : (w : List ℕ) → is_name w ≡ true → found_in keywords w ≡ None → value_token (kind_of w) ≡ Name w
no_keyword w h n = rw (h, n) refl

pub any_keyword : (w : List ℕ) (k : Kind) → is_name w ≡ true → found_in keywords w ≡ Some k → value_token (kind_of w) ≡ Bad
any_keyword w k h n =
    let e : value_token (found_in keywords w) ≡ Bad = none_found keywords w are_keywords in
    rw (h, n) (rw n at e)

pub some_name : (w : List ℕ) → is_name w ≡ true → 0 < length w
some_name [] h = absurd (cc)
some_name (b ∷ bs) h = omega arith

pub short_name : (w : List ℕ) → is_name w ≡ true → length w ≤ 16
short_name [] h = omega arith
short_name (b ∷ bs) h = by_tests (is_lower b) (list_all is_name_byte bs) (nat_le (length bs) 15) refl h
  where
    by_tests : (s t u : Bool) → nat_le (length bs) 15 ≡ u → (s && (t && u)) ≡ true → length (b ∷ bs) ≤ 16
    by_tests true true true e f = grind (arith, nat_tests, e)
    by_tests true true false e f = absurd (cc)
    by_tests true false u e f = absurd (cc)
    by_tests false t u e f = absurd (cc)

-- a number's token, where there is one
abbrev pub number_token : Option ℕ → Token
number_token (Some n) = Number n
number_token None = Bad

decimal : (w : List ℕ) → is_name w ≡ false → is_hexadecimal w ≡ false → value_token (kind_of w) ≡ number_token (numeral_of 10 w)
decimal w h x = by_test (is_number 10 w) refl
  where
    by_test : (t : Bool) → is_number 10 w ≡ t → value_token (kind_of w) ≡ number_token (numeral_of 10 w)
    by_test true e = rw (h, e) refl
    by_test false e = rw (h, e, x) (none_found signs w are_signs)

pub hexadecimal : (bs : List ℕ) → value_token (kind_of (48 ∷ 120 ∷ bs)) ≡ number_token (numeral_of 16 bs)
hexadecimal bs = by_test (is_number 16 bs) refl
  where
    by_test : (t : Bool) → is_number 16 bs ≡ t → value_token (kind_of (48 ∷ 120 ∷ bs)) ≡ number_token (numeral_of 16 bs)
    by_test true e = rw e refl
    by_test false e = rw e (none_found signs (48 ∷ 120 ∷ bs) are_signs)

number_said : (w : List ℕ) → is_name w ≡ false → value_token (kind_of w) ≡ number_token (number_of w)
number_said [] h = decimal [] h refl
number_said (a ∷ []) h = decimal (a ∷ []) h refl
number_said (a ∷ b ∷ bs) h = by_tests (a == 48) (b == 120) refl refl
  where
    by_tests : (s t : Bool) → (a == 48) ≡ s → (b == 120) ≡ t → value_token (kind_of (a ∷ b ∷ bs)) ≡ number_token (number_of (a ∷ b ∷ bs))
    by_tests false t e f =
        let x : is_hexadecimal (a ∷ b ∷ bs) ≡ false = rw e refl in
        let y : numeral_of 10 (a ∷ b ∷ bs) ≡ number_of (a ∷ b ∷ bs) = rw e refl in decimal (a ∷ b ∷ bs) h x ∙ ap number_token y
    by_tests true false e f =
        let x : is_hexadecimal (a ∷ b ∷ bs) ≡ false = rw (e, f) refl in
        let y : numeral_of 10 (a ∷ b ∷ bs) ≡ number_of (a ∷ b ∷ bs) = rw (e, f) refl in decimal (a ∷ b ∷ bs) h x ∙ ap number_token y
    by_tests true true e f =
        let x : a ≡ 48 = grind (arith, nat_tests, e) in
        let y : b ≡ 120 = grind (arith, nat_tests, f) in
        rw (x, y) (hexadecimal bs)

pub number_kind : (w : List ℕ) → is_name w ≡ false → value_token (kind_of w) ≡ number_token (number_of w)
number_kind w h = number_said w h
