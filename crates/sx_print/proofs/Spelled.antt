-- Each word is read as what it was written for, and is of ASCII.
use Rattle.std.proofs.Common.{◌≡◌, ℕ, ◌+◌, ◌*◌, ◌/◌, ◌%◌, ◌^◌, ◌<◌, ◌≤◌, Bool, true, false, List, [], ◌∷◌, ◌++◌, length, Option, Some, None, nat_le, nat_lt, refl, ◌∙◌, arith}
use Rattle.std.specs.Fmt.{decimal}
use Rattle.std.specs.List.{list_all}
use Rattle.std.specs.Str.{IsAscii}
use Rattle.std.proofs.lemmas.Str.Ascii.{IsAscii-nil, IsAscii-cons}
use Rattle.std.proofs.lemmas.Fmt.{decimal_by_steps}
use Rattle.std.proofs.lemmas.Bool.Decides.{nat_tests}
use Rattle.std.proofs.lemmas.Bool.{and_parts}
use Rattle.sx_lex.specs.declared.tokens.Kind.{Kind}
use Rattle.sx_lex.specs.declared.tokens.Kind.TheVariants.{Number, Name, Sensor, Actuator, Input, Output, Var, Array, On, Sample, Let, If, Else, Repeat, Send}
use Rattle.sx_lex.specs.declared.tokens.Kind.TheVariants.{Emit, Semicolon, Equals, Open, Close, OpenSquare, CloseSquare, OpenBrace, CloseBrace, EqualsEquals}
use Rattle.sx_lex.specs.declared.tokens.Kind.TheVariants.{NotEquals, Less, LessEquals, Greater, GreaterEquals, Plus, Minus, Bar, Caret, Star, Ampersand, Tilde}
use Rattle.sx_lex.specs.declared.tokens.Kind.TheVariants.{Bang, Bad}
use Rattle.sx_lex.specs.Words.{is_name, is_name_byte, is_lower, is_decimal_digit, is_digit, digit_value, value, found_in, keywords, kind_of}
use Rattle.sx_lex.proofs.Found.{digit_no_lower}
use Rattle.sx_print.specs.Printable.{is_plain, is_absent}
use Rattle.sx_print.specs.Pieces.{spelling}

abbrev pub is_quoted : Kind → Bool
is_quoted (Number n) = false
is_quoted (Name x) = false
is_quoted Bad = false
is_quoted _ = true

abbrev pub is_ascii : List ℕ → Bool
is_ascii w = list_all (λ b. nat_lt b 128) w

pub ascii : (w : List ℕ) → is_ascii w ≡ true → IsAscii w
ascii [] h = IsAscii-nil
ascii (b ∷ w) h = let l : nat_lt b 128 ≡ true = (and_parts _ _ h).0 in IsAscii-cons b w (grind (arith, nat_tests, l)) (ascii w (and_parts _ _ h).1)

pub quoted_kind : (k : Kind) → is_quoted k ≡ true → kind_of (spelling k) ≡ Some k
quoted_kind (Number n) h = absurd (cc)
quoted_kind (Name x) h = absurd (cc)
quoted_kind Bad h = absurd (cc)
quoted_kind Sensor h = refl
quoted_kind Actuator h = refl
quoted_kind Input h = refl
quoted_kind Output h = refl
quoted_kind Var h = refl
quoted_kind Array h = refl
quoted_kind On h = refl
quoted_kind Sample h = refl
quoted_kind Let h = refl
quoted_kind If h = refl
quoted_kind Else h = refl
quoted_kind Repeat h = refl
quoted_kind Send h = refl
quoted_kind Emit h = refl
quoted_kind Semicolon h = refl
quoted_kind Equals h = refl
quoted_kind Open h = refl
quoted_kind Close h = refl
quoted_kind OpenSquare h = refl
quoted_kind CloseSquare h = refl
quoted_kind OpenBrace h = refl
quoted_kind CloseBrace h = refl
quoted_kind EqualsEquals h = refl
quoted_kind NotEquals h = refl
quoted_kind Less h = refl
quoted_kind LessEquals h = refl
quoted_kind Greater h = refl
quoted_kind GreaterEquals h = refl
quoted_kind Plus h = refl
quoted_kind Minus h = refl
quoted_kind Bar h = refl
quoted_kind Caret h = refl
quoted_kind Star h = refl
quoted_kind Ampersand h = refl
quoted_kind Tilde h = refl
quoted_kind Bang h = refl

pub quoted_ascii : (k : Kind) → is_ascii (spelling k) ≡ true
quoted_ascii (Number n) = refl
quoted_ascii (Name x) = refl
quoted_ascii Bad = refl
quoted_ascii Sensor = refl
quoted_ascii Actuator = refl
quoted_ascii Input = refl
quoted_ascii Output = refl
quoted_ascii Var = refl
quoted_ascii Array = refl
quoted_ascii On = refl
quoted_ascii Sample = refl
quoted_ascii Let = refl
quoted_ascii If = refl
quoted_ascii Else = refl
quoted_ascii Repeat = refl
quoted_ascii Send = refl
quoted_ascii Emit = refl
quoted_ascii Semicolon = refl
quoted_ascii Equals = refl
quoted_ascii Open = refl
quoted_ascii Close = refl
quoted_ascii OpenSquare = refl
quoted_ascii CloseSquare = refl
quoted_ascii OpenBrace = refl
quoted_ascii CloseBrace = refl
quoted_ascii EqualsEquals = refl
quoted_ascii NotEquals = refl
quoted_ascii Less = refl
quoted_ascii LessEquals = refl
quoted_ascii Greater = refl
quoted_ascii GreaterEquals = refl
quoted_ascii Plus = refl
quoted_ascii Minus = refl
quoted_ascii Bar = refl
quoted_ascii Caret = refl
quoted_ascii Star = refl
quoted_ascii Ampersand = refl
quoted_ascii Tilde = refl
quoted_ascii Bang = refl

absent : (o : Option Kind) → is_absent o ≡ true → o ≡ None
absent None h = refl
absent (Some k) h = absurd (cc)

pub name_kind : (x : List ℕ) → is_plain x ≡ true → kind_of x ≡ Some (Name x)
name_kind x h =
    let n : is_name x ≡ true = (and_parts _ _ h).0 in
    let f : found_in keywords x ≡ None = absent (found_in keywords x) (and_parts _ _ h).1 in
    rw (n, f) refl

name_byte_ascii : (b : ℕ) → is_name_byte b ≡ true → nat_lt b 128 ≡ true
name_byte_ascii b h = grind (arith, nat_tests, h)

name_bytes_ascii : (w : List ℕ) → list_all is_name_byte w ≡ true → is_ascii w ≡ true
name_bytes_ascii [] h = refl
name_bytes_ascii (b ∷ w) h =
    let f : nat_lt b 128 ≡ true = name_byte_ascii b (and_parts _ _ h).0 in
    let r : is_ascii w ≡ true = name_bytes_ascii w (and_parts _ _ h).1 in
    rw (f, r) refl

pub name_ascii : (x : List ℕ) → is_plain x ≡ true → is_ascii x ≡ true
name_ascii x h = go x (and_parts _ _ h).0
  where
    go : (x : List ℕ) → is_name x ≡ true → is_ascii x ≡ true
    go [] h = absurd (cc)
    go (b ∷ w) h =
        let l : is_lower b ≡ true = (and_parts _ _ h).0 in
        let r : list_all is_name_byte w ≡ true = (and_parts _ _ (and_parts (is_lower b) _ h).1).0 in
        let s : nat_lt b 128 ≡ true = grind (arith, nat_tests, l) in
        let t : is_ascii w ≡ true = name_bytes_ascii w r in
        rw (s, t) refl

-- The digits of a number.

pub record Digits (n : ℕ) (ds : List ℕ) : Type 0 where
  pub some : 0 < length ds
  pub all : list_all (is_digit 10) ds ≡ true
  pub worth : value 10 0 ds ≡ n
  pub bytes : is_ascii ds ≡ true

digit_is : (n : ℕ) → n < 10 → digit_value (48 + n) ≡ n
digit_is n h = let e : is_decimal_digit (48 + n) ≡ true = grind (arith, nat_tests, h) in rw e (omega arith)

value-push : (v : ℕ) (ds : List ℕ) (c : ℕ) → value 10 v (ds ++ c ∷ []) ≡ value 10 v ds * 10 + digit_value c
value-push v [] c = refl
value-push v (d ∷ ds) c = value-push (v * 10 + digit_value d) ds c

all-push : (f : ℕ → Bool) (ds : List ℕ) (c : ℕ) → list_all f ds ≡ true → f c ≡ true → list_all f (ds ++ c ∷ []) ≡ true
all-push f [] c h e = rw e refl
all-push f (d ∷ ds) c h e =
    let l : f d ≡ true = (and_parts _ _ h).0 in
    let r : list_all f (ds ++ c ∷ []) ≡ true = all-push f ds c (and_parts _ _ h).1 e in
    rw (l, r) refl

length-push : (ds : List ℕ) (c : ℕ) → 0 < length (ds ++ c ∷ [])
length-push [] c = omega arith
length-push (d ∷ ds) c = omega arith

digit_tests : (n : ℕ) → n < 10 → (is_digit 10 (48 + n) ≡ true) × (nat_lt (48 + n) 128 ≡ true)
digit_tests n h = (let e = digit_is n h in rw e (grind (arith, nat_tests, h)), grind (arith, nat_tests, h))

digits : (n : ℕ) → n < 2 ^ 64 → Digits n (decimal n)
digits n h = decimal_by_steps Digits one more n h
  where
    one : (n : ℕ) → n < 10 → Digits n ((48 + n) ∷ [])
    one n h = record {
      some = omega arith;
      all = rw (digit_tests n h).0 refl;
      worth = let e = digit_is n h in omega (arith, e);
      bytes = rw (digit_tests n h).1 refl;
    }

    more : (n : ℕ) (ds : List ℕ) → 10 ≤ n → Digits (n / 10) ds → Digits n (ds ++ ((48 + n % 10) ∷ []))
    more n ds h d =
        let l : n % 10 < 10 = omega arith in
        record {
          some = length-push ds (48 + n % 10);
          all = all-push (is_digit 10) ds (48 + n % 10) d.all (digit_tests (n % 10) l).0;
          worth = value-push 0 ds (48 + n % 10) ∙ (let e = digit_is (n % 10) l in let v = d.worth in omega (arith, e, v));
          bytes = all-push (λ b. nat_lt b 128) ds (48 + n % 10) d.bytes (digit_tests (n % 10) l).1;
        }

short : (n : ℕ) → nat_le n 65535 ≡ true → n < 2 ^ 64
short n h = grind (arith, nat_tests)

pub number_digits : (n : ℕ) → nat_le n 65535 ≡ true → Digits n (decimal n)
number_digits n h = digits n (short n h)

pub number_kind : (n : ℕ) → nat_le n 65535 ≡ true → kind_of (decimal n) ≡ Some (Number n)
number_kind n h = go (decimal n) (number_digits n h)
  where
    go : (ds : List ℕ) → Digits n ds → kind_of ds ≡ Some (Number n)
    go [] d = absurd (let l = d.some in omega (arith, l))
    go (b ∷ ds) d =
        let a : list_all (is_digit 10) (b ∷ ds) ≡ true = d.all in
        let v : value 10 0 (b ∷ ds) ≡ n = d.worth in
        let s : nat_le (value 10 0 (b ∷ ds)) 65535 ≡ true = rw v h in
        rw (digit_no_lower b (and_parts _ _ a).0, a, s, v) refl

pub number_ascii : (n : ℕ) → nat_le n 65535 ≡ true → is_ascii (decimal n) ≡ true
number_ascii n h = (number_digits n h).bytes
