-- Beyond the digits at the start, no longer prefix is a number.
use Rattle.std.proofs.Common.{◌≡◌, ℕ, zero, suc, ◌+◌, ◌*◌, ◌<◌, ◌≤◌, Bool, true, false, ◌&&◌, List, [], ◌∷◌, length, take, nat_le, if◌then◌else◌, Some, None, refl, sym, ap, ◌∙◌, arith, ◌==◌}
use Rattle.std.specs.List.{list_all}
use Rattle.std.proofs.Math.Nat.{le-mul_of_pos_right}
use Rattle.std.proofs.lemmas.Nat.{mul-le}
use Rattle.std.proofs.lemmas.Bool.Decides.{nat_tests}
use Rattle.std.proofs.lemmas.Bool.{and_right}
use Rattle.std.proofs.lemmas.List.{nil_from_length}
use Rattle.sx_lex.specs.declared.tokens.Kind.TheVariants.{Number}
use Rattle.sx_lex.specs.Words.{is_digit, digit_value, value, is_number, is_hexadecimal, kind_of, IsLongest}
use Rattle.sx_lex.specs.Progress.{number_front, first_is, Counted, NoHexadecimal}
use Rattle.sx_lex.proofs.Found.{digit_no_sign, digit_no_lower, no_prefix}

pub product_fits : (v r : ℕ) → v ≤ 65535 → r ≤ 16 → v * r ≤ 1048560
product_fits v r h l = mul-le v r 65535 16 h l

pub both : (d : Bool) (n m : ℕ) → d ≡ true → n ≡ m → n ≤ 65535 → (d && nat_le m 65535) ≡ true
both d n m h e l = rw h (grind (arith, nat_tests))

pub not_first : (d : Bool) (n : ℕ) → d ≡ false → (d && nat_le n 65535) ≡ false
not_first d n h = rw h refl

pub not_second : (d : Bool) (n m : ℕ) → n ≡ m → 65535 < n → (d && nat_le m 65535) ≡ false
not_second d n m e l = let f : nat_le m 65535 ≡ false = grind (arith, nat_tests) in rw f (and_right d false refl)

pub begins : (text rest : List ℕ) (base : ℕ) → rest ≡ text → Counted text base 0 0 rest
begins text rest base e = rw e (record { fronts = omega arith; values = refl; inside = omega arith })

pub counts : (text rest a : List ℕ) (base c v b c2 v2 : ℕ) → Counted text base c v rest → rest ≡ b ∷ a
    → (is_digit base b && nat_le (v * base + digit_value b) 65535) ≡ true → v2 ≡ v * base + digit_value b → c2 ≡ c + 1 → Counted text base c2 v2 a
counts text rest a base c v b c2 v2 h e t q r =
    let f : number_front base v rest ≡ suc (number_front base v2 a) = rw (e, t, q) refl in
    let i : length rest ≡ suc (length a) = ap length e in
    record {
      fronts = omega (arith, h.fronts, f, r);
      values = h.values ∙ rw (f, e, q) refl;
      inside = omega (arith, h.inside, i, r);
    }

stopped : (rest a : List ℕ) (base v b : ℕ) → rest ≡ b ∷ a → (is_digit base b && nat_le (v * base + digit_value b) 65535) ≡ false → number_front base v rest ≡ 0
stopped rest a base v b e t = rw (e, t) refl

ended : (rest : List ℕ) (base v : ℕ) → length rest ≡ 0 → number_front base v rest ≡ 0
ended rest base v e = rw (nil_from_length rest e) refl

pub stops_count : (text rest a : List ℕ) (base c v b : ℕ) → Counted text base c v rest → rest ≡ b ∷ a
    → (is_digit base b && nat_le (v * base + digit_value b) 65535) ≡ false → c ≡ number_front base 0 text
stops_count text rest a base c v b h e t = omega (arith, h.fronts, stopped rest a base v b e t)

pub stops_value : (text rest a : List ℕ) (base c v b : ℕ) → Counted text base c v rest → rest ≡ b ∷ a
    → (is_digit base b && nat_le (v * base + digit_value b) 65535) ≡ false → v ≡ value base 0 (take (number_front base 0 text) text)
stops_value text rest a base c v b h e t = sym (h.values ∙ rw (stopped rest a base v b e t) refl)

pub ends_count : (text rest : List ℕ) (base c v : ℕ) → Counted text base c v rest → length rest ≡ 0 → c ≡ number_front base 0 text
ends_count text rest base c v h e = omega (arith, h.fronts, ended rest base v e)

pub ends_value : (text rest : List ℕ) (base c v : ℕ) → Counted text base c v rest → length rest ≡ 0 → v ≡ value base 0 (take (number_front base 0 text) text)
ends_value text rest base c v h e = sym (h.values ∙ rw (ended rest base v e) refl)

value_grows : (base v : ℕ) (bs : List ℕ) → 0 < base → v ≤ value base v bs
value_grows base v [] p = omega arith
value_grows base v (b ∷ bs) p = omega (arith, value_grows base (v * base + digit_value b) bs p, le-mul_of_pos_right v p)

no_longer_number : (base v : ℕ) (bs : List ℕ) (m : ℕ) → 0 < base → number_front base v bs < m → m ≤ length bs
    → (list_all (is_digit base) (take m bs) && nat_le (value base v (take m bs)) 65535) ≡ false
no_longer_number base v bs zero p h l = absurd (omega (arith, h))
no_longer_number base v [] (suc m) p h l = absurd (omega (arith, l))
no_longer_number base v (b ∷ bs) (suc m) p h l = go (is_digit base b) (nat_le (v * base + digit_value b) 65535) refl refl h
    (λ h. no_longer_number base (v * base + digit_value b) bs m p h (omega (arith, l)))
  where
    go : (s t : Bool) → is_digit base b ≡ s → nat_le (v * base + digit_value b) 65535 ≡ t
        → (if s && t then suc (number_front base (v * base + digit_value b) bs) else 0) < suc m → (number_front base (v * base + digit_value b) bs < m
        → (list_all (is_digit base) (take m bs) && nat_le (value base (v * base + digit_value b) (take m bs)) 65535) ≡ false)
        → ((is_digit base b && list_all (is_digit base) (take m bs)) && nat_le (value base (v * base + digit_value b) (take m bs)) 65535) ≡ false
    go true true e f h again = rw e (again (omega (arith, h)))
    go false t e f h again = rw e refl
    go true false e f h again =
        let g : v * base + digit_value b ≤ value base (v * base + digit_value b) (take m bs) = value_grows base (v * base + digit_value b) (take m bs) p in
        let big : nat_le (value base (v * base + digit_value b) (take m bs)) 65535 ≡ false = grind (arith, nat_tests, g, f) in
        rw (e, big) (and_right _ false refl)

number_front_fits : (base v : ℕ) (bs : List ℕ)
    → v ≤ 65535 → ((list_all (is_digit base) (take (number_front base v bs) bs) && nat_le (value base v (take (number_front base v bs) bs)) 65535) ≡ true)
    × (number_front base v bs ≤ length bs)
number_front_fits base v [] l = (let e : nat_le v 65535 ≡ true = grind (arith, nat_tests, l) in e, omega arith)
number_front_fits base v (b ∷ bs) l = go (is_digit base b) (nat_le (v * base + digit_value b) 65535) refl refl (λ h. number_front_fits base (v * base + digit_value b) bs h)
  where
    go : (s t : Bool) → is_digit base b ≡ s → nat_le (v * base + digit_value b) 65535 ≡ t → (v * base + digit_value b ≤ 65535
        → ((list_all (is_digit base) (take (number_front base (v * base + digit_value b) bs) bs) && nat_le (value base (v * base + digit_value b)
        (take (number_front base (v * base + digit_value b) bs) bs)) 65535) ≡ true) × (number_front base (v * base + digit_value b) bs ≤ length bs))
        → ((list_all (is_digit base) (take (if s && t then suc (number_front base (v * base + digit_value b) bs) else 0) (b ∷ bs))
        && nat_le (value base v (take (if s && t then suc (number_front base (v * base + digit_value b) bs) else 0) (b ∷ bs))) 65535) ≡ true)
        × ((if s && t then suc (number_front base (v * base + digit_value b) bs) else 0) ≤ length (b ∷ bs))
    go true true e f again = let r = again (grind (arith, nat_tests, f)) in (rw e r.0, omega (arith, r.1))
    go true false e f again = (let e : nat_le v 65535 ≡ true = grind (arith, nat_tests, l) in e, omega arith)
    go false t e f again = (let e : nat_le v 65535 ≡ true = grind (arith, nat_tests, l) in e, omega arith)

-- as a word of its own
is_number_front : (base : ℕ) (bs : List ℕ) → 0 < number_front base 0 bs → is_number base (take (number_front base 0 bs) bs) ≡ true
is_number_front base [] h = absurd (omega (arith, h))
is_number_front base (b ∷ bs) h = go (number_front base 0 (b ∷ bs)) h (number_front_fits base 0 (b ∷ bs) (omega arith)).0
  where
    go : (n : ℕ) → 0 < n → (list_all (is_digit base) (take n (b ∷ bs)) && nat_le (value base 0 (take n (b ∷ bs))) 65535) ≡ true → is_number base (take n (b ∷ bs)) ≡ true
    go zero h e = absurd (omega (arith, h))
    go (suc n) h e = e

no_number_beyond : (base : ℕ) (bs : List ℕ) (m : ℕ) → 0 < base → number_front base 0 bs < m → m ≤ length bs → is_number base (take m bs) ≡ false
no_number_beyond base bs zero p h l = absurd (omega (arith, h))
no_number_beyond base [] (suc m) p h l = absurd (omega (arith, l))
no_number_beyond base (b ∷ bs) (suc m) p h l = no_longer_number base 0 (b ∷ bs) (suc m) p h l

pub no_hexadecimal : (text : List ℕ) → length text ≡ 0 → NoHexadecimal text
no_hexadecimal text h = rw (nil_from_length text h) (record { none = λ m l. go m })
  where
    go : (m : ℕ) → is_hexadecimal (take m []) ≡ false
    go zero = refl
    go (suc m) = refl

pub no_second : (text behind : List ℕ) (a : ℕ) → text ≡ a ∷ behind → length behind ≡ 0 → NoHexadecimal text
no_second text behind a t h = rw (t, nil_from_length behind h) (record { none = λ m l. go m })
  where
    go : (m : ℕ) → is_hexadecimal (take m (a ∷ [])) ≡ false
    go zero = refl
    go (suc zero) = refl
    go (suc (suc m)) = refl

pub other_first : (text behind : List ℕ) (a : ℕ) → text ≡ a ∷ behind → (a == 48) ≡ false → NoHexadecimal text
other_first text behind a t h = rw t (record { none = λ m l. go m })
  where
    go : (m : ℕ) → is_hexadecimal (take m (a ∷ behind)) ≡ false
    go zero = refl
    go (suc m) = no_prefix a (take m behind) h

pub other_second : (text behind rest : List ℕ) (a b : ℕ) → text ≡ a ∷ behind → behind ≡ b ∷ rest → (b == 120) ≡ false → NoHexadecimal text
other_second text behind rest a b t s h = rw (t, s) (record { none = λ m l. go m })
  where
    go : (m : ℕ) → is_hexadecimal (take m (a ∷ b ∷ rest)) ≡ false
    go zero = refl
    go (suc zero) = refl
    go (suc (suc m)) = rw (h, and_right (a == 48) false refl) refl

pub no_digits : (text behind rest : List ℕ) (a b c : ℕ) → text ≡ a ∷ behind → behind ≡ b ∷ rest → c ≡ number_front 16 0 rest → c ≡ 0 → NoHexadecimal text
no_digits text behind rest a b c t s h z = rw (t, s) (record { none = λ m l. go m l })
  where
    go : (m : ℕ) → m ≤ length (a ∷ b ∷ rest) → is_hexadecimal (take m (a ∷ b ∷ rest)) ≡ false
    go zero l = refl
    go (suc zero) l = refl
    go (suc (suc zero)) l = and_right _ false refl
    go (suc (suc (suc m))) l = let e : is_number 16 (take (suc m) rest) ≡ false = no_number_beyond 16 rest (suc m) (omega arith) (omega (arith, h, z)) (omega (arith, l)) in rw e (and_right _ false refl)

hexadecimal_longest : (rest : List ℕ) → 0 < number_front 16 0 rest → IsLongest (48 ∷ 120 ∷ rest) (suc (suc (number_front 16 0 rest))) (Number (value 16 0 (take (number_front 16 0 rest) rest)))
hexadecimal_longest rest p = record {
  here = rw (is_number_front 16 rest p) refl;
  inside = omega (arith, (number_front_fits 16 0 rest (omega arith)).1);
  longest = λ m l i. beyond m l i;
}
  where
    beyond : (m : ℕ) → suc (suc (number_front 16 0 rest)) < m → m ≤ length (48 ∷ 120 ∷ rest) → kind_of (take m (48 ∷ 120 ∷ rest)) ≡ None
    beyond zero l i = absurd (omega (arith, l))
    beyond (suc zero) l i = absurd (omega (arith, l))
    beyond (suc (suc m)) l i = let e : is_number 16 (take m rest) ≡ false = no_number_beyond 16 rest m (omega arith) (omega (arith, l)) (omega (arith, i)) in rw e refl

pub longest_hexadecimal : (text behind rest : List ℕ) (a b c n v : ℕ) → text ≡ a ∷ behind → behind ≡ b ∷ rest → a ≡ 48 → b ≡ 120 → c ≡ number_front 16 0 rest
    → v ≡ value 16 0 (take (number_front 16 0 rest) rest) → 0 < c → n ≡ 2 + c → IsLongest text n (Number v)
longest_hexadecimal text behind rest a b c n v t s a2 b2 e f p q =
    let base = hexadecimal_longest rest (omega (arith, e, p)) in
    let n2 : n ≡ suc (suc (number_front 16 0 rest)) = omega (arith, q, e) in
    rw (t, s, a2, b2, n2, f) base

digit_first : (base b : ℕ) (bs : List ℕ) → 0 < number_front base 0 (b ∷ bs) → is_digit base b ≡ true
digit_first base b bs h = go (is_digit base b) (nat_le (0 * base + digit_value b) 65535) h
  where
    go : (s t : Bool) → 0 < (if s && t then suc (number_front base (0 * base + digit_value b) bs) else 0) → s ≡ true
    go true t h = refl
    go false t h = absurd (omega (arith, h))

decimal_longest : (text : List ℕ) → NoHexadecimal text → 0 < number_front 10 0 text → IsLongest text (number_front 10 0 text) (Number (value 10 0 (take (number_front 10 0 text) text)))
decimal_longest [] x p = absurd (omega (arith, p))
decimal_longest (b ∷ bs) x p = record {
  here = here (number_front 10 0 (b ∷ bs)) p (is_number_front 10 (b ∷ bs) p);
  inside = (number_front_fits 10 0 (b ∷ bs) (omega arith)).1;
  longest = λ m l i. beyond m l i (no_number_beyond 10 (b ∷ bs) m (omega arith) l i) (x.none m i);
}
  where
    here : (n : ℕ) → 0 < n → is_number 10 (take n (b ∷ bs)) ≡ true → kind_of (take n (b ∷ bs)) ≡ Some (Number (value 10 0 (take n (b ∷ bs))))
    here zero h e = absurd (omega (arith, h))
    here (suc n) h e = rw (digit_no_lower b (digit_first 10 b bs p), e) refl

    beyond : (m : ℕ) → number_front 10 0 (b ∷ bs) < m → m ≤ length (b ∷ bs) → is_number 10 (take m (b ∷ bs)) ≡ false → is_hexadecimal (take m (b ∷ bs)) ≡ false → kind_of (take m (b ∷ bs)) ≡ None
    beyond zero l i e f = absurd (omega (arith, l))
    beyond (suc m) l i e f = rw (digit_no_lower b (digit_first 10 b bs p), e, f) (digit_no_sign b (take m bs) (digit_first 10 b bs p))

pub longest_decimal : (text : List ℕ) (c v : ℕ) → NoHexadecimal text → c ≡ number_front 10 0 text → v ≡ value 10 0 (take (number_front 10 0 text) text) → 0 < c → IsLongest text c (Number v)
longest_decimal text c v x e f p = rw (e, f) (decimal_longest text x (omega (arith, e, p)))

pub no_decimal : (text : List ℕ) (c : ℕ) → c ≡ number_front 10 0 text → c ≡ 0 → first_is (is_digit 10) text ≡ false
no_decimal [] c e z = refl
no_decimal (b ∷ bs) c e z = go (is_digit 10 b) refl
  where
    go : (s : Bool) → is_digit 10 b ≡ s → s ≡ false
    go false h = refl
    go true h = absurd (
        let d : digit_value b ≤ 9 = grind (arith, nat_tests, h) in
        let t : nat_le (0 * 10 + digit_value b) 65535 ≡ true = grind (arith, nat_tests, d) in
        let f : number_front 10 0 (b ∷ bs) ≡ suc (number_front 10 (0 * 10 + digit_value b) bs) = rw (h, t) refl in
        omega (arith, e, z, f))
