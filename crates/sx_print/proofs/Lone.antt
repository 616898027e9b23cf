-- A word of two bytes or more has none of the bytes that are alone.
use Rattle.std.proofs.Common.{◌≡◌, ℕ, zero, suc, ◌+◌, ◌-◌, ◌<◌, ◌≤◌, Bool, true, false, ◌&&◌, ◌||◌, not, List, [], ◌∷◌, ◌++◌, length, take, Some, None, nat_le}
use Rattle.std.proofs.Common.{refl, ap, ◌∙◌, arith, ◌==◌, length-append}
use Rattle.std.specs.List.{list_all, list_any}
use Rattle.std.proofs.Math.Seq.{take-append_seam, take-append-add}
use Rattle.std.proofs.lemmas.List.{length-take-le}
use Rattle.std.proofs.lemmas.List.Folds.{list_any-append}
use Rattle.std.proofs.lemmas.Bool.Decides.{nat_tests}
use Rattle.std.proofs.lemmas.Bool.{and_right, eqb-true}
use Rattle.sx_lex.specs.declared.tokens.Kind.{Kind}
use Rattle.sx_lex.specs.declared.tokens.Kind.TheVariants.{Bang}
use Rattle.sx_lex.specs.Words.{is_name_byte, is_lower, is_digit, is_number, is_name, is_hexadecimal, found_in, signs, kind_of, IsLongest}
use Rattle.sx_lex.specs.Progress.{first_is}
use Rattle.sx_lex.proofs.Found.{not_found, long_no_sign}
use Rattle.sx_lex.proofs.Signs.{only_sign, other_second}

-- a line's end, a space, and the signs that are no part of another word
abbrev pub lones : List ℕ
lones = 10 ∷ 32 ∷ 38 ∷ 40 ∷ 41 ∷ 42 ∷ 43 ∷ 45 ∷ 59 ∷ 91 ∷ 93 ∷ 94 ∷ 123 ∷ 124 ∷ 125 ∷ 126 ∷ []

abbrev pub is_lone : ℕ → Bool
is_lone c = list_any (λ d. c == d) lones

among : (f : ℕ → Bool) (c : ℕ) (ds : List ℕ) → list_any (λ d. c == d) ds ≡ true → list_all (λ d. not (f d)) ds ≡ true → f c ≡ false
among f c [] h a = absurd (cc)
among f c (d ∷ ds) h a = go (c == d) (f d) refl refl h a (λ h a. among f c ds h a)
  where
    go : (t u : Bool) → (c == d) ≡ t → f d ≡ u → (t || list_any (λ d. c == d) ds) ≡ true → (not u && list_all (λ d. not (f d)) ds) ≡ true
        → (list_any (λ d. c == d) ds ≡ true → list_all (λ d. not (f d)) ds ≡ true → f c ≡ false) → f c ≡ false
    go t true e g h a again = absurd (cc)
    go true false e g h a again = ap f (eqb-true c d e) ∙ g
    go false false e g h a again = again h a

pub lone_is_not : (f : ℕ → Bool) (c : ℕ) → list_all (λ d. not (f d)) lones ≡ true → is_lone c ≡ true → f c ≡ false
lone_is_not f c a h = among f c lones h a

not_all : (f : ℕ → Bool) (u : List ℕ) → list_all (λ d. not (f d)) lones ≡ true → list_any is_lone u ≡ true → list_all f u ≡ false
not_all f [] a h = absurd (cc)
not_all f (x ∷ u) a h = go (is_lone x) refl h (λ h. not_all f u a h)
  where
    go : (t : Bool) → is_lone x ≡ t → (t || list_any is_lone u) ≡ true → (list_any is_lone u ≡ true → list_all f u ≡ false) → (f x && list_all f u) ≡ false
    go true e h again = let g : f x ≡ false = lone_is_not f x a e in rw g refl
    go false e h again = let g : list_all f u ≡ false = again h in rw g (and_right (f x) false refl)

no_name : (a : ℕ) (bs : List ℕ) → list_any is_lone (a ∷ bs) ≡ true → is_name (a ∷ bs) ≡ false
no_name a bs h = go (is_lower a) refl (not_all is_name_byte (a ∷ bs) refl h)
  where
    go : (t : Bool) → is_lower a ≡ t → (is_name_byte a && list_all is_name_byte bs) ≡ false → (is_lower a && (list_all is_name_byte bs && nat_le (length bs) 15)) ≡ false
    go false e g = rw e refl
    go true e g = let g2 : list_all is_name_byte bs ≡ false = rw e at g in rw (g2, and_right (is_lower a) false refl) refl

no_number : (base : ℕ) (u : List ℕ) → list_all (λ d. not (is_digit base d)) lones ≡ true → list_any is_lone u ≡ true → is_number base u ≡ false
no_number base [] a h = refl
no_number base (x ∷ u) a h = rw (not_all (is_digit base) (x ∷ u) a h) refl

no_hexadecimal : (a b : ℕ) (l : List ℕ) → list_any is_lone (a ∷ b ∷ l) ≡ true → is_hexadecimal (a ∷ b ∷ l) ≡ false
no_hexadecimal a b l h = go (is_lone a) (is_lone b) refl refl h
  where
    go : (t u : Bool) → is_lone a ≡ t → is_lone b ≡ u → (t || (u || list_any is_lone l)) ≡ true → ((a == 48 && b == 120) && is_number 16 l) ≡ false
    go true u e f h = rw (lone_is_not (λ d. d == 48) a refl e) refl
    go false true e f h = rw (lone_is_not (λ d. d == 120) b refl f, and_right (a == 48) false refl) refl
    go false false e f h = rw (no_number 16 l refl h) (and_right (a == 48 && b == 120) false refl)

no_sign : (u : List ℕ) → 2 ≤ length u → list_any is_lone u ≡ true → found_in signs u ≡ None
no_sign u l h = let m : nat_le 2 (length u) ≡ true = grind (arith, nat_tests, l) in not_found (λ w. not (nat_le 2 (length w) && list_any is_lone w)) signs u refl (rw (m, h) refl)

pub no_word : (u : List ℕ) → 2 ≤ length u → list_any is_lone u ≡ true → kind_of u ≡ None
no_word [] l h = absurd (cc)
no_word (a ∷ []) l h = absurd (omega (arith, l))
no_word (a ∷ b ∷ u) l h = rw (no_name a (b ∷ u) h, no_number 10 (a ∷ b ∷ u) refl h, no_hexadecimal a b u h) (no_sign (a ∷ b ∷ u) l h)

either : (x y z : Bool) → (x || y) ≡ true → (x || (y || z)) ≡ true
either true y z h = refl
either false true z h = refl
either false false z h = absurd (cc)

-- a word of one byte that is alone, or before one, is the longest
no_longer : (w rest : List ℕ) (m : ℕ) → 0 < length w → (list_any is_lone w || first_is is_lone rest) ≡ true → length w < m → m ≤ length (w ++ rest) → kind_of (take m (w ++ rest)) ≡ None
no_longer w rest m p h l i =
    no_word (take m (w ++ rest)) (let e : length (take m (w ++ rest)) ≡ m = length-take-le m (w ++ rest) i in omega (arith, e, l, p)) (has rest m h l i)
  where
    has : (rest : List ℕ) (m : ℕ) → (list_any is_lone w || first_is is_lone rest) ≡ true → length w < m → m ≤ length (w ++ rest) → list_any is_lone (take m (w ++ rest)) ≡ true
    has [] m h l i = absurd (let e : length (w ++ []) ≡ length w + 0 = length-append w [] in omega (arith, l, i, e))
    has (c ∷ rest) m h l i =
        let k = m - suc (length w) in
        let e : m ≡ length w + suc k = omega (arith, l) in
        rw e (rw (take-append-add w (c ∷ rest) (suc k)) (list_any-append is_lone w (c ∷ take k rest) ∙ either (list_any is_lone w) (is_lone c) (list_any is_lone (take k rest)) h))

pub some_word : (w : List ℕ) (k : Kind) → kind_of w ≡ Some k → 0 < length w
some_word [] k h = absurd (cc)
some_word (a ∷ w) k h = omega arith

pub longest : (w rest : List ℕ) (k : Kind) → kind_of w ≡ Some k → (list_any is_lone w || first_is is_lone rest) ≡ true → IsLongest (w ++ rest) (length w) k
longest w rest k e h = record {
  here = ap kind_of (take-append_seam w rest) ∙ e;
  inside = let l : length (w ++ rest) ≡ length w + length rest = length-append w rest in omega (arith, l);
  longest = λ m l i. no_longer w rest m (some_word w k e) h l i;
}

-- `!` before anything but `=`
no_longer_not : (rest : List ℕ) (m : ℕ) → first_is (λ b. b == 61) rest ≡ false → 1 < m → m ≤ length (33 ∷ rest) → kind_of (take m (33 ∷ rest)) ≡ None
no_longer_not rest zero h l i = absurd (omega (arith, l))
no_longer_not rest (suc zero) h l i = absurd (omega (arith, l))
no_longer_not [] (suc (suc m)) h l i = absurd (omega (arith, i))
no_longer_not (c ∷ rest) (suc (suc zero)) h l i = other_second 33 c h
no_longer_not (c ∷ rest) (suc (suc (suc m))) h l i =
    let e : length (take (suc m) rest) ≡ suc m = length-take-le (suc m) rest (omega (arith, i)) in
    only_sign 33 (c ∷ take (suc m) rest) refl refl ∙ long_no_sign (33 ∷ c ∷ take (suc m) rest) (omega (arith, e))

pub longest_not : (rest : List ℕ) → first_is (λ b. b == 61) rest ≡ false → IsLongest (33 ∷ rest) 1 Bang
longest_not rest h = record { here = refl; inside = omega arith; longest = λ m l i. no_longer_not rest m h l i }
