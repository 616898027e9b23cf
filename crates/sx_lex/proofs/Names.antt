-- Beyond the name bytes at the start, no longer prefix is a token.
use Rattle.std.proofs.Common.{◌≡◌, ℕ, zero, suc, ◌+◌, ◌<◌, ◌≤◌, Bool, true, false, ◌&&◌, List, [], ◌∷◌, length, take, nat_le, if◌then◌else◌, None, refl, sym, ap, subst, ◌∙◌, arith, ◌==◌}
use Rattle.std.specs.List.{list_all}
use Rattle.std.proofs.lemmas.List.{length-take-le}
use Rattle.std.proofs.lemmas.Bool.Decides.{nat_tests}
use Rattle.std.proofs.lemmas.Bool.{and_right}
use Rattle.sx_lex.specs.declared.tokens.Kind.{Kind}
use Rattle.sx_lex.specs.declared.tokens.Kind.TheVariants.{Name}
use Rattle.sx_lex.specs.Words.{is_name_byte, is_lower, kind_of, or_else, found_in, keywords, IsLongest}
use Rattle.sx_lex.specs.Progress.{name_front}
use Rattle.sx_lex.proofs.Found.{lower_no_sign, lower_no_digit, no_prefix}

no_longer_name : (k : ℕ) (bs : List ℕ) (m : ℕ) → name_front k bs < m → m ≤ length bs → (list_all is_name_byte (take m bs) && nat_le m k) ≡ false
no_longer_name k bs zero h l = absurd (omega (arith, h))
no_longer_name zero bs (suc m) h l = let e : nat_le (suc m) 0 ≡ false = grind arith in rw e (and_right _ false refl)
no_longer_name (suc k) [] (suc m) h l = absurd (omega (arith, l))
no_longer_name (suc k) (b ∷ bs) (suc m) h l = go (is_name_byte b) refl h (λ h. no_longer_name k bs m h (omega (arith, l)))
  where
    go : (t : Bool) → is_name_byte b ≡ t → (if t then suc (name_front k bs) else 0) < suc m → (name_front k bs < m
        → (list_all is_name_byte (take m bs) && nat_le m k) ≡ false) → ((is_name_byte b && list_all is_name_byte (take m bs)) && nat_le (suc m) (suc k)) ≡ false
    go true e h again = let s : nat_le (suc m) (suc k) ≡ nat_le m k = grind arith in rw (e, s) (again (omega (arith, h)))
    go false e h again = rw e refl

name_front_fits : (k : ℕ) (bs : List ℕ) → (list_all is_name_byte (take (name_front k bs) bs) ≡ true) × (name_front k bs ≤ k) × (name_front k bs ≤ length bs)
name_front_fits zero bs = (refl, omega arith, omega arith)
name_front_fits (suc k) [] = (refl, omega arith, omega arith)
name_front_fits (suc k) (b ∷ bs) = go (is_name_byte b) refl (name_front_fits k bs)
  where
    go : (t : Bool) → is_name_byte b ≡ t → ((list_all is_name_byte (take (name_front k bs) bs) ≡ true) × (name_front k bs ≤ k) × (name_front k bs ≤ length bs))
        → (list_all is_name_byte (take (if t then suc (name_front k bs) else 0) (b ∷ bs)) ≡ true) × ((if t then suc (name_front k bs) else 0) ≤ suc k)
        × ((if t then suc (name_front k bs) else 0) ≤ length (b ∷ bs))
    go true e again = (rw e again.0, omega (arith, again.1), omega (arith, again.2))
    go false e again = (refl, omega arith, omega arith)

not_zero : (b : ℕ) → is_lower b ≡ true → (b == 48) ≡ false
not_zero b h = grind (arith, nat_tests)

name_longest : (b : ℕ) (bs : List ℕ) → is_lower b ≡ true
    → IsLongest (b ∷ bs) (suc (name_front 15 bs)) (or_else (found_in keywords (b ∷ take (name_front 15 bs) bs)) (Name (b ∷ take (name_front 15 bs) bs)))
name_longest b bs h =
    let n = name_front 15 bs in
    let f = name_front_fits 15 bs in
    let len : length (take n bs) ≡ n = length-take-le n bs f.2 in
    let short : nat_le n 15 ≡ true = grind (arith, nat_tests, f.1) in
    record {
      here = rw (h, f.0, len, short) refl;
      inside = omega (arith, f.2);
      longest = λ m l i. beyond m l i;
    }
  where
    beyond : (m : ℕ) → suc (name_front 15 bs) < m → m ≤ suc (length bs) → kind_of (take m (b ∷ bs)) ≡ None
    beyond zero l i = absurd (omega (arith, l))
    beyond (suc m) l i =
        let far : (list_all is_name_byte (take m bs) && nat_le m 15) ≡ false = no_longer_name 15 bs m (omega (arith, l)) (omega (arith, i)) in
        let len : length (take m bs) ≡ m = length-take-le m bs (omega (arith, i)) in
        let far2 : (list_all is_name_byte (take m bs) && nat_le (length (take m bs)) 15) ≡ false = rw len far in
        rw (h, far2, lower_no_digit b h, no_prefix b (take m bs) (not_zero b h)) (lower_no_sign b (take m bs) h)

pub longest_name : (text bs word : List ℕ) (b n : ℕ) (k : Kind) → text ≡ b ∷ bs → is_lower b ≡ true → n ≡ 1 + name_front 15 bs → word ≡ take n text
    → k ≡ or_else (found_in keywords word) (Name word) → IsLongest text n k
longest_name text bs word b n k t h l w e =
    let same : n ≡ suc (name_front 15 bs) = omega (arith, l) in
    let v : word ≡ b ∷ take (name_front 15 bs) bs = w ∙ ap (λ k. take k text) same ∙ ap (λ x. take (suc (name_front 15 bs)) x) t in
    let base = name_longest b bs h in
    rw (t, same) (subst (λ (k : Kind). IsLongest (b ∷ bs) (suc (name_front 15 bs)) k) (ap (λ w. or_else (found_in keywords w) (Name w)) (sym v) ∙ sym e) base)
