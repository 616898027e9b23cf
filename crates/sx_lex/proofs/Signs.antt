-- Where neither a name nor a number begins, a token is a sign.
use Rattle.std.proofs.Common.{◌≡◌, ℕ, zero, suc, ◌<◌, ◌≤◌, Bool, true, false, List, [], ◌∷◌, length, take, Some, None, refl, sym, ap, subst, ◌∙◌, arith, ◌==◌}
use Rattle.std.proofs.lemmas.List.{length-take-le, nil_from_length}
use Rattle.std.proofs.lemmas.Bool.Decides.{nat_tests}
use Rattle.sx_lex.specs.declared.tokens.Kind.{Kind}
use Rattle.sx_lex.specs.Words.{is_lower, is_digit, kind_of, found_in, signs, IsLongest, NoToken}
use Rattle.sx_lex.specs.Progress.{first_is, NoPair}
use Rattle.sx_lex.proofs.Found.{not_found, long_no_sign, no_prefix}
use Rattle.sx_lex.proofs.Same.{nil_word}

abbrev ends_in_equals : List ℕ → Bool
ends_in_equals (a ∷ b ∷ []) = b == 61
ends_in_equals _ = true

pub other_second : (a b : ℕ) → (b == 61) ≡ false → found_in signs (a ∷ b ∷ []) ≡ None
other_second a b h = not_found ends_in_equals signs (a ∷ b ∷ []) refl h

not_zero : (b : ℕ) → is_digit 10 b ≡ false → (b == 48) ≡ false
not_zero b h = go (b == 48) refl
  where
    go : (t : Bool) → (b == 48) ≡ t → t ≡ false
    go false e = refl
    go true e = absurd (let s : b ≡ 48 = grind (arith, nat_tests, e) in let h2 : is_digit 10 48 ≡ false = ap (is_digit 10) (sym s) ∙ h in cc)

pub only_sign : (b : ℕ) (l : List ℕ) → is_lower b ≡ false → is_digit 10 b ≡ false → kind_of (b ∷ l) ≡ found_in signs (b ∷ l)
only_sign b l h d = rw (h, d, no_prefix b l (not_zero b d)) refl

far : (b m : ℕ) (bs : List ℕ) → is_lower b ≡ false → is_digit 10 b ≡ false → 2 < m → m ≤ length (b ∷ bs) → kind_of (take m (b ∷ bs)) ≡ None
far b zero bs h d l i = absurd (omega (arith, l))
far b (suc m) bs h d l i = let e : length (take m bs) ≡ m = length-take-le m bs (omega (arith, i)) in only_sign b (take m bs) h d ∙ long_no_sign (b ∷ take m bs) (omega (arith, l, e))

pub pair_of_none : (text : List ℕ) → length text ≡ 0 → NoPair text
pair_of_none text h = record { none = λ l. absurd (omega (arith, l, h)) }

pub pair_of_one : (text behind : List ℕ) (b : ℕ) → text ≡ b ∷ behind → length behind ≡ 0 → NoPair text
pair_of_one text behind b t h = record { none = λ l. absurd (let e : length text ≡ suc (length behind) = ap length t in omega (arith, l, h, e)) }

pub no_pair : (text behind rest : List ℕ) (a b : ℕ) → text ≡ a ∷ behind → behind ≡ b ∷ rest → None ≡ found_in signs (a ∷ b ∷ []) → NoPair text
no_pair text behind rest a b t s e = record { none = λ l. rw (t, s) (sym e) }

pub longest_pair : (text behind rest : List ℕ) (a b : ℕ) (k : Kind) → text ≡ a ∷ behind → behind ≡ b ∷ rest → first_is is_lower text ≡ false
    → first_is (is_digit 10) text ≡ false → Some k ≡ found_in signs (a ∷ b ∷ []) → IsLongest text 2 k
longest_pair text behind rest a b k t s h d e =
    let h2 : is_lower a ≡ false = rw t at h in
    let d2 : is_digit 10 a ≡ false = rw t at d in
    rw (t, s) (record {
      here = only_sign a (b ∷ []) h2 d2 ∙ sym e;
      inside = omega arith;
      longest = λ m l i. far a m (b ∷ rest) h2 d2 l i;
    })

pub none_of_none : (text : List ℕ) → length text ≡ 0 → NoToken text
none_of_none text h = rw (nil_from_length text h) (record { none = λ m l. nil_word m })

two : (b : ℕ) (rest : List ℕ) → is_lower b ≡ false → is_digit 10 b ≡ false → NoPair (b ∷ rest) → (m : ℕ) → 1 < m → m ≤ length (b ∷ rest) → kind_of (take m (b ∷ rest)) ≡ None
two b rest h d p zero l i = absurd (omega (arith, l))
two b rest h d p (suc zero) l i = absurd (omega (arith, l))
two b rest h d p (suc (suc zero)) l i = only_sign b (take 1 rest) h d ∙ p.none i
two b rest h d p (suc (suc (suc m))) l i = far b (suc (suc (suc m))) rest h d (omega arith) i

pub no_sign : (text rest : List ℕ) (b : ℕ) → text ≡ b ∷ rest → first_is is_lower text ≡ false → first_is (is_digit 10) text ≡ false → NoPair text → None ≡ found_in signs (b ∷ []) → NoToken text
no_sign text rest b t h d p e =
    let h2 : is_lower b ≡ false = rw t at h in
    let d2 : is_digit 10 b ≡ false = rw t at d in
    let p2 : NoPair (b ∷ rest) = subst NoPair t p in
    rw t (record { none = go h2 d2 p2 })
  where
    go : is_lower b ≡ false → is_digit 10 b ≡ false → NoPair (b ∷ rest) → (m : ℕ) → m ≤ length (b ∷ rest) → kind_of (take m (b ∷ rest)) ≡ None
    go h2 d2 p2 zero l = refl
    go h2 d2 p2 (suc zero) l = only_sign b [] h2 d2 ∙ sym e
    go h2 d2 p2 (suc (suc m)) l = two b rest h2 d2 p2 (suc (suc m)) (omega arith) l

pub longest_sign : (text rest : List ℕ) (b : ℕ) (k : Kind) → text ≡ b ∷ rest → first_is is_lower text ≡ false → first_is (is_digit 10) text ≡ false
    → NoPair text → Some k ≡ found_in signs (b ∷ []) → IsLongest text 1 k
longest_sign text rest b k t h d p e =
    let h2 : is_lower b ≡ false = rw t at h in
    let d2 : is_digit 10 b ≡ false = rw t at d in
    let p2 : NoPair (b ∷ rest) = subst NoPair t p in
    rw t (record {
      here = only_sign b [] h2 d2 ∙ sym e;
      inside = omega arith;
      longest = λ m l i. two b rest h2 d2 p2 m l i;
    })
