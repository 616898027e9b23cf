-- A text has one reading.
use Rattle.std.proofs.Common.{◌≡◌, ℕ, zero, suc, ◌<◌, Bool, true, false, ◌==◌, List, [], ◌∷◌, take, drop, nat_lt, Some, None, refl, sym, ap, ◌∙◌, subst, arith}
use Rattle.std.proofs.lemmas.Bool.Decides.{nat_tests}
use Rattle.std.proofs.lemmas.Bool.{and_parts, eqb-true}
use Rattle.sx_lex.specs.declared.tokens.Kind.{Kind}
use Rattle.sx_lex.specs.declared.tokens.Place.{Place}
use Rattle.sx_lex.specs.declared.tokens.Placed.{Placed}
use Rattle.sx_lex.specs.Words.{IsLongest, kind_of}
use Rattle.sx_lex.specs.Lexed.{along, is_space, begins_comment, Lexed, at_end, space, newline, comment, token, bad}
use Rattle.sx_lex.specs.Laws.{OneReading}

line_word : (m : ℕ) (bs : List ℕ) → kind_of (take m (10 ∷ bs)) ≡ None
line_word zero bs = refl
line_word (suc m) bs = go (take m bs)
  where
    go : (l : List ℕ) → kind_of (10 ∷ l) ≡ None
    go [] = refl
    go (x ∷ l) = refl

slash_word : (m : ℕ) (bs : List ℕ) → kind_of (take m (47 ∷ bs)) ≡ None
slash_word zero bs = refl
slash_word (suc m) bs = go (take m bs)
  where
    go : (l : List ℕ) → kind_of (47 ∷ l) ≡ None
    go [] = refl
    go (x ∷ l) = refl

blank_word : (m : ℕ) (bs : List ℕ) → kind_of (take m (32 ∷ bs)) ≡ None
blank_word zero bs = refl
blank_word (suc m) bs = go (take m bs)
  where
    go : (l : List ℕ) → kind_of (32 ∷ l) ≡ None
    go [] = refl
    go (x ∷ l) = refl

tab_word : (m : ℕ) (bs : List ℕ) → kind_of (take m (9 ∷ bs)) ≡ None
tab_word zero bs = refl
tab_word (suc m) bs = go (take m bs)
  where
    go : (l : List ℕ) → kind_of (9 ∷ l) ≡ None
    go [] = refl
    go (x ∷ l) = refl

space_word : (b m : ℕ) (bs : List ℕ) → is_space b ≡ true → kind_of (take m (b ∷ bs)) ≡ None
space_word b m bs h = go (b == 32) (b == 9) refl refl h
  where
    go : (s t : Bool) → (b == 32) ≡ s → (b == 9) ≡ t → is_space b ≡ true → kind_of (take m (b ∷ bs)) ≡ None
    go true t e f h = rw (eqb-true b 32 e) (blank_word m bs)
    go false true e f h = rw (eqb-true b 9 f) (tab_word m bs)
    go false false e f h = absurd (let x : false ≡ true = rw (e, f) at h in cc)

pub nil_word : (n : ℕ) → kind_of (take n []) ≡ None
nil_word zero = refl
nil_word (suc n) = refl

comment_word : (n : ℕ) (bs : List ℕ) → begins_comment bs ≡ true → kind_of (take n bs) ≡ None
comment_word n [] h = absurd (cc)
comment_word n (a ∷ []) h = absurd (cc)
comment_word n (a ∷ b ∷ bs) h = rw (eqb-true a 47 (and_parts _ _ h).0) (slash_word n (b ∷ bs))

space_no_comment : (b : ℕ) (bs : List ℕ) → is_space b ≡ true → begins_comment (b ∷ bs) ≡ true → ⊥
space_no_comment b [] s h = absurd (cc)
space_no_comment b (c ∷ bs) s h = let e : b ≡ 47 = eqb-true b 47 (and_parts _ _ h).0 in let x : is_space 47 ≡ true = ap is_space (sym e) ∙ s in cc

line_no_comment : (bs : List ℕ) → begins_comment (10 ∷ bs) ≡ true → ⊥
line_no_comment [] h = absurd (cc)
line_no_comment (c ∷ bs) h = absurd (cc)

no_word : (n : ℕ) (bs : List ℕ) (k : Kind) → kind_of (take n bs) ≡ None → IsLongest bs n k → ⊥
no_word n bs k e w = let x : None ≡ Some k = sym e ∙ w.here in cc

one_longest : (bs : List ℕ) (n m : ℕ) (k j : Kind) → IsLongest bs n k → IsLongest bs m j → n ≡ m
one_longest bs n m k j a b = go (nat_lt n m) (nat_lt m n) refl refl
  where
    go : (p q : Bool) → nat_lt n m ≡ p → nat_lt m n ≡ q → n ≡ m
    go true q e f = absurd (let lt : n < m = grind (arith, nat_tests, e) in let x = a.longest m lt b.inside in let y = b.here in let z : None ≡ Some j = sym x ∙ y in cc)
    go false true e f = absurd (let lt : m < n = grind (arith, nat_tests, f) in let x = b.longest n lt a.inside in let y = a.here in let z : None ≡ Some k = sym x ∙ y in cc)
    go false false e f = grind (arith, nat_tests, e, f)

one_kind : (bs : List ℕ) (n m : ℕ) (k j : Kind) → IsLongest bs n k → IsLongest bs m j → n ≡ m → k ≡ j
one_kind bs n m k j a b e = let x : Some k ≡ Some j = sym a.here ∙ ap (λ n. kind_of (take n bs)) e ∙ b.here in cc

same : {at end last : Place} {bs : List ℕ} {ts us : List Placed} → Lexed at bs ts end → Lexed at bs us last → (ts ≡ us) × (end ≡ last)
same at_end at_end = (refl, refl)
same at_end (comment h u) = absurd (cc)
same at_end (token {n = n} {k = k} w u) = absurd (no_word n [] k (nil_word n) w)
same (space s t) (space s2 u) = same t u
same (space s t) (newline u) = absurd (cc)
same (space {b = b} {bs = bs} s t) (comment h u) = absurd (space_no_comment b bs s h)
same (space {b = b} {bs = bs} s t) (token {n = n} {k = k} w u) = absurd (no_word n (b ∷ bs) k (space_word b n bs s) w)
same (space s t) (bad h g c n) = absurd (cc)
same (newline t) (space s u) = absurd (cc)
same (newline t) (newline u) = same t u
same (newline {bs = bs} t) (comment h u) = absurd (line_no_comment bs h)
same (newline {bs = bs} t) (token {n = n} {k = k} w u) = absurd (no_word n (10 ∷ bs) k (line_word n bs) w)
same (newline t) (bad h g c n) = absurd (cc)
same (comment h t) at_end = absurd (cc)
same (comment h t) (space {b = b} {bs = bs} s u) = absurd (space_no_comment b bs s h)
same (comment h t) (newline {bs = bs} u) = absurd (line_no_comment bs h)
same (comment h t) (comment h2 u) = same t u
same (comment {bs = bs} h t) (token {n = n} {k = k} w u) = absurd (no_word n bs k (comment_word n bs h) w)
same (comment h t) (bad s l c n) = absurd (cc)
same (token {n = n} {k = k} w t) at_end = absurd (no_word n [] k (nil_word n) w)
same (token {n = n} {k = k} w t) (space {b = b} {bs = bs} s u) = absurd (no_word n (b ∷ bs) k (space_word b n bs s) w)
same (token {n = n} {k = k} w t) (newline {bs = bs} u) = absurd (no_word n (10 ∷ bs) k (line_word n bs) w)
same (token {n = n} {bs = bs} {k = k} w t) (comment h u) = absurd (no_word n bs k (comment_word n bs h) w)
same (token {at = at} {n = n} {bs = bs} {k = k} w t) (token {end = last} {n = m} {k = j} {ts = us} v u) =
    let e = one_longest bs n m k j w v in
    let q = one_kind bs n m k j w v e in
    let u2 : Lexed (along at n) (drop n bs) us last = subst (λ (i : ℕ). Lexed (along at i) (drop i bs) us last) (sym e) u in
    let r = same t u2 in (let r0 = r.0 in cc, r.1)
same (token {n = n} {k = k} w t) (bad {b = b} {bs = bs} h g c none) = absurd (no_word n (b ∷ bs) k (none.none n w.inside) w)
same (bad h g c n) (space s u) = absurd (cc)
same (bad h g c n) (newline u) = absurd (cc)
same (bad s l c n) (comment h u) = absurd (cc)
same (bad {b = b} {bs = bs} h g c none) (token {n = n} {k = k} w u) = absurd (no_word n (b ∷ bs) k (none.none n w.inside) w)
same (bad h g c n) (bad h2 g2 c2 n2) = (refl, refl)

pub one_reading : OneReading
one_reading at end last bs ts us a b = same a b
