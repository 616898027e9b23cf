-- Whether a name of a list is before it, or in it twice.
use Rattle.std.proofs.Common.{◌≡◌, ℕ, ◌+◌, ◌<◌, Bool, true, false, ◌||◌, cond, nat_lt, List, [], ◌∷◌, ◌++◌, length, take, drop, get_or, count_by, refl, ap, sym, subst, ◌∙◌, append_assoc, arith}
use Rattle.std.specs.List.{list_any}
use Rattle.std.proofs.lemmas.Bool.Decides.{nat_tests}
use Rattle.std.proofs.lemmas.List.Sums.{sum_by-append}
use Rattle.std.proofs.lemmas.List.{get_or_default, length-take-le, take_more}
use Rattle.sx_check.specs.Names.{same}
use Rattle.sx_check.specs.Uses.{is_seen}
use Rattle.sx_check.proofs.Distinct.{same-true, same-refl, count_by-cons, none_counted, some_counted}
use Rattle.lemmas.proofs.Lists.{rest_is}

-- a name of the second list is in the first, or before it in the second
abbrev pub meets : List (List ℕ) → List (List ℕ) → Bool
meets seen [] = false
meets seen (x ∷ xs) = is_seen seen x || meets (seen ++ x ∷ []) xs

-- a name of the second list is in both together twice
abbrev twice : List (List ℕ) → List ℕ → Bool
twice all x = nat_lt 1 (count_by (same x) all)

module _ (seen : List (List ℕ)) (x : List ℕ) (xs : List (List ℕ)) where
  counted : count_by (same x) (seen ++ x ∷ xs) ≡ count_by (same x) seen + (1 + count_by (same x) xs)
  counted =
      let own = ap {B = ℕ} (λ (t : Bool). cond t 1 0 + count_by (same x) xs) (same-refl x) in
      sum_by-append (λ y. cond (same x y) 1 0) seen (x ∷ xs) ∙ ap (λ n. count_by (same x) seen + n) (count_by-cons (same x) x xs ∙ own)

  seen_twice : is_seen seen x ≡ true → twice (seen ++ x ∷ xs) x ≡ true
  seen_twice h = let c = counted in let s = some_counted (same x) seen h in grind (arith, nat_tests)

  later_twice : is_seen xs x ≡ true → twice (seen ++ x ∷ xs) x ≡ true
  later_twice h = let c = counted in let s = some_counted (same x) xs h in grind (arith, nat_tests)

  never_twice : is_seen seen x ≡ false → is_seen xs x ≡ false → twice (seen ++ x ∷ xs) x ≡ false
  never_twice h k = let c = counted in let s = none_counted (same x) seen h in let r = none_counted (same x) xs k in grind (arith, nat_tests)

-- one that is alike and is later is there as often
or_true : (b : Bool) → (b || true) ≡ true
or_true true = refl
or_true false = refl

again : (x : List ℕ) (all : List (List ℕ)) → twice all x ≡ true → (ys : List (List ℕ)) → is_seen ys x ≡ true → list_any (twice all) ys ≡ true
again x all h [] k = absurd (cc)
again x all h (y ∷ ys) k = go (same x y) refl k (again x all h ys)
  where
    go : (t : Bool) → same x y ≡ t → (t || is_seen ys x) ≡ true → (is_seen ys x ≡ true → list_any (twice all) ys ≡ true) → (twice all y || list_any (twice all) ys) ≡ true
    go true e k more = ap (λ b. b || list_any (twice all) ys) (subst (λ (z : List ℕ). twice all z ≡ true) (same-true x y e) h)
    go false e k more = ap (λ b. twice all y || b) (more k) ∙ or_true (twice all y)

pub meets_is : (seen xs : List (List ℕ)) → meets seen xs ≡ list_any (twice (seen ++ xs)) xs
meets_is seen [] = refl
meets_is seen (x ∷ xs) =
    ap (λ b. is_seen seen x || b) (meets_is (seen ++ x ∷ []) xs ∙ ap (λ all. list_any (twice all) xs) (append_assoc seen (x ∷ []) xs))
    ∙ go (is_seen seen x) refl (is_seen xs x) refl
  where
    go : (s : Bool) → is_seen seen x ≡ s → (r : Bool) → is_seen xs x ≡ r
        → (s || list_any (twice (seen ++ x ∷ xs)) xs) ≡ (twice (seen ++ x ∷ xs) x || list_any (twice (seen ++ x ∷ xs)) xs)
    go true e r f = ap (λ b. b || list_any (twice (seen ++ x ∷ xs)) xs) (sym (seen_twice seen x xs e))
    go false e true f =
        let t = later_twice seen x xs f in
        again x (seen ++ x ∷ xs) t xs f ∙ ap (λ b. b || list_any (twice (seen ++ x ∷ xs)) xs) (sym t)
    go false e false f = ap (λ b. b || list_any (twice (seen ++ x ∷ xs)) xs) (sym (never_twice seen x xs e f))

-- A walk along the names, at this place
module _ (names : List (List ℕ)) (place : ℕ) (x d : List ℕ) (within : place < length names) (here : x ≡ get_or names place d) where
  own : x ≡ get_or names place x
  own = here ∙ get_or_default names place d x within

  -- the names up to it
  pub one_more : take (place + 1) names ≡ take place names ++ x ∷ []
  one_more = take_more names place x within ∙ ap (λ y. take place names ++ y ∷ []) (sym own)

  pub so_many : length (take place names) ≡ place
  so_many = length-take-le place names (omega (arith, within))

  onward : meets (take place names) (drop place names) ≡ (is_seen (take place names) x || meets (take (place + 1) names) (drop (place + 1) names))
  onward =
      ap (meets (take place names)) (rest_is names place x within own)
      ∙ ap (λ seen. is_seen (take place names) x || meets seen (drop (place + 1) names)) (sym one_more)

  pub met : is_seen (take place names) x ≡ true → meets (take place names) (drop place names) ≡ true
  met h = onward ∙ ap (λ b. b || meets (take (place + 1) names) (drop (place + 1) names)) h

  pub unmet : is_seen (take place names) x ≡ false → meets (take place names) (drop place names) ≡ meets (take (place + 1) names) (drop (place + 1) names)
  unmet h = onward ∙ ap (λ b. b || meets (take (place + 1) names) (drop (place + 1) names)) h
