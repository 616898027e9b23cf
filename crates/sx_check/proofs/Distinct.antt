-- What no two of a list share.
use Rattle.std.proofs.Common.{◌≡◌, ℕ, ◌+◌, ◌≤◌, Bool, true, false, ◌&&◌, ◌||◌, cond, List, [], ◌∷◌, Option, Some, None, count_by, refl, ap, ◌∙◌, arith}
use Rattle.std.specs.Prelude.{nat_eq}
use Rattle.std.specs.Cmp.Lexicographic.{pointwise}
use Rattle.std.specs.List.{list_any, All, AllPairs}
use Rattle.std.proofs.lemmas.Bool.{eqb-true, eq-eqb, or_parts}
use Rattle.std.proofs.lemmas.List.Elements.{All-nil, All-cons, All-head, All-tail, All-weaker}
use Rattle.std.proofs.lemmas.List.Kept.{AllPairs-cons}
use Rattle.std.proofs.lemmas.List.Sums.{sum_by-cons}
use Rattle.sx_check.specs.Names.{same, same_input}

pub same-true : (x y : List ℕ) → same x y ≡ true → x ≡ y
same-true [] [] h = refl
same-true [] (b ∷ y) h = absurd (cc)
same-true (a ∷ x) [] h = absurd (cc)
same-true (a ∷ x) (b ∷ y) h = go (nat_eq a b) refl h (same-true x y)
  where
    go : (t : Bool) → nat_eq a b ≡ t → (t && pointwise nat_eq x y) ≡ true → (same x y ≡ true → x ≡ y) → a ∷ x ≡ b ∷ y
    go true e h more = let p = eqb-true a b e in let q = more h in cc
    go false e h more = absurd (cc)

pub same-refl : (x : List ℕ) → same x x ≡ true
same-refl [] = refl
same-refl (a ∷ x) = ap (λ t. t && pointwise nat_eq x x) (eq-eqb a a refl) ∙ same-refl x

pub same_input-refl : (x : Option (List ℕ)) → same_input x x ≡ true
same_input-refl None = refl
same_input-refl (Some x) = same-refl x

module _ {A : Type 0} where
  pub count_by-cons : (p : A → Bool) (x : A) (xs : List A) → count_by p (x ∷ xs) ≡ cond (p x) 1 0 + count_by p xs
  count_by-cons p x xs = sum_by-cons (λ y. cond (p y) 1 0) x xs

  -- what no element is, is counted nowhere
  pub none_counted : (p : A → Bool) (xs : List A) → list_any p xs ≡ false → count_by p xs ≡ 0
  none_counted p [] h = refl
  none_counted p (x ∷ xs) h =
      let b = or_parts (p x) (list_any p xs) h in
      let c = ap {B = ℕ} (λ t. cond t 1 0) b.0 in
      omega (arith, count_by-cons p x xs, c, none_counted p xs b.1)

  pub some_counted : (p : A → Bool) (xs : List A) → list_any p xs ≡ true → 1 ≤ count_by p xs
  some_counted p [] h = absurd (cc)
  some_counted p (x ∷ xs) h = go (p x) refl h (some_counted p xs)
    where
      go : (t : Bool) → p x ≡ t → (t || list_any p xs) ≡ true → (list_any p xs ≡ true → 1 ≤ count_by p xs) → 1 ≤ count_by p (x ∷ xs)
      go true e h more = let c = ap {B = ℕ} (λ t. cond t 1 0) e in omega (arith, count_by-cons p x xs, c)
      go false e h more = let r = more h in omega (arith, count_by-cons p x xs, r)

  -- none of the elements is so
  pub all_not : (p : A → Bool) (xs : List A) → list_any p xs ≡ false → All (λ x. p x ≡ false) xs
  all_not p [] h = All-nil (λ x. p x ≡ false)
  all_not p (x ∷ xs) h = let b = or_parts (p x) (list_any p xs) h in All-cons (λ x. p x ≡ false) x xs b.0 (all_not p xs b.1)

  none_later : (r : A → A → Bool) (x : A) (xs : List A) → r x x ≡ true → count_by (r x) (x ∷ xs) ≤ 1 → All (λ y. r x y ≡ false) xs
  none_later r x xs own few = all_not (r x) xs (go (list_any (r x) xs) refl)
    where
      go : (t : Bool) → list_any (r x) xs ≡ t → t ≡ false
      go true e =
          let c = ap {B = ℕ} (λ t. cond t 1 0) own in
          let s = some_counted (r x) xs e in
          absurd (omega (arith, count_by-cons (r x) x xs, c, s, few))
      go false e = refl

  -- where each is related to one alone, itself, no two are
  pub apart : (r : A → A → Bool) → ((x : A) → r x x ≡ true) → (xs : List A) → All (λ x. count_by (r x) xs ≤ 1) xs → AllPairs (λ x y. r x y ≡ false) xs
  apart r own [] h = λ i j d k l. absurd (omega arith)
  apart r own (x ∷ xs) h =
      let all = λ (y : A). count_by (r y) (x ∷ xs) ≤ 1 in
      let later = λ (y : A). count_by (r y) xs ≤ 1 in
      AllPairs-cons (λ x y. r x y ≡ false) x xs (none_later r x xs (own x) (All-head all x xs h))
      (apart r own xs (All-weaker all later (λ y k. (let c = count_by-cons (r y) x xs in omega (arith, k, c))) xs (All-tail all x xs h)))

  pub pairs_weaker : (R S : A → A → Type 0) → ((x y : A) → R x y → S x y) → (xs : List A) → AllPairs R xs → AllPairs S xs
  pairs_weaker R S f xs h i j d k l = f _ _ (h i j d k l)
