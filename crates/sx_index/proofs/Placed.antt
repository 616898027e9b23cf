-- What the place of a name says of the list, and of its first names.
use Rattle.std.proofs.Common.{◌≡◌, ℕ, zero, suc, ◌+◌, Bool, true, false, not, ◌&&◌, ◌||◌, cond, nat_lt, List, [], ◌∷◌, length, take, Option, Some, None, is_some, refl, ap, sym, subst, ◌∙◌, arith}
use Rattle.std.specs.Prelude.{IfSome}
use Rattle.std.specs.List.{list_any, position_or_len}
use Rattle.std.specs.Str.{bytes_eq}
use Rattle.std.proofs.lemmas.Bool.Decides.{nat_tests}
use Rattle.sx_index.specs.Places.{place_of}

-- what holds of an option's value, if there is one, holds of the one that it is
pub some_of : {A : Type 0} (P : A → Type 0) (o : Option A) (x : A) → o ≡ Some x → IfSome o P → P x
some_of {A} P o x is h = let Q : Option A → Type 0 = λ o. IfSome o P in let here : Q (Some x) = subst Q is h in here

-- the first place that passes is before the end where one passes
first_lt : (n l m : ℕ) (t : Bool) → m ≡ l + 1 → nat_lt (cond (not t) (1 + n) 0) m ≡ (t || nat_lt n l)
first_lt n l m true e = grind (arith, nat_tests)
first_lt n l m false e = grind (arith, nat_tests)

and_true : (b : Bool) → (b && true) ≡ b
and_true true = refl
and_true false = refl

and_false : (b : Bool) → false ≡ (b && false)
and_false true = refl
and_false false = refl

not_below : (n : ℕ) → nat_lt n 0 ≡ false
not_below n = grind (arith, nat_tests)

below : (n c : ℕ) → nat_lt n c ≡ nat_lt (1 + n) (suc c)
below n c = grind (arith, nat_tests)

starts_below : (c : ℕ) → true ≡ nat_lt 0 (suc c)
starts_below c = grind (arith, nat_tests)

next_lt : (n c : ℕ) (t a : Bool) → (t || (nat_lt n c && a)) ≡ (nat_lt (cond (not t) (1 + n) 0) (suc c) && (t || a))
next_lt n c true a = ap (λ b. b && true) (starts_below c)
next_lt n c false a = ap (λ b. b && a) (below n c)

module _ {A : Type 0} (p : A → Bool) where
  lt_any : (xs : List A) → nat_lt (position_or_len p xs) (length xs) ≡ list_any p xs
  lt_any [] = refl
  lt_any (x ∷ xs) = first_lt (position_or_len p xs) (length xs) (length (x ∷ xs)) (p x) (omega arith) ∙ ap (λ b. p x || b) (lt_any xs)

  -- and it is among the first ones where one of these passes
  lt_take : (xs : List A) (count : ℕ) → list_any p (take count xs) ≡ (nat_lt (position_or_len p xs) count && list_any p xs)
  lt_take [] zero = refl
  lt_take [] (suc c) = and_false (nat_lt 0 (suc c))
  lt_take (x ∷ xs) zero = sym (ap (λ b. b && list_any p (x ∷ xs)) (not_below (position_or_len p (x ∷ xs))))
  lt_take (x ∷ xs) (suc c) = ap (λ b. p x || b) (lt_take xs c) ∙ next_lt (position_or_len p xs) c (p x) (list_any p xs)

pub is_some-cond : (b : Bool) (n : ℕ) → is_some (cond b (Some n) None) ≡ b
is_some-cond true n = refl
is_some-cond false n = refl

module _ (names : List (List ℕ)) (text : List ℕ) where
  abbrev is : List ℕ → Bool
  is = λ name. bytes_eq name text

  abbrev first : ℕ
  first = position_or_len is names

  -- a name has a place where it is in the list
  pub placed : is_some (place_of names text) ≡ list_any is names
  placed = is_some-cond (nat_lt first (length names)) first ∙ lt_any is names

  module _ (count : ℕ) where
    -- it is among the first ones where its place is one of theirs
    pub placed_before : (place : ℕ) → place_of names text ≡ Some place → nat_lt place count ≡ list_any is (take count names)
    placed_before place h = go (nat_lt first (length names)) refl h
      where
        go : (t : Bool) → nat_lt first (length names) ≡ t → cond t (Some first) None ≡ Some place → nat_lt place count ≡ list_any is (take count names)
        go false e h = absurd (cc)
        go true e h =
            let all : list_any is names ≡ true = sym (lt_any is names) ∙ e in
            let at : place ≡ first = cc in
            ap (λ n. nat_lt n count) at ∙ sym (and_true (nat_lt first count)) ∙ ap (λ b. nat_lt first count && b) (sym all) ∙ sym (lt_take is names count)

    pub placed_nowhere : place_of names text ≡ None → false ≡ list_any is (take count names)
    placed_nowhere h = go (nat_lt first (length names)) refl h
      where
        go : (t : Bool) → nat_lt first (length names) ≡ t → cond t (Some first) None ≡ None → false ≡ list_any is (take count names)
        go true e h = absurd (cc)
        go false e h =
            let none : list_any is names ≡ false = sym (lt_any is names) ∙ e in
            and_false (nat_lt first count) ∙ ap (λ b. nat_lt first count && b) (sym none) ∙ sym (lt_take is names count)
