-- Names in a list: what an index of them answers, and which are in it twice.
use Rattle.std.proofs.Common.{◌≡◌, ℕ, ◌+◌, Bool, true, false, ◌&&◌, ◌||◌, cond, nat_lt, List, [], ◌∷◌, Option, Some, None, count_by, refl, ap, sym, subst, ◌∙◌, arith}
use Rattle.std.specs.List.{list_any}
use Rattle.std.specs.Str.{bytes_eq}
use Rattle.sx_lang.specs.declared.tree.Decl.{Decl}
use Rattle.sx_lang.specs.declared.tree.Decl.TheVariants.{Device, Input, Output, Var, Array}
use Rattle.sx_lang.specs.Tree.{HandlerTree}
use Rattle.sx_check.specs.declared.declared.Role.{Role}
use Rattle.sx_check.specs.declared.declared.Role.TheVariants.{Word, Element, Sending, Handling}
use Rattle.sx_check.specs.Names.{same, same_input, declares, is_declared, is_device, is_repeated, is_handled_twice, is_taken, has_taken, locals}
use Rattle.sx_check.specs.Uses.{declares_as, is_seen}
use Rattle.sx_check.specs.Listed.{before, names_by, name_as, names_as, inputs_of, is_in_twice}
use Rattle.sx_check.proofs.Distinct.{same-true, same-refl, count_by-cons, none_counted}

same-sym : (x y : List ℕ) → same x y ≡ same y x
same-sym x y = go (same x y) refl (same y x) refl
  where
    go : (s : Bool) → same x y ≡ s → (t : Bool) → same y x ≡ t → same x y ≡ same y x
    go true e true f = e ∙ sym f
    go false e false f = e ∙ sym f
    go true e false f = let r : same y x ≡ true = subst (λ (z : List ℕ). same z x ≡ true) (same-true x y e) (same-refl x) in absurd (cc)
    go false e true f = let r : same x y ≡ true = subst (λ (z : List ℕ). same z y ≡ true) (same-true y x f) (same-refl y) in absurd (cc)

regroup : (a b c d : Bool) → ((a || b) || (c || d)) ≡ ((a || c) || (b || d))
regroup true b c d = refl
regroup false true true d = refl
regroup false true false d = refl
regroup false false c d = refl

module _ {A : Type 0} where
  any_alike : (p q : A → Bool) → ((x : A) → p x ≡ q x) → (xs : List A) → list_any p xs ≡ list_any q xs
  any_alike p q h [] = refl
  any_alike p q h (x ∷ xs) = ap (λ b. b || list_any p xs) (h x) ∙ ap (λ b. q x || b) (any_alike p q h xs)

  count_alike : (p q : A → Bool) → ((x : A) → p x ≡ q x) → (xs : List A) → count_by p xs ≡ count_by q xs
  count_alike p q h [] = refl
  count_alike p q h (x ∷ xs) =
      count_by-cons p x xs ∙ ap (λ (b : Bool). cond b 1 0 + count_by p xs) (h x) ∙ ap (λ n. cond (q x) 1 0 + n) (count_alike p q h xs) ∙ sym (count_by-cons q x xs)

  -- one of two tests passes where one of them passes
  any_or : (p q : A → Bool) (xs : List A) → list_any (λ x. p x || q x) xs ≡ (list_any p xs || list_any q xs)
  any_or p q [] = refl
  any_or p q (x ∷ xs) = ap (λ b. (p x || q x) || b) (any_or p q xs) ∙ regroup (p x) (q x) (list_any p xs) (list_any q xs)

seen_is : (names : List (List ℕ)) (x : List ℕ) → list_any (λ name. bytes_eq name x) names ≡ is_seen names x
seen_is names x = any_alike (λ name. bytes_eq name x) (same x) (λ name. same-sym name x) names

-- what an index answers of the names that it is one of
pub found_is : (names : List (List ℕ)) (text x : List ℕ) (b : Bool) → b ≡ list_any (λ name. bytes_eq name text) names → text ≡ x → b ≡ is_seen names x
found_is names text x b given alike = given ∙ seen_is names text ∙ ap (is_seen names) alike

-- Things with a name each, or none
module _ {A : Type 0} (name : A → Option (List ℕ)) where
  -- the thing's name is this, or it has none where this is none
  abbrev named : Option (List ℕ) → A → Bool
  named x a = same_input x (name a)

  any_named : (x : List ℕ) (xs : List A) → is_seen (names_by name xs) x ≡ list_any (named (Some x)) xs
  any_named x [] = refl
  any_named x (a ∷ xs) = one (name a) ∙ ap (λ b. named (Some x) a || b) (any_named x xs)
    where
      one : (o : Option (List ℕ)) → is_seen (before o (names_by name xs)) x ≡ (same_input (Some x) o || is_seen (names_by name xs) x)
      one None = refl
      one (Some y) = refl

  count_named : (x : List ℕ) (xs : List A) → count_by (same x) (names_by name xs) ≡ count_by (named (Some x)) xs
  count_named x [] = refl
  count_named x (a ∷ xs) = one (name a) ∙ ap (λ n. cond (named (Some x) a) 1 0 + n) (count_named x xs) ∙ sym (count_by-cons (named (Some x)) a xs)
    where
      one : (o : Option (List ℕ)) → count_by (same x) (before o (names_by name xs)) ≡ cond (same_input (Some x) o) 1 0 + count_by (same x) (names_by name xs)
      one None = omega arith
      one (Some y) = count_by-cons (same x) y (names_by name xs)

  -- whether so many are alike
  abbrev alike : List A → A → Bool
  alike all a = nat_lt 1 (count_by (named (name a)) all)

  apart_by : (all xs : List A) → list_any (alike all) xs
      ≡ ((list_any (named None) xs && nat_lt 1 (count_by (named None) all)) || list_any (λ x. nat_lt 1 (count_by (named (Some x)) all)) (names_by name xs))
  apart_by all [] = refl
  apart_by all (a ∷ xs) = ap (λ b. alike all a || b) (apart_by all xs) ∙ one (name a)
    where
      unnamed : (d v r : Bool) → (d || ((v && d) || r)) ≡ (d || r)
      unnamed true v r = refl
      unnamed false true r = refl
      unnamed false false r = refl

      swapped : (t u r : Bool) → (t || (u || r)) ≡ (u || (t || r))
      swapped true true r = refl
      swapped true false r = refl
      swapped false u r = refl

      one : (o : Option (List ℕ)) → (nat_lt 1 (count_by (named o) all) || ((list_any (named None) xs && nat_lt 1 (count_by (named None) all))
          || list_any (λ x. nat_lt 1 (count_by (named (Some x)) all)) (names_by name xs)))
          ≡ (((same_input None o || list_any (named None) xs) && nat_lt 1 (count_by (named None) all)) || list_any (λ x. nat_lt 1 (count_by (named (Some x)) all)) (before o (names_by name xs)))
      one None = unnamed (nat_lt 1 (count_by (named None) all)) (list_any (named None) xs) (list_any (λ x. nat_lt 1 (count_by (named (Some x)) all)) (names_by name xs))
      one (Some y) =
          swapped (nat_lt 1 (count_by (named (Some y)) all)) (list_any (named None) xs && nat_lt 1 (count_by (named None) all)) (list_any (λ x. nat_lt 1 (count_by (named (Some x)) all)) (names_by name xs))

  some_unnamed : (all : List A) → (list_any (named None) all && nat_lt 1 (count_by (named None) all)) ≡ nat_lt 1 (count_by (named None) all)
  some_unnamed all = go (list_any (named None) all) refl
    where
      go : (t : Bool) → list_any (named None) all ≡ t → (t && nat_lt 1 (count_by (named None) all)) ≡ nat_lt 1 (count_by (named None) all)
      go true e = refl
      go false e = sym (ap (λ n. nat_lt 1 n) (none_counted (named None) all e))

  -- two are alike where two have no name, or a name is there twice
  pub alike_is : (all : List A) → list_any (alike all) all ≡ (nat_lt 1 (count_by (named None) all) || is_in_twice (names_by name all))
  alike_is all =
      apart_by all all
      ∙ ap (λ b. b || list_any (λ x. nat_lt 1 (count_by (named (Some x)) all)) (names_by name all)) (some_unnamed all)
      ∙ ap (λ b. nat_lt 1 (count_by (named None) all) || b)
      (any_alike (λ x. nat_lt 1 (count_by (named (Some x)) all)) (λ x. nat_lt 1 (count_by (same x) (names_by name all)))
      (λ x. ap (λ n. nat_lt 1 n) (sym (count_named x all))) (names_by name all))

-- Declarations
as_role : (role : Role) (x : List ℕ) (d : Decl) → named (name_as (Some role)) (Some x) d ≡ declares_as role x d
as_role Word x (Device k) = refl
as_role Word x (Input y) = refl
as_role Word x (Output y) = refl
as_role Word x (Var y n) = refl
as_role Word x (Array y n) = refl
as_role Element x (Device k) = refl
as_role Element x (Input y) = refl
as_role Element x (Output y) = refl
as_role Element x (Var y n) = refl
as_role Element x (Array y n) = refl
as_role Sending x (Device k) = refl
as_role Sending x (Input y) = refl
as_role Sending x (Output y) = refl
as_role Sending x (Var y n) = refl
as_role Sending x (Array y n) = refl
as_role Handling x (Device k) = refl
as_role Handling x (Input y) = refl
as_role Handling x (Output y) = refl
as_role Handling x (Var y n) = refl
as_role Handling x (Array y n) = refl

as_any : (x : List ℕ) (d : Decl) → named (name_as None) (Some x) d ≡ declares x d
as_any x (Device k) = refl
as_any x (Input y) = refl
as_any x (Output y) = refl
as_any x (Var y n) = refl
as_any x (Array y n) = refl

as_device : (d : Decl) → named (name_as None) None d ≡ is_device d
as_device (Device k) = refl
as_device (Input y) = refl
as_device (Output y) = refl
as_device (Var y n) = refl
as_device (Array y n) = refl

pub role_is : (role : Role) (ds : List Decl) (x : List ℕ) → is_seen (names_as (Some role) ds) x ≡ list_any (declares_as role x) ds
role_is role ds x = any_named (name_as (Some role)) x ds ∙ any_alike (named (name_as (Some role)) (Some x)) (declares_as role x) (as_role role x) ds

pub declared_is : (ds : List Decl) (x : List ℕ) → is_seen (names_as None ds) x ≡ is_declared ds x
declared_is ds x = any_named (name_as None) x ds ∙ any_alike (named (name_as None) (Some x)) (declares x) (as_any x) ds

repeated_alike : (ds : List Decl) (d : Decl) → is_repeated ds d ≡ alike (name_as None) ds d
repeated_alike ds (Device k) = ap (λ n. nat_lt 1 n) (sym (count_alike (named (name_as None) None) is_device as_device ds))
repeated_alike ds (Input y) = ap (λ n. nat_lt 1 n) (sym (count_alike (named (name_as None) (Some y)) (declares y) (as_any y) ds))
repeated_alike ds (Output y) = ap (λ n. nat_lt 1 n) (sym (count_alike (named (name_as None) (Some y)) (declares y) (as_any y) ds))
repeated_alike ds (Var y n) = ap (λ n. nat_lt 1 n) (sym (count_alike (named (name_as None) (Some y)) (declares y) (as_any y) ds))
repeated_alike ds (Array y n) = ap (λ n. nat_lt 1 n) (sym (count_alike (named (name_as None) (Some y)) (declares y) (as_any y) ds))

-- a name, or a device, is declared twice
pub repeated_is : (ds : List Decl) → list_any (is_repeated ds) ds ≡ (nat_lt 1 (count_by is_device ds) || is_in_twice (names_as None ds))
repeated_is ds =
    any_alike (is_repeated ds) (alike (name_as None) ds) (repeated_alike ds) ds
    ∙ alike_is (name_as None) ds
    ∙ ap (λ n. nat_lt 1 n || is_in_twice (names_as None ds)) (count_alike (named (name_as None) None) is_device as_device ds)

-- Handlers
pub handled_is : (hs : List HandlerTree) → list_any (is_handled_twice hs) hs ≡ (nat_lt 1 (count_by (λ g. same_input None g.input) hs) || is_in_twice (inputs_of hs))
unfolding is_handled_twice
handled_is hs = alike_is (λ (h : HandlerTree). h.input) hs

pub taken_is : (ds : List Decl) (h : HandlerTree) → has_taken ds h ≡ (list_any (is_declared ds) (locals h) || is_in_twice (locals h))
unfolding has_taken is_taken
taken_is ds h = any_or (is_declared ds) (λ x. nat_lt 1 (count_by (same x) (locals h))) (locals h)
