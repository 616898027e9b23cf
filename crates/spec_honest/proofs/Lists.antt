-- Lists of words over connections, and what items tell.
use Rattle.std.proofs.Common.{◌≡◌, ℕ, zero, suc, ◌+◌, ◌≤◌, ◌==◌, Bool, true, false, cond, if◌then◌else◌, List, [], ◌∷◌, ◌++◌, length, map, Some, slice_get, add-zero, refl, sym, ap, ◌∙◌, arith}
use Rattle.std.specs.Prelude.{flat_map}
use Rattle.std.specs.List.{position_from, list_all}
use Rattle.std.proofs.lemmas.Bool.{and_from}
use Rattle.std.proofs.lemmas.List.Folds.{list_all-append}
use Rattle.sx_trace.specs.declared.items.Item.{Item}
use Rattle.sx_trace.specs.declared.items.Item.TheVariants as item
use Rattle.spec_honest.specs.Plain.{Output, Waiting}
use Rattle.spec_honest.specs.Course.{packet_items, words_over}
use Rattle.spec_honest.specs.Told.{Taken, numbered, put_out}

-- words over a connection

cond-append : (b : Bool) (v : ℕ) (xs ys : List ℕ) → (if b then v ∷ (xs ++ ys) else xs ++ ys) ≡ (if b then v ∷ xs else xs) ++ ys
cond-append true v xs ys = refl
cond-append false v xs ys = refl

pub words-append : (c : ℕ) (xs ys : List Waiting) → words_over c (xs ++ ys) ≡ words_over c xs ++ words_over c ys
words-append c [] ys = refl
words-append c (x ∷ xs) ys =
    ap (λ zs. if x.link == c then x.value ∷ zs else zs) (words-append c xs ys) ∙ cond-append (x.link == c) x.value (words_over c xs) (words_over c ys)

pub words-few : (c : ℕ) (xs : List Waiting) → length (words_over c xs) ≤ length xs
words-few c [] = omega arith
words-few c (x ∷ xs) = go (x.link == c) (words-few c xs)
  where
    go : (b : Bool) → length (words_over c xs) ≤ length xs → length (if b then x.value ∷ words_over c xs else words_over c xs) ≤ suc (length xs)
    go true more = omega arith
    go false more = omega arith

-- what items tell

pub told-packets : {A : Type 0} (tells : Item → List A) → ((n len : ℕ) → tells (item.Packet n len) ≡ []) → (n len k : ℕ) → flat_map tells (packet_items n len k) ≡ []
told-packets tells quiet n len zero = refl
told-packets tells quiet n len (suc k) = ap (λ zs. zs ++ flat_map tells (packet_items (n + 1) len k)) (quiet n len) ∙ told-packets tells quiet (n + 1) len k

pub told-outs : {A : Type 0} (tells : Item → List A) (p : ℕ) → ((v : ℕ) → tells (item.Out p v) ≡ []) → (vs : List ℕ) → flat_map tells (map (λ v. item.Out p v) vs) ≡ []
told-outs tells p quiet [] = refl
told-outs tells p quiet (v ∷ vs) = ap (λ zs. zs ++ flat_map tells (map (λ v. item.Out p v) vs)) (quiet v) ∙ told-outs tells p quiet vs

pub put-outs : (p : ℕ) (vs : List ℕ) → flat_map put_out (map (λ v. item.Out p v) vs) ≡ map (λ v. record { part = p; value = v }) vs
put-outs p [] = refl
put-outs p (v ∷ vs) = ap (λ (zs : List Output). record { part = p; value = v } ∷ zs) (put-outs p vs)

-- numbers

pub numbered-push : (n : ℕ) (vs : List ℕ) (v : ℕ) → numbered n (vs ++ v ∷ []) ≡ numbered n vs ++ record { number = n + length vs; value = v } ∷ []
numbered-push n [] v = ap (λ (k : ℕ). record { number = k; value = v } ∷ []) (sym (add-zero n))
numbered-push n (x ∷ vs) v =
    let e : n + 1 + length vs ≡ n + suc (length vs) = omega arith in
    ap (λ (zs : List Taken). record { number = n; value = x } ∷ zs) (numbered-push (n + 1) vs v ∙ ap (λ (k : ℕ). numbered (n + 1) vs ++ record { number = k; value = v } ∷ []) e)

-- tests

pub all-append : (test : Item → Bool) (xs ys : List Item) → list_all test xs ≡ true → list_all test ys ≡ true → list_all test (xs ++ ys) ≡ true
all-append test xs ys f g = list_all-append test xs ys ∙ and_from (list_all test xs) (list_all test ys) f g

-- the first place of what passes a test

pub record Found {A : Type 0} (test : A → Bool) (i k : ℕ) (xs : List A) : Type 0 where
  pub place : ℕ
  pub is : k ≡ i + place
  pub found : A
  pub there : slice_get xs place ≡ Some found
  pub passes : test found ≡ true

pub found_at : {A : Type 0} (test : A → Bool) (i k : ℕ) (xs : List A) → position_from test i xs ≡ Some k → Found test i k xs
found_at test i k [] e = absurd cc
found_at test i k (x ∷ xs) e = go (test x) refl (λ e. found_at test (i + 1) k xs e) e
  where
    go : (b : Bool) → test x ≡ b → (position_from test (i + 1) xs ≡ Some k → Found test (i + 1) k xs) → cond b (Some i) (position_from test (i + 1) xs) ≡ Some k → Found test i k (x ∷ xs)
    go true t more e = record { place = 0; is = (let s : i ≡ k = cc in omega arith); found = x; there = refl; passes = t }
    go false t more e =
        let f = more e in
        record { place = suc f.place; is = (let s = f.is in omega arith); found = f.found; there = f.there; passes = f.passes }
