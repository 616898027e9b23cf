-- An index after one more name.
use Rattle.std.proofs.Common.{◌≡◌, ℕ, ◌+◌, ◌<◌, ◌≤◌, Bool, true, false, not, cond, nat_lt, List, [], ◌∷◌, ◌++◌, length, Option, Some, None, is_some}
use Rattle.std.proofs.Common.{refl, sym, ap, subst, ◌∙◌, arith, map, length-append}
use Rattle.std.specs.List.{position, position_or_len}
use Rattle.std.specs.Str.{bytes_eq}
use Rattle.std.proofs.Math.Dec.{eqb}
use Rattle.std.proofs.lemmas.Bool.Decides.{nat_tests}
use Rattle.std.proofs.lemmas.List.{length-map}
use Rattle.std.proofs.lemmas.List.Folds.{position_or_len_push}
use Rattle.std.proofs.lemmas.List.Sums.{prefix_len-le-length}
use Rattle.std.proofs.lemmas.Slice.Eq.{bytes_eq-Decides}
use Rattle.std.proofs.lemmas.Option.{none-some}
use Rattle.indexmap.specs.IndexMap.{get}
use Rattle.sx_index.specs.Index.{IsNameIndex, IsNewTo, GrowsIndex}
use Rattle.sx_index.specs.Places.{place_of}
use Rattle.sx_index.specs.declared.index.NameIndex.{NameIndex}

-- the first place that passes, with one item more: first or-length places n of L items
there : (n l i k : ℕ) → cond (nat_lt n l) (Some n) None ≡ Some i → cond (nat_lt (cond (eqb n l) (l + k) n) (l + 1)) (Some (cond (eqb n l) (l + k) n)) None ≡ Some i
there n l i k h = grind (arith, nat_tests)

behind : (n l : ℕ) (b : Bool) → n ≤ l → cond (nat_lt n l) (Some n) None ≡ None
    → cond (nat_lt (cond (eqb n l) (l + cond b 0 1) n) (l + 1)) (Some (cond (eqb n l) (l + cond b 0 1) n)) None ≡ cond b (Some l) None
behind n l true le h = grind (arith, nat_tests)
behind n l false le h = grind (arith, nat_tests)

module _ (names : List (List ℕ)) (name text : List ℕ) where
  abbrev p : List ℕ → Bool
  p = λ n. bytes_eq n text

  -- a name that is before keeps its place
  pub place_of-there : (i : ℕ) → place_of names text ≡ Some i → place_of (names ++ name ∷ []) text ≡ Some i
  place_of-there i h = rw (position_or_len_push p names name, length-append names (name ∷ [])) (there (position_or_len p names) (length names) i (cond (p name) 0 1) h)

  -- and a new one follows the others
  pub place_of-behind : place_of names text ≡ None → place_of (names ++ name ∷ []) text ≡ cond (bytes_eq name text) (Some (length names)) None
  place_of-behind h = rw (position_or_len_push p names name, length-append names (name ∷ [])) (behind (position_or_len p names) (length names) (p name) (prefix_len-le-length (λ n. not (p n)) names) h)

-- a name that is listed already changes nothing
module _ (index : NameIndex) (names : List (List ℕ)) (name : List ℕ) (at : ℕ) (h : IsNameIndex index names) (listed : place_of names name ≡ Some at) where
  same : (text : List ℕ) → place_of (names ++ name ∷ []) text ≡ place_of names text
  same text = by (place_of names text) refl
    where
      other : (b : Bool) → bytes_eq name text ≡ b → place_of names text ≡ None → cond b (Some (length names)) None ≡ place_of names text
      other true e none = let alike : name ≡ text = (bytes_eq-Decides name text).0 e in absurd (none-some _ (sym none ∙ ap (place_of names) (sym alike) ∙ listed))
      other false e none = sym none

      by : (o : Option ℕ) → place_of names text ≡ o → place_of (names ++ name ∷ []) text ≡ place_of names text
      by (Some j) e = place_of-there names name text j e ∙ sym e
      by None e = place_of-behind names name text e ∙ other (bytes_eq name text) refl e

  pub index-again : IsNameIndex index (names ++ name ∷ [])
  index-again = record {
    gives = λ text. h.gives text ∙ sym (same text);
    sized = λ text i e. h.sized text i (sym (same text) ∙ e);
  }

pub none_of : (o : Option ℕ) → is_some o ≡ false → o ≡ None
none_of None h = refl
none_of (Some i) h = absurd (cc)

-- a name that an index doesn't give is in no list of its
pub is-new-to : (index : NameIndex) (name : List ℕ) (o : Option ℕ) → ((names : List (List ℕ)) → IsNameIndex index names → o ≡ place_of names name) → is_some o ≡ false → IsNewTo index name
is-new-to index name o says h = λ names is. sym (says names is) ∙ none_of o h

-- the old index takes in a name that it has
pub grows-again : (old : NameIndex) (name : List ℕ) (place : ℕ) (o : Option ℕ) → ((names : List (List ℕ)) → IsNameIndex old names → o ≡ place_of names name)
    → is_some o ≡ true → GrowsIndex old old name place
grows-again old name place None says h = absurd (cc)
grows-again old name place (Some at) says h = λ names len is. index-again old names name at is (sym (says names is))

-- and one that is new to it
module _ (old new : NameIndex) (name : List ℕ) (place : ℕ) (some : 0 < length name) (short : length name ≤ 16)
    (updates : (text : List ℕ) → get bytes_eq new.places text ≡ cond (bytes_eq name text) (Some place) (get bytes_eq old.places text)) where
  module _ (names : List (List ℕ)) (len : length names ≡ place) (h : IsNameIndex old names) (fresh : place_of names name ≡ None) where
    placed : (text : List ℕ) → place_of (names ++ name ∷ []) text ≡ cond (bytes_eq name text) (Some place) (place_of names text)
    placed text = by (bytes_eq name text) refl (place_of names text) refl
      where
        by : (b : Bool) → bytes_eq name text ≡ b → (o : Option ℕ) → place_of names text ≡ o → place_of (names ++ name ∷ []) text ≡ cond b (Some place) o
        by true e (Some i) f = let alike : name ≡ text = (bytes_eq-Decides name text).0 e in absurd (none-some _ (sym fresh ∙ ap (place_of names) alike ∙ f))
        by false e (Some i) f = place_of-there names name text i f
        by true e None f = place_of-behind names name text f ∙ ap (λ (b : Bool). cond b (Some (length names)) None) e ∙ ap Some len
        by false e None f = place_of-behind names name text f ∙ ap (λ (b : Bool). cond b (Some (length names)) None) e

    of_size : (text : List ℕ) (i : ℕ) → cond (bytes_eq name text) (Some place) (place_of names text) ≡ Some i → (0 < length text) × (length text ≤ 16)
    of_size text i e = by (bytes_eq name text) refl e
      where
        by : (b : Bool) → bytes_eq name text ≡ b → cond b (Some place) (place_of names text) ≡ Some i → (0 < length text) × (length text ≤ 16)
        by true f g = subst (λ (t : List ℕ). (0 < length t) × (length t ≤ 16)) ((bytes_eq-Decides name text).0 f) (some, short)
        by false f g = h.sized text i g

    index-new : IsNameIndex new (names ++ name ∷ [])
    index-new = record {
      gives = λ text. updates text ∙ ap (cond (bytes_eq name text) (Some place)) (h.gives text) ∙ sym (placed text);
      sized = λ text i e. of_size text i (sym (placed text) ∙ e);
    }

  pub grows-new : (o : Option ℕ) → ((names : List (List ℕ)) → IsNameIndex old names → o ≡ place_of names name) → is_some o ≡ false → GrowsIndex old new name place
  grows-new o says h = λ names len is. index-new names len is (sym (says names is) ∙ none_of o h)

-- what an index gives is the place in each list that its own is
pub place_is : (index : NameIndex) (names list : List (List ℕ)) (text : List ℕ) (o : Option ℕ) → names ≡ list → IsNameIndex index names
    → ((n : List (List ℕ)) → IsNameIndex index n → o ≡ place_of n text) → o ≡ place_of list text
place_is index names list text o e h says = says names h ∙ ap (λ n. place_of n text) e

-- the names of things, and the things by their names, have the same places
module _ {A B : Type 0} (v : A → B) where
  position_or_len-map : (p : B → Bool) (xs : List A) → position_or_len (λ x. p (v x)) xs ≡ position_or_len p (map v xs)
  position_or_len-map p [] = refl
  position_or_len-map p (x ∷ xs) = ap (λ n. cond (not (p (v x))) (1 + n) 0) (position_or_len-map p xs)

  pub position-map : (p : B → Bool) (xs : List A) → position (λ x. p (v x)) xs ≡ position p (map v xs)
  position-map p xs =
      subst (λ (n : ℕ). position (λ x. p (v x)) xs ≡ cond (nat_lt n (length (map v xs))) (Some n) None) (position_or_len-map p xs)
      (subst (λ (m : ℕ). position (λ x. p (v x)) xs ≡ cond (nat_lt (position_or_len (λ x. p (v x)) xs) m) (Some (position_or_len (λ x. p (v x)) xs)) None) (sym (length-map xs v)) refl)
