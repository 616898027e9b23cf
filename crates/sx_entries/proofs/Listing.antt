-- Entries and the index of their names.
use Rattle.std.proofs.Common.{◌≡◌, ℕ, suc, ◌+◌, cond, nat_lt, arith, Bool, true, false, List, [], ◌∷◌, map, length, Option, is_some, refl, sym, ◌∙◌}
use Rattle.std.specs.List.{position, position_or_len, list_any}
use Rattle.std.specs.Str.{bytes_eq}
use Rattle.std.proofs.lemmas.Bool.Decides.{nat_tests}
use Rattle.sx_index.specs.Places.{place_of}
use Rattle.sx_index.proofs.Indexed.{position-map}
use Rattle.sx_index.proofs.Placed.{is_some-cond}
use Rattle.lemmas.proofs.Numbers.{less_by_one}

-- the place of a name among the names is the place of its entry
pub place_entry : {B : Type 0} (name_of : B → List ℕ) (entries : List B) (name : List ℕ) (o : Option ℕ) → o ≡ place_of (map name_of entries) name
    → o ≡ position (λ e. bytes_eq (name_of e) name) entries
place_entry name_of entries name o h = h ∙ sym (position-map name_of (λ n. bytes_eq n name) entries)

first : (l : ℕ) → nat_lt 0 (suc l) ≡ true
first l = grind (arith, nat_tests)

-- a list has an item that passes where it has a place for one
pub some_any : {X : Type 0} (p : X → Bool) (xs : List X) → is_some (position p xs) ≡ list_any p xs
some_any p [] = refl
some_any p (x ∷ xs) = by (p x) refl (some_any p xs)
  where
    by : (b : Bool) → p x ≡ b → is_some (position p xs) ≡ list_any p xs → is_some (position p (x ∷ xs)) ≡ list_any p (x ∷ xs)
    by true e h = rw e (is_some-cond (nat_lt 0 (suc (length xs))) 0 ∙ first (length xs))
    by false e h = rw e (is_some-cond (nat_lt (1 + position_or_len p xs) (suc (length xs))) (1 + position_or_len p xs)
        ∙ less_by_one (position_or_len p xs) (length xs) ∙ sym (is_some-cond (nat_lt (position_or_len p xs) (length xs)) (position_or_len p xs)) ∙ h)
