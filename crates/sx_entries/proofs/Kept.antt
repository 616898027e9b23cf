-- Names that are new keep a list of names apart.
use Rattle.std.proofs.Common.{◌≡◌, ℕ, Bool, true, false, ◌||◌, not, List, [], ◌∷◌, ◌++◌, map, length, Option, Some, None, Ok, refl, sym, ap, subst, ◌∙◌, if◌then◌else◌, ◌<◌}
use Rattle.std.specs.Str.{bytes_eq}
use Rattle.std.proofs.lemmas.List.Folds.{list_all-append, list_any-append}
use Rattle.std.proofs.lemmas.List.{map-append}
use Rattle.std.proofs.lemmas.List.Quantifiers.{position-Some}
use Rattle.std.proofs.lemmas.Bool.{and_parts, or_parts, not-true}
use Rattle.sx_lang.specs.Form.{is_name}
use Rattle.sx_trace.specs.Names.{deployer}
use Rattle.sx_trace.specs.ValidNames.{has_name, no_repeat}
use Rattle.sx_entries.specs.Stage.{in_entry}
use Rattle.sx_entries.specs.declared.fault.Sort.{Sort}
use Rattle.sx_entries.specs.Entries.{has_entry, fresh, place_among, not_reserved}
use Rattle.sx_entries.specs.Law.{AreNamed}
use Rattle.sx_entries.proofs.RowForms.{IsForm}
use Rattle.lemmas.proofs.Texts.{bytes_eq-sym}

-- a name that isn't among the others, after them
still_new : (names : List (List ℕ)) (x y : List ℕ) → has_name names y ≡ false → bytes_eq y x ≡ false → has_name (names ++ x ∷ []) y ≡ false
still_new names x y h e = rw (list_any-append (λ n. bytes_eq n y) names (x ∷ []), h, bytes_eq-sym x y ∙ e) refl

apart-snoc : (names : List (List ℕ)) (x : List ℕ) → no_repeat names ≡ true → has_name names x ≡ false → no_repeat (names ++ x ∷ []) ≡ true
apart-snoc [] x h n = refl
apart-snoc (y ∷ ys) x h n =
    let parts = and_parts (not (has_name ys y)) (no_repeat ys) h in
    let new = or_parts (bytes_eq y x) (has_name ys x) n in
    let first : has_name (ys ++ x ∷ []) y ≡ false = still_new ys x y (not-true _ parts.0) new.0 in
    let rest : no_repeat (ys ++ x ∷ []) ≡ true = apart-snoc ys x parts.1 new.1 in
    rw (first, rest) refl

pub named-snoc : (names : List (List ℕ)) (x : List ℕ) → AreNamed names → is_name x ≡ true → has_name names x ≡ false → AreNamed (names ++ x ∷ [])
named-snoc names x h f n = record {
  form = rw (list_all-append is_name names (x ∷ []), h.form, f) refl;
  apart = apart-snoc names x h.apart n;
}

pub none_named : AreNamed []
none_named = record { form = refl; apart = refl }

module _ {B : Type 0} (name_of : B → List ℕ) where
  has_entry-map : (entries : List B) (name : List ℕ) → has_entry name_of entries name ≡ has_name (map name_of entries) name
  has_entry-map [] name = refl
  has_entry-map (e ∷ es) name = ap (λ b. bytes_eq (name_of e) name || b) (has_entry-map es name)

  -- a name that is taken as new is in form, and new
  pub fresh-new : (done : List B) (o : Option (List ℕ)) (name : List ℕ) → IsForm o → fresh name_of done o ≡ Some name → (is_name name ≡ true) × (has_name (map name_of done) name ≡ false)
  fresh-new done None name f h = absurd (cc)
  fresh-new done (Some given) name f h = by_case (has_entry name_of done given) refl h
    where
      by_case : (b : Bool) → has_entry name_of done given ≡ b → (if b then None else Some given) ≡ Some name → (is_name name ≡ true) × (has_name (map name_of done) name ≡ false)
      by_case true e i = absurd (cc)
      by_case false e i =
          let same : given ≡ name = cc in
          (subst (λ n. is_name n ≡ true) same f, subst (λ n. has_name (map name_of done) n ≡ false) same (sym (has_entry-map done given) ∙ e))

  -- an entry under a new name keeps the names apart
  pub entry-named : (done : List B) (o : Option (List ℕ)) (b : B) → IsForm o → fresh name_of done o ≡ Some (name_of b) → AreNamed (map name_of done) → AreNamed (map name_of (done ++ b ∷ []))
  entry-named done o b f h old =
      let new = fresh-new done o (name_of b) f h in
      rw (map-append name_of done (b ∷ [])) (named-snoc (map name_of done) (name_of b) old new.0 new.1)

  -- the place of a name is a place of the list
  pub place-inside : (entries : List B) (o : Option (List ℕ)) (i : ℕ) (d : B) → place_among name_of entries o ≡ Some i → i < length entries
  place-inside entries None i d h = absurd (cc)
  place-inside entries (Some name) i d h = (position-Some (λ e. bytes_eq (name_of e) name) entries i d h).0

pub in_entry-Ok : {B : Type 0} (rule : ℕ) (sort : Sort) (n : ℕ) (o : Option B) (b : B) → in_entry rule sort n o ≡ Ok b → o ≡ Some b
in_entry-Ok rule sort n None b h = absurd (cc)
in_entry-Ok rule sort n (Some x) b h = cc

pub not_reserved-name : (new name : List ℕ) → not_reserved new ≡ Some name → (new ≡ name) × (bytes_eq name deployer ≡ false)
not_reserved-name new name h = by_case (bytes_eq new deployer) refl h
  where
    by_case : (b : Bool) → bytes_eq new deployer ≡ b → (if b then None else Some new) ≡ Some name → (new ≡ name) × (bytes_eq name deployer ≡ false)
    by_case true e i = absurd (cc)
    by_case false e i = let same : new ≡ name = cc in (same, subst (λ n. bytes_eq n deployer ≡ false) same e)

pub has_name-snoc : (names : List (List ℕ)) (x y : List ℕ) → has_name names y ≡ false → bytes_eq x y ≡ false → has_name (names ++ x ∷ []) y ≡ false
has_name-snoc names x y h e = rw (list_any-append (λ n. bytes_eq n y) names (x ∷ []), h, e) refl
