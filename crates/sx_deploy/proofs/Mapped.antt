-- Places in lists that are seen as others.
use Rattle.std.proofs.Common.{◌≡◌, ℕ, List, map, Option, Some, None, refl, sym, ◌∙◌}
use Rattle.std.specs.Str.{bytes_eq}
use Rattle.sx_index.specs.Places.{place_of}
use Rattle.sx_index.proofs.Indexed.{position-map}
use Rattle.sx_entries.specs.Entries.{place_among}

module _ {A B : Type 0} (v : A → B) where
  pub place_among-map : (name_of : B → List ℕ) (xs : List A) (name : Option (List ℕ)) → place_among (λ x. name_of (v x)) xs name ≡ place_among name_of (map v xs) name
  place_among-map name_of xs None = refl
  place_among-map name_of xs (Some name) = position-map v (λ e. bytes_eq (name_of e) name) xs

  pub place_of-among : (name_of : B → List ℕ) (xs : List A) (name : List ℕ) → place_of (map (λ x. name_of (v x)) xs) name ≡ place_among name_of (map v xs) (Some name)
  place_of-among name_of xs name = sym (position-map (λ x. name_of (v x)) (λ n. bytes_eq n name) xs) ∙ place_among-map name_of xs (Some name)
