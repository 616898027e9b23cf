-- The lines of the images.
use Rattle.std.proofs.Common.{◌≡◌, ◌∙◌, ℕ, ◌≤◌, List, [], ◌∷◌, length, drop, map, refl, ap}
use Rattle.std.proofs.lemmas.List.{drop_all}
use Rattle.command_world.specs.Images.{images_text}

-- no module is left
pub no_images_named : (names : List (List ℕ)) (texts : List (List ℕ)) (i : ℕ) → length names ≤ i → images_text (drop i names) texts ≡ []
no_images_named names texts i h = ap (λ (ns : List (List ℕ)). images_text ns texts) (drop_all i names h)

without_images : (names : List (List ℕ)) → images_text names [] ≡ []
without_images [] = refl
without_images (name ∷ names) = refl

pub no_images : {X : Type 0} (text_of : X → List ℕ) (names : List (List ℕ)) (images : List X) (i : ℕ) → length images ≤ i
    → images_text names (map text_of (drop i images)) ≡ []
no_images text_of names images i h = ap (λ (xs : List _). images_text names (map text_of xs)) (drop_all i images h) ∙ without_images names
